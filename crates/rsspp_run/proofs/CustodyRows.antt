-- Small lists by computation.
use Rattle.std.proofs.Common.{◌≡◌, [], ◌∷◌, refl}
use Rattle.handover_core.specs.declared.item.Kind.TheVariants.{First, Next, Mark}
use Rattle.handover_core.specs.declared.item.Item.TheVariants.{Of, End}
use Rattle.handover_core.specs.Spans.{spans_in}
use Rattle.rsspp_run.specs.Serial.{by_place}

-- a bucket that goes and comes back, with another one's items between
goes_and_comes : spans_in 0 (Of First 0 0 ∷ Of First 1 0 ∷ Of Next 0 1 ∷ Of Mark 0 2 ∷ Of First 0 5 ∷ Of Next 1 1 ∷ Of Next 0 6 ∷ End ∷ []) ≡ (0, 2) ∷ (5, 7) ∷ []
goes_and_comes = refl

-- a mark ends the stretch: nothing goes on
marked_off : spans_in 0 (Of First 0 0 ∷ Of Mark 0 1 ∷ End ∷ []) ≡ (0, 1) ∷ []
marked_off = refl

in_place : by_place (record { bucket = 0; core = 1; from = 2; to = 5 } ∷ record { bucket = 1; core = 0; from = 0; to = 1 } ∷ record { bucket = 0; core = 0; from = 0; to = 2 } ∷ record { bucket = 0; core = 0; from = 5; to = 6 } ∷ [])
    ≡ record { bucket = 0; core = 0; from = 0; to = 2 } ∷ record { bucket = 0; core = 1; from = 2; to = 5 } ∷ record { bucket = 0; core = 0; from = 5; to = 6 } ∷ record { bucket = 1; core = 0; from = 0; to = 1 } ∷ []
in_place = refl
