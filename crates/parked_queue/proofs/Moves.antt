-- Parking and taking, on the lists of a lot.
use Rattle.std.proofs.Common.{◌≡◌, ℕ, ◌<◌, List, [], ◌∷◌, ◌++◌, length, get_or, set, refl, sym, ap, ◌∙◌, subst}
use Rattle.packet_pool.specs.declared.cell.Facts.{Facts}
use Rattle.parked_queue.specs.Parked.{waits, parked, unparked, also_waits, still_waits, but_first, removed}
use Rattle.parked_queue.specs.Lined.{IsLined}
use Rattle.parked_queue.proofs.Lines.{lined_first, lined_some, lined_none}

module _ (cells : List (List Facts)) (line : List ℕ) (b : ℕ) where
  pub parked_is : (cells' : List (List Facts)) (line' : List ℕ) (f : Facts) → b ≡ f.bucket → cells' ≡ set cells b (get_or cells b [] ++ f ∷ []) → line' ≡ also_waits (get_or cells b []) b line → waits cells' line' ≡ parked f (waits cells line)
  parked_is cells' line' f is put lined =
      (λ i. waits ((put ∙ ap (λ c. set cells c (get_or cells c [] ++ f ∷ [])) is) i) ((lined ∙ ap (λ c. also_waits (get_or cells c []) c line) is) i))

  pub unparked_is : (cells' : List (List Facts)) (line' : List ℕ) (g : Facts) (gs : List Facts) → get_or cells b [] ≡ g ∷ gs → cells' ≡ set cells b gs → line' ≡ still_waits gs b line → waits cells' line' ≡ unparked b (waits cells line)
  unparked_is cells' line' g gs some put lined =
      (λ i. waits ((put ∙ ap (λ c. set cells b (but_first c)) (sym some)) i) ((lined ∙ ap (λ c. still_waits (but_first c) b line) (sym some)) i))

  module _ (room : ℕ) (h : IsLined cells line room) (near : b < length cells) where
    lined_behind : (f : Facts) (old : List Facts) → get_or cells b [] ≡ old → IsLined (set cells b (old ++ f ∷ [])) (also_waits old b line) room
    lined_behind f [] e = lined_first cells line room b h f [] (line ++ b ∷ []) room near refl e refl
    lined_behind f (g ∷ gs) e = lined_some cells line room b h g g (gs ++ f ∷ []) gs room near refl e

    -- a cell was parked
    pub lined_parked : (f : Facts) → IsLined (set cells b (get_or cells b [] ++ f ∷ [])) (also_waits (get_or cells b []) b line) room
    lined_parked f = lined_behind f (get_or cells b []) refl

    -- the oldest cell was taken
    pub lined_unparked : (g : Facts) (gs : List Facts) → get_or cells b [] ≡ g ∷ gs → IsLined (set cells b gs) (still_waits gs b line) room
    lined_unparked g [] e = lined_none cells line room b h g [] (removed b line) room near refl e refl
    lined_unparked g (f ∷ fs) e = lined_some cells line room b h f g fs (f ∷ fs) room near refl e

pub lined_same : (cells cells' : List (List Facts)) (line line' : List ℕ) (room room' : ℕ) → cells' ≡ cells → line' ≡ line → room' ≡ room → IsLined cells line room → IsLined cells' line' room'
lined_same cells cells' line line' room room' e f g h = subst (λ (y : List (List Facts) × List ℕ × ℕ). IsLined y.0 y.1 y.2) (λ i. (sym e i, sym f i, sym g i)) h
