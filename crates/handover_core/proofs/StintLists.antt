-- The ended stints of a bucket after one more item was sent.
use Rattle.std.proofs.Common.{◌≡◌, ◌≢◌, ℕ, List, [], ◌∷◌, ◌++◌, append_assoc, Bool, if◌then◌else◌, refl, sym, ap, ◌∙◌, eq-eqb, ne_eqb}
use Rattle.std.proofs.lemmas.List.{append-nil}
use Rattle.indirection.specs.Stints.{Stint, Joins}
use Rattle.indirection.proofs.Tests.{by_test}
use Rattle.handover_core.specs.declared.item.Kind.TheVariants.{First, Next, Mark}
use Rattle.handover_core.specs.declared.item.Item.{Item}
use Rattle.handover_core.specs.declared.item.Item.TheVariants.{Of, End}
use Rattle.handover_core.specs.Dispatch.{kind_at}
use Rattle.handover_core.specs.declared.post.Post.{Post}
use Rattle.handover_core.specs.Bucket.{stint_of}
use Rattle.handover_core.specs.Sound.{ended_by, begun_by, ended_stints}

-- where the newest stint begins
begun : ℕ → ℕ → List Post → ℕ
begun b from [] = from
begun b from (p ∷ ps) = begun b (begun_by b from p.item) ps

stints-push : (b from : ℕ) (ds : List Post) (p : Post) → ended_stints b from (ds ++ p ∷ []) ≡ ended_stints b from ds ++ ended_by b (begun b from ds) p.core p.item
unfolding begun
stints-push b from [] p = append-nil (ended_by b from p.core p.item)
stints-push b from (d ∷ ds) p =
    ap (λ (z : List Stint). ended_by b from d.core d.item ++ z) (stints-push b (begun_by b from d.item) ds p)
    ∙ sym (append_assoc (ended_by b from d.core d.item) (ended_stints b (begun_by b from d.item) ds) (ended_by b (begun b (begun_by b from d.item) ds) p.core p.item))

-- it begins where the ended stints lead to
begun-item : (b from core : ℕ) (x : Item) (rest : ℕ → List Stint) (next : ℕ → ℕ) (to : ℕ) → ((f : ℕ) → Joins f (rest f) to → next f ≡ to) → Joins from (ended_by b from core x ++ rest (begun_by b from x)) to → next (begun_by b from x) ≡ to
begun-item b from core (Of First q place) rest next to f j = f from j
begun-item b from core (Of Next q place) rest next to f j = f from j
begun-item b from core End rest next to f j = f from j
begun-item b from core (Of Mark q place) rest next to f j =
    by_test q b (λ t. Joins from ((if t then stint_of core from place ∷ [] else []) ++ rest (if t then place else from)) to → next (if t then place else from) ≡ to)
    (λ _ k. f place k.2) (λ _ k. f from k) j

begun-is : (b from : ℕ) (ds : List Post) (to : ℕ) → Joins from (ended_stints b from ds) to → begun b from ds ≡ to
unfolding begun
begun-is b from [] to j = j
begun-is b from (p ∷ ds) to j = begun-item b from p.core p.item (λ f. ended_stints b f ds) (λ f. begun b f ds) to (λ f k. begun-is b f ds to k) j

pub stints-packet : (b : ℕ) (ds : List Post) (o s k q place : ℕ) → ended_stints b 0 (ds ++ record { core = o; item = Of (kind_at s k) q place } ∷ []) ≡ ended_stints b 0 ds
stints-packet b ds o s k q place =
    stints-push b 0 ds (record { core = o; item = Of (kind_at s k) q place })
    ∙ by_test k s (λ t. ended_stints b 0 ds ++ ended_by b (begun b 0 ds) o (Of (if t then First else Next) q place) ≡ ended_stints b 0 ds) (λ _. append-nil (ended_stints b 0 ds)) (λ _. append-nil (ended_stints b 0 ds))

pub stints-end : (b : ℕ) (ds : List Post) (o : ℕ) → ended_stints b 0 (ds ++ record { core = o; item = End } ∷ []) ≡ ended_stints b 0 ds
stints-end b ds o = stints-push b 0 ds (record { core = o; item = End }) ∙ append-nil (ended_stints b 0 ds)

pub stints-mark_other : (b : ℕ) (ds : List Post) (o q place : ℕ) → q ≢ b → ended_stints b 0 (ds ++ record { core = o; item = Of Mark q place } ∷ []) ≡ ended_stints b 0 ds
stints-mark_other b ds o q place ne =
    stints-push b 0 ds (record { core = o; item = Of Mark q place })
    ∙ (ap (λ (t : Bool). ended_stints b 0 ds ++ (if t then stint_of o (begun b 0 ds) place ∷ [] else [])) (ne_eqb q b ne) ∙ append-nil (ended_stints b 0 ds))

pub stints-mark : (b : ℕ) (ds : List Post) (o place s : ℕ) → Joins 0 (ended_stints b 0 ds) s → ended_stints b 0 (ds ++ record { core = o; item = Of Mark b place } ∷ []) ≡ ended_stints b 0 ds ++ stint_of o s place ∷ []
stints-mark b ds o place s j =
    stints-push b 0 ds (record { core = o; item = Of Mark b place })
    ∙ (ap (λ (t : Bool). ended_stints b 0 ds ++ (if t then stint_of o (begun b 0 ds) place ∷ [] else [])) (eq-eqb b b refl)
    ∙ ap (λ (x : ℕ). ended_stints b 0 ds ++ stint_of o x place ∷ []) (begun-is b 0 ds s j))
