-- Flows that are put into key order one by one.
use Rattle.std.proofs.Common.{◌≡◌, ℕ, ◌+◌, List, [], ◌∷◌, ◌++◌, Some, take, fold, slice_get, ap, ◌∙◌}
use Rattle.std.proofs.lemmas.Grind.{fold-append, take_at_read}
use Rattle.std.proofs.lemmas.Option.{slice_get_within, get_or_from_slice_get}
use Rattle.packet_fields.specs.Key.{key_cmp}
use Rattle.packet_fields.specs.KeyOrder.{derived_cmp, derived_is}

take_next : {X : Type 0} (xs : List X) (i : ℕ) (x : X) → slice_get xs i ≡ Some x → take (i + 1) xs ≡ take i xs ++ x ∷ []
take_next xs i x h = (take_at_read xs i x (slice_get_within xs i x h)).1 ∙ ap (λ y. take i xs ++ y ∷ []) (get_or_from_slice_get xs i x x h)

-- a fold over one element more
pub fold_next : {X B : Type 0} (f : B → X → B) (b : B) (xs : List X) (i : ℕ) (x : X) → slice_get xs i ≡ Some x → fold f b (take (i + 1) xs) ≡ f (fold f b (take i xs)) x
fold_next f b xs i x h = ap (fold f b) (take_next xs i x h) ∙ fold-append f b (take i xs) (x ∷ [])

-- the order that the map takes is the order of keys
pub order_is : derived_cmp ≡ key_cmp
order_is = λ i. λ a b. derived_is a b i
