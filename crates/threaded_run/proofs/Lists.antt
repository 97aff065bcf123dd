-- Lists that are told element by element.
use Rattle.std.proofs.Common.{◌≡◌, ℕ, zero, suc, ◌+◌, ◌⊎◌, inl, inr, ⊎_elim, List, [], ◌∷◌, ◌++◌, length, map, Some, refl, sym, ap, ◌∙◌, subst, arith}
use Rattle.std.specs.Prelude.{slice_get}
use Rattle.std.proofs.lemmas.List.{length-map, map-append}
use Rattle.std.specs.List.{range_with_len}

module _ {A B : Type 0} where
  -- an element of a mapped list
  pub at_map : (f : A → B) (xs : List A) (i : ℕ) (y : B) → slice_get (map f xs) i ≡ Some y → (x : A) × (slice_get xs i ≡ Some x) × (f x ≡ y)
  at_map f [] i y e = absurd (cc)
  at_map f (x ∷ xs) zero y e = (x, refl, cc)
  at_map f (x ∷ xs) (suc i) y e = at_map f xs i y e

  pub map_at : (f : A → B) (xs : List A) (i : ℕ) (x : A) → slice_get xs i ≡ Some x → slice_get (map f xs) i ≡ Some (f x)
  map_at f [] i x e = absurd (cc)
  map_at f (y ∷ xs) zero x e = cc
  map_at f (y ∷ xs) (suc i) x e = map_at f xs i x e

  -- a list that is told by the places of its elements
  pub each_range : (g : A → B) (f : ℕ → B) (xs : List A) (start : ℕ) → ((c : ℕ) (x : A) → slice_get xs c ≡ Some x → g x ≡ f (start + c)) → map g xs ≡ map f (range_with_len start (length xs))
  each_range g f [] start each = refl
  each_range g f (x ∷ xs) start each =
      let here : g x ≡ f start = each 0 x refl ∙ ap f (omega arith) in
      let rest = each_range g f xs (start + 1) (λ c y at. each (suc c) y at ∙ ap f (omega arith)) in
      (λ i. here i ∷ rest i)

-- where two lists agree by what is read of each element, so do their elements
pub at_same : {A B C : Type 0} (f : A → C) (g : B → C) (xs : List A) (ys : List B) (i : ℕ) (x : A) → map f xs ≡ map g ys → slice_get xs i ≡ Some x → (y : B) × (slice_get ys i ≡ Some y) × (g y ≡ f x)
at_same {A} {B} {C} f g xs ys i x same at = at_map g ys i (f x) (ap (λ (l : List C). slice_get l i) (sym same) ∙ map_at f xs i x at)

pub map_twice : {A B C : Type 0} (g : B → C) (f : A → B) (xs : List A) → map g (map f xs) ≡ map (λ x. g (f x)) xs
map_twice g f [] = refl
map_twice g f (x ∷ xs) = ap (λ l. g (f x) ∷ l) (map_twice g f xs)

-- lists that agree by what is read of each element are equally long
pub same_long : {A B C : Type 0} (f : A → C) (g : B → C) (xs : List A) (ys : List B) → map f xs ≡ map g ys → length xs ≡ length ys
same_long f g xs ys same = sym (length-map xs f) ∙ (ap length same ∙ length-map ys g)

-- a list and its last element
module _ {X : Type 0} where
  at_last : (xs : List X) (x : X) → slice_get (xs ++ x ∷ []) (length xs) ≡ Some x
  at_last [] x = refl
  at_last (y ∷ xs) x = at_last xs x

  before_last : (xs : List X) (x y : X) (i : ℕ) → slice_get xs i ≡ Some y → slice_get (xs ++ x ∷ []) i ≡ Some y
  before_last [] x y i e = absurd (cc)
  before_last (z ∷ xs) x y zero e = e
  before_last (z ∷ xs) x y (suc i) e = before_last xs x y i e

  at_snoc : (xs : List X) (x y : X) (i : ℕ) → slice_get (xs ++ x ∷ []) i ≡ Some y → (slice_get xs i ≡ Some y) ⊎ ((i ≡ length xs) × (y ≡ x))
  at_snoc [] x y zero e = inr (refl, cc)
  at_snoc [] x y (suc i) e = absurd (cc)
  at_snoc (z ∷ xs) x y zero e = inl e
  at_snoc (z ∷ xs) x y (suc i) e = ⊎_elim (λ (h : slice_get xs i ≡ Some y). inl h) (λ (h : (i ≡ length xs) × (y ≡ x)). inr (ap suc h.0, h.1)) (at_snoc xs x y i e)

  pub last_at : (all xs : List X) (x : X) (n : ℕ) → all ≡ xs ++ x ∷ [] → length xs ≡ n → slice_get all n ≡ Some x
  last_at all xs x n is len = subst (λ (l : List X). slice_get l n ≡ Some x) (sym is) (subst (λ (k : ℕ). slice_get (xs ++ x ∷ []) k ≡ Some x) len (at_last xs x))

  pub front_at : (all xs : List X) (x y : X) (i : ℕ) → all ≡ xs ++ x ∷ [] → slice_get xs i ≡ Some y → slice_get all i ≡ Some y
  front_at all xs x y i is e = subst (λ (l : List X). slice_get l i ≡ Some y) (sym is) (before_last xs x y i e)

  -- P holds of each element with its place, where it holds of those before the last, and of the last
  pub each_snoc : (P : ℕ → X → Type 0) (all xs : List X) (x : X) (n : ℕ) → all ≡ xs ++ x ∷ [] → length xs ≡ n → ((i : ℕ) (y : X) → slice_get xs i ≡ Some y → P i y) → P n x → (i : ℕ) (y : X) → slice_get all i ≡ Some y → P i y
  each_snoc P all xs x n is len each last i y at =
      ⊎_elim (λ (h : slice_get xs i ≡ Some y). each i y h) (λ (h : (i ≡ length xs) × (y ≡ x)). subst (λ (z : ℕ × X). P z.0 z.1) (λ j. (sym (h.0 ∙ len) j, sym h.1 j)) last)
      (at_snoc xs x y i (subst (λ (l : List X). slice_get l i ≡ Some y) is at))

-- two lists that agree up to their last elements, and there
pub snoc_same : {A B C : Type 0} (f : A → C) (g : B → C) (xs xs0 : List A) (ys ys0 : List B) (x : A) (y : B) → xs ≡ xs0 ++ x ∷ [] → ys ≡ ys0 ++ y ∷ [] → map f xs0 ≡ map g ys0 → f x ≡ g y → map f xs ≡ map g ys
snoc_same {A} {B} {C} f g xs xs0 ys ys0 x y xi yi front last =
    ap (map f) xi ∙ (map-append f xs0 (x ∷ []) ∙ ((λ i. front i ++ last i ∷ []) ∙ (sym (map-append g ys0 (y ∷ [])) ∙ sym (ap (map g) yi))))

pub snoc_map : {A B : Type 0} (g : B → A) (xs xs0 : List A) (ys ys0 : List B) (x : A) (y : B) → xs ≡ xs0 ++ x ∷ [] → ys ≡ ys0 ++ y ∷ [] → xs0 ≡ map g ys0 → x ≡ g y → xs ≡ map g ys
snoc_map {A} {B} g xs xs0 ys ys0 x y xi yi front last =
    xi ∙ ((λ i. front i ++ last i ∷ []) ∙ (sym (map-append g ys0 (y ∷ [])) ∙ sym (ap (map g) yi)))
