-- The parts of a list by a number that each item has.
use Rattle.std.proofs.Common.{◌≡◌, ◌==◌, ℕ, zero, suc, ◌+◌, ◌<◌, ◌≤◌, Bool, true, false, cond, List, [], ◌∷◌, ◌++◌, length, Some, refl, ap, ◌∙◌, arith, slice_get}
use Rattle.std.specs.List.{filter, sum_by, range_with_len}
use Rattle.std.proofs.lemmas.Bool.{cond-true, cond-false, ne_eqb, eqb-true, eqb-false}
use Rattle.std.proofs.lemmas.List.Elements.{filter-append}
use Rattle.std.proofs.lemmas.List.Sums.{sum_by-cons}

-- how often a number stands in a run
counts_none : (x a n : ℕ) → x < a → sum_by (λ b. cond (x == b) 1 0) (range_with_len a n) ≡ 0
counts_none x a zero h = refl
counts_none x a (suc n) h =
    sum_by-cons (λ b. cond (x == b) 1 0) a (range_with_len (a + 1) n)
    ∙ ap (λ (m : ℕ). m + sum_by (λ b. cond (x == b) 1 0) (range_with_len (a + 1) n)) (cond-false (x == a) 1 0 (ne_eqb x a (λ e. omega arith)))
    ∙ ap (λ (m : ℕ). 0 + m) (counts_none x (a + 1) n (omega arith))

counts_one : (x a n : ℕ) → a ≤ x → x < a + n → sum_by (λ b. cond (x == b) 1 0) (range_with_len a n) ≡ 1
counts_one x a zero h l = absurd (omega arith)
counts_one x a (suc n) h l =
    sum_by-cons (λ b. cond (x == b) 1 0) a (range_with_len (a + 1) n) ∙ first (x == a) refl (λ above. counts_one x (a + 1) n above (omega arith))
  where
    first : (s : Bool) → (x == a) ≡ s → (a + 1 ≤ x → sum_by (λ b. cond (x == b) 1 0) (range_with_len (a + 1) n) ≡ 1) → cond (x == a) 1 0 + sum_by (λ b. cond (x == b) 1 0) (range_with_len (a + 1) n) ≡ 1
    first true e behind =
        ap (λ (m : ℕ). m + sum_by (λ b. cond (x == b) 1 0) (range_with_len (a + 1) n)) (cond-true (x == a) 1 0 e)
        ∙ ap (λ (m : ℕ). 1 + m) (counts_none x (a + 1) n (let same : x ≡ a = eqb-true x a e in omega arith))
    first false e behind =
        ap (λ (m : ℕ). m + sum_by (λ b. cond (x == b) 1 0) (range_with_len (a + 1) n)) (cond-false (x == a) 1 0 e)
        ∙ ap (λ (m : ℕ). 0 + m) (behind (let other = eqb-false x a e in omega arith))

-- one more item counts in its part
parts-cons : {X : Type 0} (f : X → ℕ) (x : X) (xs : List X) (ys : List ℕ) → sum_by (λ b. length (filter (λ z. f z == b) (x ∷ xs))) ys ≡ sum_by (λ b. cond (f x == b) 1 0) ys + sum_by (λ b. length (filter (λ z. f z == b) xs)) ys
parts-cons {X = X} f x xs [] = refl
parts-cons {X = X} f x xs (y ∷ ys) =
    let all = sum_by-cons (λ b. length (filter (λ z. f z == b) (x ∷ xs))) y ys in
    let one = sum_by-cons (λ b. cond (f x == b) 1 0) y ys in
    let others = sum_by-cons (λ b. length (filter (λ z. f z == b) xs)) y ys in
    let ih = parts-cons f x xs ys in
    let here = counted (f x == y) x (filter (λ z. f z == y) xs) in omega arith
  where
    counted : (s : Bool) (x : X) (zs : List X) → length (cond s (x ∷ zs) zs) ≡ cond s 1 0 + length zs
    counted true x zs = omega arith
    counted false x zs = omega arith

-- all parts together have all items
pub parts-total : {X : Type 0} (f : X → ℕ) (n : ℕ) → ((x : X) → f x < n) → (xs : List X) → sum_by (λ b. length (filter (λ z. f z == b) xs)) (range_with_len 0 n) ≡ length xs
parts-total f n h [] = none (range_with_len 0 n)
  where
    none : (ys : List ℕ) → sum_by (λ b. 0) ys ≡ 0
    none [] = refl
    none (y ∷ ys) = none ys
parts-total f n h (x ∷ xs) =
    let all = parts-cons f x xs (range_with_len 0 n) in
    let one = counts_one (f x) 0 n (omega arith) (omega (arith, h x)) in
    let ih = parts-total f n h xs in omega arith

-- an item of its part stands behind the items of the part before it
pub part-place : {X : Type 0} (p : X → Bool) (before after : List X) (x : X) → p x ≡ true → slice_get (filter p (before ++ x ∷ after)) (length (filter p before)) ≡ Some x
part-place {X = X} p before after x h =
    ap (λ l. slice_get l (length (filter p before))) (filter-append p before (x ∷ after) ∙ ap (λ l. filter p before ++ l) (cond-true (p x) (x ∷ filter p after) (filter p after) h))
    ∙ seam (filter p before) (filter p after) x
  where
    seam : (xs ys : List X) (x : X) → slice_get (xs ++ x ∷ ys) (length xs) ≡ Some x
    seam [] ys x = refl
    seam (z ∷ xs) ys x = seam xs ys x
