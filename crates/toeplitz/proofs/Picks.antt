-- What a test picks from a run of numbers, and the exclusive or of a list that goes on.
use Rattle.std.proofs.Common.{◌≡◌, ℕ, zero, suc, ◌+◌, ◌<◌, Bool, true, false, cond, List, [], ◌∷◌, ◌++◌, map, refl, sym, ap, ◌∙◌, arith, add-zero, zero-add, bit_xor}
use Rattle.std.proofs.lemmas.List.{map-append}
use Rattle.std.proofs.lemmas.List.Elements.{filter-append}
use Rattle.std.proofs.lemmas.List.Sums.{fold-append}
use Rattle.std.specs.List.{filter, fold, range_with_len}
use Rattle.std.specs.Int.Bits.{xor_assoc, xor_zero_r, xor_zero_l}
use Rattle.toeplitz.specs.Toeplitz.{exclusive_or}

-- a run in two parts
pub range-append : (a m n : ℕ) → range_with_len a (m + n) ≡ range_with_len a m ++ range_with_len (a + m) n
range-append a zero n = rw (add-zero a, zero-add n) refl
range-append a (suc m) n =
    let e : suc m + n ≡ suc (m + n) = omega arith in
    let f : a + suc m ≡ a + 1 + m = omega arith in
    rw (e, f) (ap (λ (r : List ℕ). a ∷ r) (range-append (a + 1) m n))

-- what a test picks from two runs, where it answers alike and what is made of the places is alike
pub picks-same : (p q : ℕ → Bool) (f g : ℕ → ℕ) (a b n : ℕ) → ((i : ℕ) → i < n → p (a + i) ≡ q (b + i)) → ((i : ℕ) → i < n → f (a + i) ≡ g (b + i)) → map f (filter p (range_with_len a n)) ≡ map g (filter q (range_with_len b n))
picks-same p q f g a b zero tests values = refl
picks-same p q f g a b (suc n) tests values =
    let test : p a ≡ q b = ap p (sym (add-zero a)) ∙ tests 0 (omega arith) ∙ ap q (add-zero b) in
    let value : f a ≡ g b = ap f (sym (add-zero a)) ∙ values 0 (omega arith) ∙ ap g (add-zero b) in
    let moved : (c i : ℕ) → c + 1 + i ≡ c + suc i = λ c i. omega arith in
    let ih = picks-same p q f g (a + 1) (b + 1) n
    (λ i h. ap p (moved a i) ∙ tests (suc i) (omega arith) ∙ sym (ap q (moved b i)))
    (λ i h. ap f (moved a i) ∙ values (suc i) (omega arith) ∙ sym (ap g (moved b i))) in
    one_more (p a) (q b) f g a b (filter p (range_with_len (a + 1) n)) (filter q (range_with_len (b + 1) n)) test value ih
  where
    one_more : (s t : Bool) (f g : ℕ → ℕ) (x y : ℕ) (xs ys : List ℕ) → s ≡ t → f x ≡ g y → map f xs ≡ map g ys → map f (cond s (x ∷ xs) xs) ≡ map g (cond t (y ∷ ys) ys)
    one_more true true f g x y xs ys e v r = cc
    one_more false false f g x y xs ys e v r = r
    one_more true false f g x y xs ys e v r = cc
    one_more false true f g x y xs ys e v r = cc

-- the same for one run
pub picks-here : (p q : ℕ → Bool) (f : ℕ → ℕ) (n : ℕ) → ((i : ℕ) → i < n → p i ≡ q i) → map f (filter p (range_with_len 0 n)) ≡ map f (filter q (range_with_len 0 n))
picks-here p q f n tests =
    picks-same p q f f 0 0 n (λ i h. ap p (zero-add i) ∙ tests i h ∙ ap q (sym (zero-add i))) (λ i h. refl)

-- the same for a run that begins later
pub picks-moved : (p q : ℕ → Bool) (f g : ℕ → ℕ) (a n : ℕ) → ((i : ℕ) → i < n → p (a + i) ≡ q i) → ((i : ℕ) → i < n → f (a + i) ≡ g i) → map f (filter p (range_with_len a n)) ≡ map g (filter q (range_with_len 0 n))
picks-moved p q f g a n tests values =
    picks-same p q f g a 0 n (λ i h. tests i h ∙ ap q (sym (zero-add i))) (λ i h. values i h ∙ ap g (sym (zero-add i)))

-- an exclusive or from a start
fold-from : (a : ℕ) (ys : List ℕ) → fold bit_xor a ys ≡ bit_xor a (exclusive_or ys)
fold-from a [] = sym (xor_zero_r a)
fold-from a (y ∷ ys) =
    fold-from (bit_xor a y) ys ∙ xor_assoc a y (exclusive_or ys)
    ∙ ap (bit_xor a) (ap (λ (z : ℕ). bit_xor z (exclusive_or ys)) (sym (xor_zero_l y)) ∙ sym (fold-from (bit_xor 0 y) ys))

-- the exclusive or of a list that goes on
pub exclusive_or-append : (xs ys : List ℕ) → exclusive_or (xs ++ ys) ≡ bit_xor (exclusive_or xs) (exclusive_or ys)
exclusive_or-append xs ys = fold-append bit_xor 0 xs ys ∙ fold-from (exclusive_or xs) ys

-- the exclusive or of what is picked from a run in two parts
pub picks-parts : (p : ℕ → Bool) (f : ℕ → ℕ) (m n : ℕ) → exclusive_or (map f (filter p (range_with_len 0 (m + n)))) ≡ bit_xor (exclusive_or (map f (filter p (range_with_len 0 m)))) (exclusive_or (map f (filter p (range_with_len m n))))
picks-parts p f m n =
    ap (λ (r : List ℕ). exclusive_or (map f (filter p r))) (range-append 0 m n ∙ ap (λ (k : ℕ). range_with_len 0 m ++ range_with_len k n) (zero-add m))
    ∙ ap (λ (r : List ℕ). exclusive_or (map f r)) (filter-append p (range_with_len 0 m) (range_with_len m n))
    ∙ ap exclusive_or (map-append f (filter p (range_with_len 0 m)) (filter p (range_with_len m n)))
    ∙ exclusive_or-append (map f (filter p (range_with_len 0 m))) (map f (filter p (range_with_len m n)))
