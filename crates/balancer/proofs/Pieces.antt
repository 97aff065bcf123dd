-- The first line of a text, and the first part of a line.
use Rattle.std.proofs.Common.{◌≡◌, ℕ, suc, ◌+◌, ◌<◌, ◌≤◌, List, [], ◌∷◌, ◌++◌, length, take, drop, Bool, true, false, not, cond, if◌then◌else◌, ◌==◌, ltb, Some, None, refl, sym, ap, ◌∙◌, ⊎_elim, arith}
use Rattle.std.specs.Prelude.{unwrap_or}
use Rattle.std.specs.List.{position, position_or_len}
use Rattle.std.proofs.lemmas.Bool.{cases_Bool, ltb-false}
use Rattle.std.proofs.lemmas.List.{append-nil}
use Rattle.std.proofs.lemmas.List.Sums.{prefix_len-le-length}
use Rattle.balancer.specs.Lines.{grown, lines, parts}

-- lists that are cut behind each byte k
abbrev pub Cuts : ℕ → (List ℕ → List (List ℕ)) → Type 0
Cuts k F = (x : ℕ) (xs : List ℕ) → F (x ∷ xs) ≡ (if x == k then [] ∷ F xs else grown x (F xs))

-- up to the first byte k of a front
pub cut : (k : ℕ) (F : List ℕ → List (List ℕ)) → Cuts k F → (xs ys : List ℕ) → position_or_len (λ byte. byte == k) xs < length xs
    → F (xs ++ ys) ≡ take (position_or_len (λ byte. byte == k) xs) xs ∷ F (drop (position_or_len (λ byte. byte == k) xs + 1) xs ++ ys)
cut k F step [] ys h = absurd (omega arith)
cut k F step (x ∷ xs) ys h = step x (xs ++ ys) ∙ either (cut k F step xs ys) (x == k) h where
  either : (position_or_len (λ byte. byte == k) xs < length xs → F (xs ++ ys) ≡ take (position_or_len (λ byte. byte == k) xs) xs ∷ F (drop (position_or_len (λ byte. byte == k) xs + 1) xs ++ ys)) → (b : Bool) → cond (not b) (1 + position_or_len (λ byte. byte == k) xs) 0 < suc (length xs)
      → (if b then [] ∷ F (xs ++ ys) else grown x (F (xs ++ ys))) ≡ take (cond (not b) (1 + position_or_len (λ byte. byte == k) xs) 0) (x ∷ xs) ∷ F (drop (cond (not b) (1 + position_or_len (λ byte. byte == k) xs) 0 + 1) (x ∷ xs) ++ ys)
  either rest true g = refl
  either rest false g =
      let one : suc (position_or_len (λ byte. byte == k) xs) ≡ 1 + position_or_len (λ byte. byte == k) xs = omega arith in
      let two : suc (position_or_len (λ byte. byte == k) xs + 1) ≡ 1 + position_or_len (λ byte. byte == k) xs + 1 = omega arith in
      ap (grown x) (rest (omega arith))
      ∙ (ap (λ (i : ℕ). take i (x ∷ xs) ∷ F (drop (position_or_len (λ byte. byte == k) xs + 1) xs ++ ys)) one ∙ ap (λ (i : ℕ). take (1 + position_or_len (λ byte. byte == k) xs) (x ∷ xs) ∷ F (drop i (x ∷ xs) ++ ys)) two)

-- without a byte k
pub whole : (k : ℕ) (F : List ℕ → List (List ℕ)) → Cuts k F → ((x : ℕ) → grown x (F []) ≡ (x ∷ []) ∷ []) → (xs : List ℕ) → 0 < length xs → length xs ≤ position_or_len (λ byte. byte == k) xs → F xs ≡ xs ∷ []
whole k F step end [] s h = absurd (omega arith)
whole k F step end (x ∷ []) s h = step x [] ∙ either (x == k) h where
  either : (b : Bool) → 1 ≤ cond (not b) (1 + 0) 0 → (if b then [] ∷ F [] else grown x (F [])) ≡ (x ∷ []) ∷ []
  either true g = absurd (omega arith)
  either false g = end x
whole k F step end (x ∷ y ∷ ys) s h = step x (y ∷ ys) ∙ either (whole k F step end (y ∷ ys)) (x == k) h where
  either : (0 < suc (length ys) → suc (length ys) ≤ position_or_len (λ byte. byte == k) (y ∷ ys) → F (y ∷ ys) ≡ (y ∷ ys) ∷ []) → (b : Bool) → suc (suc (length ys)) ≤ cond (not b) (1 + position_or_len (λ byte. byte == k) (y ∷ ys)) 0 → (if b then [] ∷ F (y ∷ ys) else grown x (F (y ∷ ys))) ≡ (x ∷ y ∷ ys) ∷ []
  either rest true g = absurd (omega arith)
  either rest false g = ap (grown x) (rest (omega arith) (omega arith))

-- a front without a byte k is a front of the first list
pub long_front : (k : ℕ) (F : List ℕ → List (List ℕ)) → Cuts k F → (xs ys : List ℕ) → 0 < length xs → length xs ≤ position_or_len (λ byte. byte == k) xs → (l : List ℕ) × (ls : List (List ℕ)) × (F (xs ++ ys) ≡ l ∷ ls) × (length xs ≤ length l)
long_front k F step [] ys s h = absurd (omega arith)
long_front k F step (x ∷ []) ys s h = either (x == k) h (step x ys) where
  grows : (ps : List (List ℕ)) → (l : List ℕ) × (ls : List (List ℕ)) × (grown x ps ≡ l ∷ ls) × (1 ≤ length l)
  grows [] = (x ∷ [], [], refl, omega arith)
  grows (p ∷ ps) = (x ∷ p, ps, refl, omega arith)

  either : (b : Bool) → 1 ≤ cond (not b) (1 + 0) 0 → F (x ∷ ys) ≡ (if b then [] ∷ F ys else grown x (F ys)) → (l : List ℕ) × (ls : List (List ℕ)) × (F (x ∷ ys) ≡ l ∷ ls) × (1 ≤ length l)
  either true g e = absurd (omega arith)
  either false g e = let r = grows (F ys) in (r.0, r.1, e ∙ r.2, r.3)
long_front k F step (x ∷ y ∷ zs) ys s h = either (long_front k F step (y ∷ zs) ys) (x == k) h (step x (y ∷ (zs ++ ys))) where
  either : (0 < suc (length zs) → suc (length zs) ≤ position_or_len (λ byte. byte == k) (y ∷ zs) → (l : List ℕ) × (ls : List (List ℕ)) × (F (y ∷ (zs ++ ys)) ≡ l ∷ ls) × (suc (length zs) ≤ length l)) → (b : Bool) → suc (suc (length zs)) ≤ cond (not b) (1 + position_or_len (λ byte. byte == k) (y ∷ zs)) 0 → F (x ∷ y ∷ (zs ++ ys)) ≡ (if b then [] ∷ F (y ∷ (zs ++ ys)) else grown x (F (y ∷ (zs ++ ys)))) → (l : List ℕ) × (ls : List (List ℕ)) × (F (x ∷ y ∷ (zs ++ ys)) ≡ l ∷ ls) × (suc (suc (length zs)) ≤ length l)
  either rest true g e = absurd (omega arith)
  either rest false g e = let r = rest (omega arith) (omega arith) in
      let m = r.3 in (x ∷ r.0, r.1, e ∙ ap (grown x) r.2, omega arith)

-- the same of lines and of parts

pub line_cut : (xs ys : List ℕ) → position_or_len (λ byte. byte == 10) xs < length xs → lines (xs ++ ys) ≡ take (position_or_len (λ byte. byte == 10) xs) xs ∷ lines (drop (position_or_len (λ byte. byte == 10) xs + 1) xs ++ ys)
line_cut xs ys h = cut 10 lines (λ x xs. refl) xs ys h

pub line_whole : (xs : List ℕ) → 0 < length xs → length xs ≤ position_or_len (λ byte. byte == 10) xs → lines xs ≡ xs ∷ []
line_whole xs s h = whole 10 lines (λ x xs. refl) (λ x. refl) xs s h

pub line_long : (xs ys : List ℕ) → 0 < length xs → length xs ≤ position_or_len (λ byte. byte == 10) xs → (l : List ℕ) × (ls : List (List ℕ)) × (lines (xs ++ ys) ≡ l ∷ ls) × (length xs ≤ length l)
line_long xs ys s h = long_front 10 lines (λ x xs. refl) xs ys s h

pub part_cut : (xs : List ℕ) → position_or_len (λ byte. byte == 32) xs < length xs → parts xs ≡ take (position_or_len (λ byte. byte == 32) xs) xs ∷ parts (drop (position_or_len (λ byte. byte == 32) xs + 1) xs)
part_cut xs h = ap parts (sym (append-nil xs)) ∙ (cut 32 parts (λ x xs. refl) xs [] h ∙ ap (λ (z : List ℕ). take (position_or_len (λ byte. byte == 32) xs) xs ∷ parts z) (append-nil (drop (position_or_len (λ byte. byte == 32) xs + 1) xs)))

pub part_whole : (xs : List ℕ) → length xs ≤ position_or_len (λ byte. byte == 32) xs → parts xs ≡ xs ∷ []
part_whole [] h = refl
part_whole (x ∷ xs) h = whole 32 parts (λ x xs. refl) (λ x. refl) (x ∷ xs) (omega arith) h

-- the place that is found, or the length
pub place_is : (p : ℕ → Bool) (xs : List ℕ) → unwrap_or (position p xs) (length xs) ≡ position_or_len p xs
place_is p xs = ⊎_elim
    (λ (t : ltb (position_or_len p xs) (length xs) ≡ true). ap (λ (b : Bool). unwrap_or (cond b (Some (position_or_len p xs)) None) (length xs)) t)
    (λ (t : ltb (position_or_len p xs) (length xs) ≡ false). let h = ltb-false (position_or_len p xs) (length xs) t in let g = prefix_len-le-length (λ x. not (p x)) xs in
    ap (λ (b : Bool). unwrap_or (cond b (Some (position_or_len p xs)) None) (length xs)) t ∙ omega arith)
    (cases_Bool (ltb (position_or_len p xs) (length xs)))

pub place-le : (k : ℕ) (xs : List ℕ) → position_or_len (λ x. x == k) xs ≤ length xs
place-le k xs = prefix_len-le-length (λ x. not (x == k)) xs
