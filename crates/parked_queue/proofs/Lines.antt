-- The line of waiting buckets: each stands there once, and there is room for one more.
use Rattle.std.proofs.Common.{◌≡◌, ◌≢◌, ℕ, zero, suc, ◌+◌, ◌<◌, ◌≤◌, true, false, cond, eqb, List, [], ◌∷◌, ◌++◌, length, get_or, set, refl, sym, ap, ◌∙◌, subst, arith, eq-eqb, ne_eqb, length-set, length-append, get_or-set_same, get_or-set_other}
use mathlib.Core.Logic.{dite}
use native.Mathlib.Decide.{ℕ_discrete, dec_lt}
use Rattle.std.specs.Prelude.{◌||◌}
use Rattle.std.specs.List.{IsDistinct, list_any, AllByRecursion}
use Rattle.std.proofs.lemmas.Map.Steps.{length-le_from_distinct_below}
use Rattle.std.proofs.lemmas.List.{get_or_past}
use Rattle.indirection.proofs.Tests.{by_test}
use Rattle.packet_pool.specs.declared.cell.Facts.{Facts}
use Rattle.parked_queue.specs.Parked.{removed}
use Rattle.parked_queue.specs.Lined.{one_if, times_of, one_if_some, IsLined}

one_same : (x y : ℕ) → x ≡ y → one_if (eqb x y) ≡ 1
one_same x y e = ap one_if (eq-eqb x y e)

none_other : (x y : ℕ) → x ≢ y → one_if (eqb x y) ≡ 0
none_other x y e = ap one_if (ne_eqb x y e)

times_of-append : (b : ℕ) (xs ys : List ℕ) → times_of b (xs ++ ys) ≡ times_of b xs + times_of b ys
times_of-append b [] ys = omega arith
times_of-append b (x ∷ xs) ys = let ih = times_of-append b xs ys in omega arith

-- what stands in a list stands in it at least once
pub times_at : (xs : List ℕ) (i : ℕ) → i < length xs → 1 ≤ times_of (get_or xs i 0) xs
times_at [] i h = absurd (omega arith)
times_at (x ∷ xs) zero h = let z = one_same x x refl in omega arith
times_at (x ∷ xs) (suc i) h = let ih = times_at xs i (omega arith) in omega arith

any_counts : (q : ℕ) (xs : List ℕ) → list_any (eqb q) xs ≡ true → 0 < times_of q xs
any_counts q [] e = absurd (cc)
any_counts q (x ∷ xs) e = by_test q x (λ t. (t || list_any (eqb q) xs) ≡ true → 0 < one_if (eqb x q) + times_of q xs) (λ is _. let z = one_same x q (sym is) in omega arith) (λ _ e'. let r = any_counts q xs e' in omega arith) e

apart : (x : ℕ) (xs : List ℕ) → times_of x xs ≡ 0 → AllByRecursion (λ y. eqb x y ≡ false) xs
apart x [] e = tt
apart x (y ∷ ys) e = (ne_eqb x y (λ f. let z = one_same y x (sym f) in omega arith), apart x ys (omega arith))

distinct : (xs : List ℕ) → ((b : ℕ) → times_of b xs ≤ 1) → IsDistinct eqb xs
unfolding IsDistinct
distinct [] once = tt
distinct (x ∷ xs) once = (apart x xs (let z = one_same x x refl in let o = once x in omega arith), distinct xs (λ b. let o = once b in omega arith))

few : (n : ℕ) (xs : List ℕ) → ((b : ℕ) → times_of b xs ≤ 1) → ((b : ℕ) → 0 < times_of b xs → b < n) → length xs ≤ n
few n xs once below = length-le_from_distinct_below xs n (distinct xs once) (λ q e. below q (any_counts q xs e))

times_of-removed : (b k : ℕ) (xs : List ℕ) → times_of b xs ≡ 1 → times_of k (removed b xs) + one_if (eqb b k) ≡ times_of k xs
times_of-removed b k [] one = absurd (omega arith)
times_of-removed b k (x ∷ xs) one =
    by_test x b (λ t. one_if t + times_of b xs ≡ 1 → times_of k (cond t xs (x ∷ removed b xs)) + one_if (eqb b k) ≡ one_if (eqb x k) + times_of k xs)
    (λ e _. let z : one_if (eqb b k) ≡ one_if (eqb x k) = ap (λ i. one_if (eqb i k)) (sym e) in omega arith)
    (λ ne o. let ih = times_of-removed b k xs (omega arith) in omega arith) one

some_most : (fs : List Facts) → one_if_some fs ≤ 1
some_most [] = omega arith
some_most (f ∷ fs) = omega arith

pub some_of : (fs : List Facts) → 1 ≤ one_if_some fs → fs ≢ []
some_of [] h e = absurd (omega arith)
some_of (f ∷ fs) h e = absurd (cc)

module _ (cells : List (List Facts)) (line : List ℕ) (room b : ℕ) (h : IsLined cells line room) where
  -- a bucket that begins to wait finds room
  pub room_to_wait : b < length cells → get_or cells b [] ≡ [] → length line < room
  room_to_wait near none =
      let longer = line ++ b ∷ [] in
      let count : (k : ℕ) → times_of k longer ≡ times_of k line + one_if (eqb b k) = λ k. let z = times_of-append k line (b ∷ []) in omega arith in
      let zero_here : times_of b line ≡ 0 = h.counts b ∙ ap one_if_some none in
      let le = few (length cells) longer
      (λ k. dite (ℕ_discrete b k) (λ e. let z = one_same b k e in let c = count k in let y : times_of k line ≡ 0 = ap (λ i. times_of i line) (sym e) ∙ zero_here in omega arith)
      (λ ne. let z = none_other b k ne in let c = count k in let m = some_most (get_or cells k []) in let q = h.counts k in omega arith))
      (λ k some. dite (ℕ_discrete b k) (λ e. omega arith)
      (λ ne. let z = none_other b k ne in let c = count k in let q = h.counts k in dite (dec_lt k (length cells)) (λ l. l) (λ m. let p : one_if_some (get_or cells k []) ≡ 0 = ap one_if_some (get_or_past cells k [] (omega arith)) in absurd (omega arith)))) in
      let n = length-append line (b ∷ []) in let r = h.room_for in omega arith

  pub lined_set : (line' : List ℕ) (room' : ℕ) (x : List Facts) → b < length cells → room' ≡ room → times_of b line' ≡ one_if_some x → ((k : ℕ) → k ≢ b → times_of k line' ≡ times_of k line) → IsLined (set cells b x) line' room'
  lined_set line' room' x near same here others = record {
    room_for = let n = length-set cells b x in let r = h.room_for in omega arith;
    counts = λ k. dite (ℕ_discrete k b)
        (λ e. subst (λ i. times_of i line' ≡ one_if_some (get_or (set cells b x) i [])) (sym e) (here ∙ ap one_if_some (sym (get_or-set_same cells b x [] near))))
        (λ ne. others k ne ∙ (h.counts k ∙ ap one_if_some (sym (get_or-set_other cells b k x [] ne))));
  }

  -- a bucket gets its first cell
  pub lined_first : (f : Facts) (fs : List Facts) (line' : List ℕ) (room' : ℕ) → b < length cells → room' ≡ room → get_or cells b [] ≡ [] → line' ≡ line ++ b ∷ [] → IsLined (set cells b (f ∷ fs)) line' room'
  lined_first f fs line' room' near same none is = lined_set line' room' (f ∷ fs) near same
      (ap (times_of b) is ∙ (times_of-append b line (b ∷ []) ∙ (let z = one_same b b refl in let y : times_of b line ≡ 0 = h.counts b ∙ ap one_if_some none in omega arith)))
      (λ k ne. ap (times_of k) is ∙ (times_of-append k line (b ∷ []) ∙ (let z = none_other b k (λ e. ne (sym e)) in omega arith)))

  -- a bucket keeps some cells
  pub lined_some : (f g : Facts) (fs gs : List Facts) (room' : ℕ) → b < length cells → room' ≡ room → get_or cells b [] ≡ g ∷ gs → IsLined (set cells b (f ∷ fs)) line room'
  lined_some f g fs gs room' near same some = lined_set line room' (f ∷ fs) near same (h.counts b ∙ ap one_if_some some) (λ k ne. refl)

  -- a bucket loses its last cell
  pub lined_none : (g : Facts) (gs : List Facts) (line' : List ℕ) (room' : ℕ) → b < length cells → room' ≡ room → get_or cells b [] ≡ g ∷ gs → line' ≡ removed b line → IsLined (set cells b []) line' room'
  lined_none g gs line' room' near same some is =
      let one : times_of b line ≡ 1 = h.counts b ∙ ap one_if_some some in
      lined_set line' room' [] near same (ap (times_of b) is ∙ (let r = times_of-removed b b line one in let z = one_same b b refl in omega arith))
      (λ k ne. ap (times_of k) is ∙ (let r = times_of-removed b k line one in let z = none_other b k (λ e. ne (sym e)) in omega arith))

-- a bucket in line is one of the lot, and has a cell
pub has_some : (cells : List (List Facts)) (line : List ℕ) (b : ℕ) → 1 ≤ times_of b line → times_of b line ≡ one_if_some (get_or cells b []) → (b < length cells) × (get_or cells b [] ≢ [])
has_some cells line b some is =
    (dite (dec_lt b (length cells)) (λ l. l) (λ m. let z : one_if_some (get_or cells b []) ≡ 0 = ap one_if_some (get_or_past cells b [] (omega arith)) in absurd (omega arith)), some_of (get_or cells b []) (omega arith))

none_some : (fs : List Facts) → one_if_some fs ≡ 0 → fs ≡ []
none_some [] h = refl
none_some (f ∷ fs) h = absurd (omega arith)

-- where none is in line no bucket has a cell
pub none_lined : (cells : List (List Facts)) (line : List ℕ) (room : ℕ) → IsLined cells line room → line ≡ [] → (b : ℕ) → get_or cells b [] ≡ []
none_lined cells line room h none b = none_some (get_or cells b []) (sym (h.counts b) ∙ ap (times_of b) none)
