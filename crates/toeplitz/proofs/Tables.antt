-- The tables of a key, place by place.
use Rattle.std.proofs.Common.{◌≡◌, ◌<◌, ◌≤◌, ℕ, ◌+◌, ◌*◌, List, [], ◌∷◌, ◌++◌, map, drop, length, length-append, get_or, sym, ap, ◌∙◌, subst, arith, ⊎_elim}
use Rattle.std.specs.List.{range_with_len}
use Rattle.std.proofs.Math.ListN.{get_or-append}
use Rattle.std.proofs.lemmas.Bool.{cases_lt}
use Rattle.std.proofs.lemmas.List.{append_assoc, get_or-append-add}
use Rattle.std.proofs.lemmas.List.FromFn.{get_or-map-range_with_len, length-map-range_with_len, map-range_with_len_more}
use Rattle.toeplitz.specs.Tables.{AreHashes}
use Rattle.toeplitz.specs.Toeplitz.{toeplitz}

-- one more byte of a place
pub table-more : (f : ℕ → ℕ) (base xs ys : List ℕ) (n x : ℕ) → xs ≡ base ++ map f (range_with_len 0 n) → x ≡ f n → ys ≡ xs ++ x ∷ [] → ys ≡ base ++ map f (range_with_len 0 (n + 1))
table-more f base xs ys n x so_far is new =
    new
    ∙ ap (λ (z : List ℕ). z ++ x ∷ []) so_far
    ∙ append_assoc base (map f (range_with_len 0 n)) (x ∷ [])
    ∙ ap (λ (z : ℕ). base ++ (map f (range_with_len 0 n) ++ z ∷ [])) is
    ∙ ap (λ (z : List ℕ). base ++ z) (sym (map-range_with_len_more f 0 n n (omega arith)))

-- one more place
pub tables-more : (n : ℕ) (key hashes new : List ℕ) → AreHashes n key hashes → new ≡ hashes ++ map (λ y. toeplitz (drop n key) (y ∷ [])) (range_with_len 0 256) → AreHashes (n + 1) key new
tables-more n key hashes new h is = subst (AreHashes (n + 1) key) (sym is) (record {
  count = let a = h.count in let b = length-append hashes (map f (range_with_len 0 256)) in let c = length-map-range_with_len f 0 256 in omega arith;
  each = λ place byte inside small. ⊎_elim
      (λ (before : place < n). get_or-append hashes (map f (range_with_len 0 256)) 0 (place * 256 + byte) (let a = h.count in omega arith) ∙ h.each place byte before small)
      (λ (here : n ≤ place). let same : place ≡ n = omega arith in
      let at : place * 256 + byte ≡ length hashes + byte = (let a = h.count in rw same (omega arith)) in
      ap (λ (k : ℕ). get_or (hashes ++ map f (range_with_len 0 256)) k 0) at
      ∙ get_or-append-add hashes (map f (range_with_len 0 256)) byte 0
      ∙ get_or-map-range_with_len f 0 256 byte byte 0 small (omega arith)
      ∙ ap (λ (k : ℕ). toeplitz (drop k key) (byte ∷ [])) (sym same))
      (cases_lt place n);
}) where
  f : ℕ → ℕ
  f y = toeplitz (drop n key) (y ∷ [])
