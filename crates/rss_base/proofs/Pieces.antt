-- What is written in pieces, and what is read of a list from a place on.
use Rattle.std.proofs.Common.{◌≡◌, ℕ, ◌+◌, ◌-◌, ◌≤◌, ◌<◌, List, [], ◌∷◌, ◌++◌, length, get_or, suc, take, drop, refl, sym, ap, subst, ◌∙◌, append_assoc, arith, min, lit≤}
use Rattle.std.proofs.lemmas.List.{take-append-drop, drop-drop, drop_all}
use Rattle.std.proofs.lemmas.Slice.{between_to_end}
use Rattle.std.proofs.Math.Seq.{take-add, drop-cons}
use Rattle.rss_base.specs.Memory.{cut_at}
use Rattle.std.specs.List.{flat_map}
use Rattle.std.proofs.lemmas.Grind.{flat_map-append}
use Rattle.rss_base.specs.declared.piece.Piece.{Piece}
use Rattle.rss_base.specs.Piece.{piece_text, GrowsByFront}
use Rattle.rss_base.specs.Written.{Gets, GetsFront}

-- one piece after another
pub Gets-trans : (a b c : List ℕ → Type 0) (x y z : List ℕ) → Gets a b x → Gets b c y → z ≡ x ++ y → Gets a c z
Gets-trans a b c x y z p q e bytes h =
    subst c (append_assoc bytes x y ∙ ap (λ w. bytes ++ w) (sym e)) (q (bytes ++ x) (p bytes h))

-- a list in two parts, the first of them as it was read
pub parted : (xs front : List ℕ) (from n : ℕ) → front ≡ take n (drop from xs) → drop from xs ≡ front ++ drop (from + n) xs
parted xs front from n e =
    rw e (sym (ap (λ w. take n (drop from xs) ++ w) (sym (drop-drop n from xs)) ∙ take-append-drop n (drop from xs)))

-- a call that doesn't fail may give a byte
pub cut_at-positive : (cuts : List ℕ) (k : ℕ) → 1 ≤ cut_at cuts k
cut_at-positive [] k = lit≤ tt
cut_at-positive (c ∷ cs) k = omega arith

-- where nothing was given, nothing was there
pub none_given : (xs : List ℕ) (from most room n : ℕ) → 1 ≤ most → 0 < room → n ≡ min most (min room (length xs - from)) → n ≡ 0 → drop (from + n) xs ≡ []
none_given xs from most room n a b e z = drop_all (from + n) xs (omega arith)

-- the written front of a piece grows
pub Gets-more : (a b c : List ℕ → Type 0) (piece : List ℕ) (done n : ℕ) → Gets a b (take done piece) → Gets b c (take n (take (length piece - done) (drop done piece))) → Gets a c (take (done + n) piece)
Gets-more a b c piece done n p q =
    let whole = between_to_end piece done (length piece) (omega arith) in
    Gets-trans a b c (take done piece) (take n (drop done piece)) (take (done + n) piece) p (subst (λ (w : List ℕ). Gets b c (take n w)) whole q) (take-add done n piece)

-- the pieces so far are a front of all of them
pub front_so_far : (old new mid : List ℕ) (pieces : List Piece) (i : ℕ) → mid ≡ old ++ flat_map piece_text (take i pieces) → new ≡ mid → GrowsByFront old new (flat_map piece_text pieces)
front_so_far old new mid pieces i a b = (
  flat_map piece_text (take i pieces),
  flat_map piece_text (drop i pieces),
  ap (flat_map piece_text) (sym (take-append-drop i pieces)) ∙ flat_map-append piece_text (take i pieces) (drop i pieces),
  b ∙ a,
)

-- a front of one piece, and so of all
pub pieces_front : (a b c : List ℕ → Type 0) (pieces : List Piece) (i : ℕ) (d : Piece) → Gets a b (flat_map piece_text (take i pieces)) → i < length pieces → GetsFront b c (piece_text (get_or pieces i d)) → GetsFront a c (flat_map piece_text pieces)
pieces_front a b c pieces i d got here g =
    let so_far = flat_map piece_text (take i pieces) in
    let front = g.0 in
    let behind = g.1 in
    let later = flat_map piece_text (drop (suc i) pieces) in
    let whole : flat_map piece_text pieces ≡ (so_far ++ front) ++ (behind ++ later) =
    ap (flat_map piece_text) (sym (take-append-drop i pieces) ∙ ap (λ (l : List Piece). take i pieces ++ l) (drop-cons pieces i d here))
    ∙ (flat_map-append piece_text (take i pieces) (get_or pieces i d ∷ drop (suc i) pieces)
    ∙ (ap (λ w. so_far ++ (w ++ later)) g.2 ∙ simp append_assoc)) in
    (so_far ++ front, behind ++ later, whole, Gets-trans a b c so_far front (so_far ++ front) got g.3 refl)
