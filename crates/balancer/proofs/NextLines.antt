-- The next line of the known bytes, by the bytes that were read ahead.
use Rattle.std.proofs.Common.{◌≡◌, ℕ, ◌+◌, ◌<◌, ◌≤◌, List, [], ◌∷◌, ◌++◌, length, take, drop, ◌==◌, Option, Some, None, sym, ap, ◌∙◌, subst, arith}
use Rattle.std.specs.Prelude.{IfSome}
use Rattle.std.specs.List.{position_or_len}
use Rattle.std.specs.Io.KnownBytes.{Keeps, IsAtEnd, prepend_known}
use Rattle.std.proofs.lemmas.List.{append-nil, take_all, drop_all, nil_from_length}
use Rattle.balancer.specs.Lines.{lines}
use Rattle.balancer.specs.NextLine.{TakesLine, NoLine}
use Rattle.balancer.proofs.Pieces.{line_cut, line_whole, line_long}

pub line_next : (before left : Option (List ℕ)) (ahead : List ℕ) (n : ℕ) → Keeps before (prepend_known ahead left) → n ≡ position_or_len (λ x. x == 10) ahead → n < length ahead
    → TakesLine before (prepend_known (drop (n + 1) ahead) left) (take n ahead)
line_next None left ahead n k e h = tt
line_next (Some xs) None ahead n k e h = absurd k
line_next (Some xs) (Some ys) ahead n k e h = ap lines (sym k) ∙ (line_cut ahead ys (subst (λ (i : ℕ). i < length ahead) e h)
    ∙ ap (λ (i : ℕ). take i ahead ∷ lines (drop (i + 1) ahead ++ ys)) (sym e))

pub line_last : (before left : Option (List ℕ)) (ahead : List ℕ) (n : ℕ) → Keeps before (prepend_known ahead left) → n ≡ position_or_len (λ x. x == 10) ahead → length ahead ≤ n → 0 < length ahead → IsAtEnd left
    → TakesLine before (prepend_known (drop n ahead) left) (take n ahead)
line_last None left ahead n k e h s end = tt
line_last (Some xs) None ahead n k e h s end = absurd k
line_last (Some xs) (Some ys) ahead n k e h s end =
    let all : xs ≡ ahead = sym k ∙ (ap (λ (z : List ℕ). ahead ++ z) end ∙ append-nil ahead) in
    ap lines all ∙ (line_whole ahead s (subst (λ (i : ℕ). length ahead ≤ i) e h)
    ∙ (ap (λ (z : List ℕ). z ∷ []) (sym (take_all n ahead h))
    ∙ ap (λ (z : List ℕ). take n ahead ∷ lines z) (sym end ∙ ap (λ (z : List ℕ). z ++ ys) (sym (drop_all n ahead h)))))

pub line_none : (before left : Option (List ℕ)) (ahead : List ℕ) → Keeps before (prepend_known ahead left) → length ahead ≡ 0 → IsAtEnd left → NoLine before
line_none None left ahead k e end = tt
line_none (Some xs) None ahead k e end = absurd k
line_none (Some xs) (Some ys) ahead k e end = ap lines (sym k ∙ (ap (λ (z : List ℕ). z ++ ys) (nil_from_length ahead e) ∙ end))

pub line_too_long : (before left : Option (List ℕ)) (ahead : List ℕ) (n : ℕ) → Keeps before (prepend_known ahead left) → n ≡ position_or_len (λ x. x == 10) ahead → length ahead ≤ n → 2000 < length ahead
    → IfSome before (λ xs. (line : List ℕ) × (rest : List (List ℕ)) × (lines xs ≡ line ∷ rest) × (2000 < length line))
line_too_long None left ahead n k e h s = tt
line_too_long (Some xs) None ahead n k e h s = absurd k
line_too_long (Some xs) (Some ys) ahead n k e h s =
    let l = line_long ahead ys (omega arith) (subst (λ (i : ℕ). length ahead ≤ i) e h) in
    let m = l.3 in (l.0, l.1, ap lines (sym k) ∙ l.2, omega arith)
