-- Parts of the buffer.
use Rattle.std.proofs.Common.{◌≡◌, ℕ, ◌+◌, ◌-◌, ◌≤◌, List, ◌++◌, length, take, drop, sym, ap, ◌∙◌, arith, length-drop, length-take}
use Rattle.std.specs.List.{copy_within}
use Rattle.std.proofs.lemmas.List.{drop-take, take-take, drop-drop, drop-append-le}
use Rattle.std.proofs.lemmas.List.Edits.{take-paste}
use Rattle.std.proofs.Math.Seq.{take-add}

-- what was moved to the front
pub moved_front : (xs : List ℕ) (s e : ℕ) → s ≤ e → e ≤ length xs → take (e - s) (copy_within xs s e 0) ≡ drop s (take e xs)
moved_front xs s e a b =
    let long : length (drop s xs) ≡ length xs - s = length-drop s xs in
    let split : s + (e - s) ≡ e = omega arith in
    let first : take (0 + (e - s)) (copy_within xs s e 0) ≡ take 0 xs ++ take (e - s) (drop s xs) = take-paste xs 0 (drop s xs) (e - s) (omega arith) (omega arith) in
    let zero : 0 + (e - s) ≡ e - s = omega arith in
    ap (λ n. take n (copy_within xs s e 0)) (sym zero) ∙ (first ∙ (sym (drop-take s (e - s) xs) ∙ ap (λ n. drop s (take n xs)) split))

-- what is behind the front after a read
pub read_piece : (old mid new : List ℕ) (k n : ℕ) → take k mid ≡ old → take k new ≡ take k mid → k + n ≤ length new → (length (take n (drop k new)) ≡ n) × (take (k + n) new ≡ old ++ take n (drop k new))
read_piece old mid new k n a b fits =
    (simp (length-take, length-drop) (omega arith), take-add k n new ∙ ap (λ w. w ++ take n (drop k new)) (b ∙ a))

-- a part was cut out of what was read ahead
pub cut_out : (xs : List ℕ) (s from count e : ℕ) → s + from + count ≤ e → e ≤ length xs → drop s (take (e - count) (copy_within xs (s + from + count) e (s + from))) ≡ take from (drop s (take e xs)) ++ drop (from + count) (drop s (take e xs))
cut_out xs s from count e a b =
    let at : ℕ = s + from in
    let on : ℕ = s + from + count in
    let long : length (drop on xs) ≡ length xs - on = length-drop on xs in
    let split : at + (e - on) ≡ e - count = omega arith in
    let whole : on + (e - on) ≡ e = omega arith in
    let moved : take (at + (e - on)) (copy_within xs on e at) ≡ take at xs ++ take (e - on) (drop on xs) = take-paste xs at (drop on xs) (e - on) (omega arith) (omega arith) in
    let front : s ≤ length (take at xs) = simp length-take (omega arith) in
    let left : take from (drop s (take e xs)) ≡ drop s (take at xs) = sym (drop-take s from (take e xs)) ∙ ap (drop s) (take-take at e xs (omega arith)) in
    let same : s + (from + count) ≡ on = omega arith in
    let right : drop (from + count) (drop s (take e xs)) ≡ take (e - on) (drop on xs) =
    drop-drop (from + count) s (take e xs) ∙ (ap (λ n. drop n (take e xs)) same ∙ (ap (λ n. drop on (take n xs)) (sym whole) ∙ drop-take on (e - on) xs)) in
    ap (λ n. drop s (take n (copy_within xs on e at))) (sym split) ∙ (ap (drop s) moved ∙ (drop-append-le s (take at xs) (take (e - on) (drop on xs)) front
    ∙ (ap (λ w. w ++ take (e - on) (drop on xs)) (sym left) ∙ ap (λ w. take from (drop s (take e xs)) ++ w) (sym right))))
