-- Traffic that is written in pieces.
use Rattle.std.proofs.Common.{◌≡◌, ℕ, ◌+◌, ◌<◌, ◌≤◌, List, ◌++◌, length, take, drop, refl, sym, ap, ◌∙◌, append_assoc, arith, min}
use Rattle.std.proofs.lemmas.List.{drop-drop, length-drop, take-append-drop, take_all}
use Rattle.std.proofs.Math.Seq.{take-add}
use Rattle.rss_base.specs.Written.{Gets, GetsFront}
use Rattle.rss_base.proofs.Pieces.{Gets-trans}
use Rattle.traffic_gen.specs.Traffic.{traffic}
use Rattle.traffic_gen.specs.Source.{TrafficView, left_of}

-- a source tells the traffic that it was made over
pub left_is : (s : TrafficView) (count number : ℕ) → s.count ≡ count → s.number ≡ number → left_of s ≡ drop s.given (traffic count number)
left_is s count number a b = rw (a, b) refl

-- where nothing more is given, all was
pub all_given : (all : List ℕ) (given size room : ℕ) → given ≤ length all → 0 < room → size ≡ min room (length (drop given all)) → size ≡ 0 → take given all ≡ all
all_given all given size room within some e none = take_all given all (omega (arith, length-drop given all))

pub gets_more : (a b c : List ℕ → Type 0) (all piece : List ℕ) (given size : ℕ) → Gets a b (take given all) → Gets b c (take size piece) → take size piece ≡ take size (drop given all) → Gets a c (take (given + size) all)
gets_more a b c all piece given size p q e =
    Gets-trans a b c (take given all) (take size piece) (take (given + size) all) p q (take-add given size all ∙ ap (λ (l : List ℕ). take given all ++ l) (sym e))

-- a front of a piece is a front of all
pub gets_front : (a b c : List ℕ → Type 0) (all piece : List ℕ) (given size : ℕ) → Gets a b (take given all) → GetsFront b c (take size piece) → take size piece ≡ take size (drop given all) → GetsFront a c all
gets_front a b c all piece given size p q e =
    let done = take given all in
    let front = q.0 in
    let behind = q.1 in
    let later = drop (given + size) all in
    let rest : drop given all ≡ (front ++ behind) ++ later =
    sym (take-append-drop size (drop given all)) ∙ ap (λ (l : List ℕ). take size (drop given all) ++ l) (drop-drop size given all) ∙ ap (λ (l : List ℕ). l ++ later) (sym e ∙ q.2) in
    let whole : all ≡ (done ++ front) ++ (behind ++ later) =
    sym (take-append-drop given all) ∙ ap (λ (l : List ℕ). done ++ l) rest ∙ simp append_assoc in
    (done ++ front, behind ++ later, whole, Gets-trans a b c done front (done ++ front) p q.3 refl)
