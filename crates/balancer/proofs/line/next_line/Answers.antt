use Rattle.std.proofs.Common.{◌≡◌, ◌<◌, ◌≤◌, ◌==◌, ℕ, List, length, ap, ◌∙◌, subst, arith}
use Rattle.std.specs.List.{position_or_len}
use Rattle.balancer.proofs.NextLines.{line_next, line_last, line_none, line_too_long}
use Rattle.balancer.proofs.Pieces.{place-le}
use Rattle.balancer.proofs.line.next_line.Goals as goal

pub returns-then-length-bytes-clause-comes : goal.returns-then-length-bytes-clause-comes
returns-then-length-bytes-clause-comes g c =
    let n : c.place_of-length.result ≡ position_or_len (λ x. x == 10) c.fill_line.new.window = c.place_of-length.ensures ∙ ap (λ (w : List ℕ). position_or_len (λ x. x == 10) w) c.bytes-bytes.ensures.value in
    let h : c.place_of-length.result < length c.fill_line.new.window = subst (λ (w : List ℕ). c.place_of-length.result < length w) c.bytes-bytes.ensures.value c.if-length-bytes.true in
    (omega arith, omega arith, line_next _ _ c.fill_line.new.window c.place_of-length.result c.in_ok-fill_line.ensures.still n h)

pub returns-then-length-gt-LONGEST_LINE-clause-comes : goal.returns-then-length-gt-LONGEST_LINE-clause-comes
returns-then-length-gt-LONGEST_LINE-clause-comes g c =
    let n : c.place_of-length.result ≡ position_or_len (λ x. x == 10) c.fill_line.new.window = c.place_of-length.ensures ∙ ap (λ (w : List ℕ). position_or_len (λ x. x == 10) w) c.bytes-bytes.ensures.value in
    let h : length c.fill_line.new.window ≤ c.place_of-length.result = subst (λ (w : List ℕ). length w ≤ c.place_of-length.result) c.bytes-bytes.ensures.value c.if-length-bytes.false in
    line_too_long _ _ c.fill_line.new.window c.place_of-length.result c.in_ok-fill_line.ensures.still n h (let l = place-le 10 c.fill_line.new.window in let m = c.if-length-gt-LONGEST_LINE.true in omega arith)

pub returns-then-length-eq0-clause-comes : goal.returns-then-length-eq0-clause-comes
returns-then-length-eq0-clause-comes g c =
    let n : c.place_of-length.result ≡ position_or_len (λ x. x == 10) c.fill_line.new.window = c.place_of-length.ensures ∙ ap (λ (w : List ℕ). position_or_len (λ x. x == 10) w) c.bytes-bytes.ensures.value in
    let h : length c.fill_line.new.window ≤ c.place_of-length.result = subst (λ (w : List ℕ). length w ≤ c.place_of-length.result) c.bytes-bytes.ensures.value c.if-length-bytes.false in
    let end = c.in_ok-fill_line.ensures.end (omega arith) (subst (λ (i : ℕ). length c.fill_line.new.window ≤ i) n h) in
    (line_none _ _ c.fill_line.new.window c.in_ok-fill_line.ensures.still (omega arith) end, end)

pub returns-clause-comes : goal.returns-clause-comes
returns-clause-comes g c =
    let n : c.place_of-length.result ≡ position_or_len (λ x. x == 10) c.fill_line.new.window = c.place_of-length.ensures ∙ ap (λ (w : List ℕ). position_or_len (λ x. x == 10) w) c.bytes-bytes.ensures.value in
    let h : length c.fill_line.new.window ≤ c.place_of-length.result = subst (λ (w : List ℕ). length w ≤ c.place_of-length.result) c.bytes-bytes.ensures.value c.if-length-bytes.false in
    let end = c.in_ok-fill_line.ensures.end (omega arith) (subst (λ (i : ℕ). length c.fill_line.new.window ≤ i) n h) in
    let l = place-le 10 c.fill_line.new.window in
    let some : 0 < length c.fill_line.new.window = let z = c.if-length-eq0.false in omega arith in
    (omega arith, omega arith, line_last _ _ c.fill_line.new.window c.place_of-length.result c.in_ok-fill_line.ensures.still n h some end)
