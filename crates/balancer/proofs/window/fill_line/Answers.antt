use Rattle.std.proofs.Common.{◌<◌, ◌==◌, List, ℕ, length, subst, arith}
use Rattle.std.specs.List.{position_or_len}
use Rattle.balancer.proofs.window.fill_line.Goals as goal

pub returns-then-place_of-bytes-clause-end : goal.returns-then-place_of-bytes-clause-end
returns-then-place_of-bytes-clause-end g c = λ _ k.
    let here : position_or_len (λ x. x == 10) c.bytes-bytes.result.now < length c.bytes-bytes.result.now = subst (λ (n : ℕ). n < length c.bytes-bytes.result.now) c.place_of.ensures c.if-place_of-bytes.true in
    let there : position_or_len (λ x. x == 10) c.reading.window < length c.reading.window = subst (λ (w : List ℕ). position_or_len (λ x. x == 10) w < length w) c.bytes-bytes.ensures.value here in
    absurd (omega (arith, there, k))
