use Rattle.std.proofs.Common.{ℕ, ◌+◌, ◌-◌, ◌*◌, ◌^◌, ◌<◌, get_or, ap, sym, ◌∙◌, subst, arith}
use Rattle.balancer.proofs.Spelled.{digit_at, value-more, value-small}
use Rattle.balancer.proofs.number.digits_value.Goals as goal

pub overflow_mul-value : goal.overflow_mul-value
overflow_mul-value c =
    let d = digit_at c.args.digits.now c.loop-digit.digit-index c.loop-digit-test.true c.requires.digits in
    let v = value-small c.loop-digit.digit-index c.loop-digit.value (get_or c.args.digits.now c.loop-digit.digit-index 0) (omega (arith, c.loop-digit-test.true, c.requires.few)) c.loop-digit.invariant.small d.1 in
    omega (arith, v.1)

pub overflow_add-value : goal.overflow_add-value
overflow_add-value c =
    let d = digit_at c.args.digits.now c.loop-digit.digit-index c.loop-digit-test.true c.requires.digits in
    let v = value-small c.loop-digit.digit-index c.loop-digit.value (get_or c.args.digits.now c.loop-digit.digit-index 0) (omega (arith, c.loop-digit-test.true, c.requires.few)) c.loop-digit.invariant.small d.1 in
    omega (arith, v.1, c.from.ensures)

pub loop-digit-preserved : goal.loop-digit-preserved
loop-digit-preserved c =
    let d = digit_at c.args.digits.now c.loop-digit.digit-index c.loop-digit-test.true c.requires.digits in
    let v = value-small c.loop-digit.digit-index c.loop-digit.value (get_or c.args.digits.now c.loop-digit.digit-index 0) (omega (arith, c.loop-digit-test.true, c.requires.few)) c.loop-digit.invariant.small d.1 in
    record {
      value = ap (λ (x : ℕ). c.loop-digit.value * 10 + x) c.from.ensures ∙ (ap (λ (x : ℕ). x * 10 + (get_or c.args.digits.now c.loop-digit.digit-index 0 - 48)) c.loop-digit.invariant.value ∙ sym (value-more c.args.digits.now c.loop-digit.digit-index c.loop-digit-test.true));
      small = subst (λ (x : ℕ). c.loop-digit.value * 10 + x < 10 ^ (c.loop-digit.digit-index + 1)) (sym c.from.ensures) v.0;
    }
