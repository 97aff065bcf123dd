use Rattle.std.proofs.Common.{◌≡◌, ◌<◌, ◌≤◌, ◌^◌, ◌*◌, ◌/◌, arith, lit<}
use Rattle.std.proofs.Math.Nat.{pow-le-pow_right, one-le-pow, div-eq_of_lt}
use Rattle.pcapng_reader.proofs.time.whole_nanos.Goals as goal

pub pow-requires : goal.pow-requires
pow-requires c =
    let small : 2 ^ c.from-then-resolution-ge-POWERS_OF_TWO.result ≤ 2 ^ 127 = pow-le-pow_right {n = 2} (lit< tt) {i = c.from-then-resolution-ge-POWERS_OF_TWO.result} {j = 127} (omega arith) in
    omega arith

pub pow-requires-then-resolution-lt-MANY_DIGITS : goal.pow-requires-then-resolution-lt-MANY_DIGITS
pow-requires-then-resolution-lt-MANY_DIGITS c =
    let small : 10 ^ c.from-then-resolution-lt-MANY_DIGITS.result ≤ 10 ^ 28 = pow-le-pow_right {n = 10} (lit< tt) {i = c.from-then-resolution-lt-MANY_DIGITS.result} {j = 28} (omega arith) in
    omega arith

pub nonzero_div-result-then-resolution-lt-MANY_DIGITS :
    goal.nonzero_div-result-then-resolution-lt-MANY_DIGITS
nonzero_div-result-then-resolution-lt-MANY_DIGITS c =
    let some : 1 ≤ 10 ^ c.from-then-resolution-lt-MANY_DIGITS.result = one-le-pow c.from-then-resolution-lt-MANY_DIGITS.result 10 (lit< tt) in
    rw c.pow-then-resolution-lt-MANY_DIGITS.ensures (omega arith)

pub returns-else-resolution-lt-MANY_DIGITS : goal.returns-else-resolution-lt-MANY_DIGITS
returns-else-resolution-lt-MANY_DIGITS c =
    let large : 10 ^ 29 ≤ 10 ^ c.args.resolution = pow-le-pow_right {n = 10} (lit< tt) {i = 29} {j = c.args.resolution} (omega arith) in
    let small : c.args.ticks * 1000000000 < 10 ^ c.args.resolution = omega arith in
    let none : c.args.ticks * 1000000000 / 10 ^ c.args.resolution ≡ 0 = div-eq_of_lt small in
    grind (arith, none)
