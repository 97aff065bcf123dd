use Rattle.std.proofs.Common.{arith, ◌≡◌, ◌-◌, [], ◌∷◌, get_or, length, drop, refl, ap, ◌∙◌, length-drop}
use Rattle.std.proofs.lemmas.List.{take_all}
use Rattle.toeplitz.specs.Bits.{set_bits}
use Rattle.toeplitz.specs.Toeplitz.{toeplitz}
use Rattle.toeplitz.proofs.Steps.{toeplitz-more}
use Rattle.toeplitz.proofs.input_hash.hash.Goals as goal

pub loop-at-init : goal.loop-at-init
unfolding toeplitz set_bits
loop-at-init c = refl

pub loop-at-preserved : goal.loop-at-preserved
loop-at-preserved c =
    let forty : length c.args.key.now.0 ≡ 40 = omega arith in
    let rest = take_all (40 - c.loop-at.at) (drop c.loop-at.at c.args.key.now.0) (omega (arith, length-drop c.loop-at.at c.args.key.now.0)) in
    let more = toeplitz-more c.args.key.now.0 c.args.input.now c.loop-at.at c.loop-at-test.true (omega (arith, c.type_inv.input c.loop-at.at)) (omega arith) in
    let byte = c.byte_hash-hash.ensures ∙ ap (λ k. toeplitz k (get_or c.args.input.now c.loop-at.at 0 ∷ [])) rest in
    let so_far = c.loop-at.invariant in
    cc
