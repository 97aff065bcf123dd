use Rattle.std.proofs.Common.{arith, ◌≡◌, [], ◌∷◌, ℕ, ◌<◌, sym, refl, ap, ◌∙◌}
use Rattle.toeplitz.proofs.Steps.{over_bits, over_bits-set, over_bits-clear, toeplitz-all}
use Rattle.toeplitz.proofs.input_hash.byte_hash.Goals as goal
use Rattle.toeplitz.proofs.input_hash.byte_hash.Goals.{then-byte-bit-eq1, else-byte-bit-eq1}

pub loop-bit-init : goal.loop-bit-init
unfolding over_bits
loop-bit-init c = refl

pub loop-bit-preserved : goal.loop-bit-preserved
loop-bit-preserved c =
    let h : c.loop-bit.bit < 8 = omega arith in
    elim c.if-byte-bit-eq1.branch [
      | then-byte-bit-eq1 w ↦
          let more = over_bits-set c.args.key.now c.args.byte c.loop-bit.bit (λ k. omega (arith, c.type_inv.key k)) c.requires h w.if-byte-bit-eq1.true in
          let e = w.hash-is in
          let i = c.loop-bit.invariant in
          let v = c.window_of-window.ensures in cc
      | else-byte-bit-eq1 w ↦
          let more = over_bits-clear c.args.key.now c.args.byte c.loop-bit.bit h w.if-byte-bit-eq1.false in
          let e = w.hash-is in cc
    ]

pub returns : goal.returns
returns c =
    let end : c.loop-bit.bit ≡ 8 = omega arith in
    c.loop-bit.invariant ∙ ap (λ (n : ℕ). over_bits n c.args.key.now (c.args.byte ∷ [])) end ∙ sym (toeplitz-all c.args.key.now (c.args.byte ∷ []))
