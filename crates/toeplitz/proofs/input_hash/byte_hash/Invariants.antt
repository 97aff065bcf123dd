use Rattle.std.proofs.Common.{◌≡◌, [], ◌∷◌}
use Rattle.toeplitz.proofs.Steps.{over_bits}
use Rattle.toeplitz.proofs.input_hash.byte_hash.Given as goal

-- the bits so far are hashed
abbrev pub invariant-loop-bit : goal.invariant-loop-bit
invariant-loop-bit l = l.hash ≡ over_bits l.bit l.key (l.byte ∷ [])
