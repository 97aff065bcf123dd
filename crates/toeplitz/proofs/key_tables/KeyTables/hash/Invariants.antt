use Rattle.std.proofs.Common.{◌≡◌, take}
use Rattle.toeplitz.specs.Toeplitz.{toeplitz}
use Rattle.toeplitz.proofs.key_tables.KeyTables.hash.Given as goal

-- the bytes so far are hashed
abbrev pub invariant-loop-at : goal.invariant-loop-at
invariant-loop-at l = l.hash ≡ toeplitz l.fn.self.0 (take l.at l.input)
