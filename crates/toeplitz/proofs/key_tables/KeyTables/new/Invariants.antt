use Rattle.std.proofs.Common.{◌≤◌}
use Rattle.std.specs.Prelude.{vec_capacity}
use Rattle.toeplitz.specs.Tables.{AreHashes}
use Rattle.toeplitz.proofs.key_tables.KeyTables.new.Given as goal

-- the places so far have their numbers
abbrev pub invariant-loop-place : goal.invariant-loop-place
invariant-loop-place l = record {
  hashes : AreHashes l.place l.fn.key.0 l.hashes.items;
  room : 9216 ≤ vec_capacity l.hashes;
}
