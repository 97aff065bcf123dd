use Rattle.std.proofs.Common.{◌≡◌, ◌+◌, [], ◌∷◌, ◌++◌, map}
use Rattle.std.specs.List.{range_with_len}
use Rattle.std.specs.Prelude.{vec_capacity, vec_len}
use Rattle.toeplitz.specs.Toeplitz.{toeplitz}
use Rattle.toeplitz.proofs.key_tables.push_table.Given as goal

-- the bytes so far have their numbers
abbrev pub invariant-loop-byte : goal.invariant-loop-byte
invariant-loop-byte l = record {
  hashes : l.hashes.items ≡ l.fn.hashes.items ++ map (λ y. toeplitz l.fn.key (y ∷ [])) (range_with_len 0 l.byte);
  count : vec_len l.hashes ≡ vec_len l.fn.hashes + l.byte;
  room : vec_capacity l.hashes ≡ vec_capacity l.fn.hashes;
}
