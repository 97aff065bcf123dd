use Rattle.std.proofs.Common.{◌≡◌, ◌<◌, ℕ, get_or, length}
use Rattle.command_words.specs.Values.{byte_pairs}
use Rattle.command_words.proofs.key_text.byte_pairs.Given as goal

-- the bytes so far are those of the pairs
abbrev pub invariant-loop-i : goal.invariant-loop-i
invariant-loop-i l = record {
  size : length l.key ≡ 40;
  same : (k : ℕ) → k < l.i → get_or l.key k 0 ≡ get_or (byte_pairs l.digits) k 0;
}
