use Rattle.std.proofs.Common.{◌≡◌, ◌≤◌, length, vec_capacity}
use Rattle.shared_ends.proofs.tests.packets.frames.Given as goal

abbrev pub invariant-loop-original : goal.invariant-loop-original
invariant-loop-original l = record {
  count : length l.all.items ≡ l.original;
  room : l.count ≤ vec_capacity l.all;
}
