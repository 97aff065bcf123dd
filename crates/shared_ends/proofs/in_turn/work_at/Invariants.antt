use Rattle.std.proofs.Common.{◌≡◌, []}
use Rattle.shared_ends.proofs.in_turn.work_at.Given as goal

abbrev pub invariant-loop : goal.invariant-loop
invariant-loop g l = record {
  home : l.end.home ≡ l.initial.end.home;
  key : l.end.history.key ≡ l.initial.end.history.key;
  buckets : l.end.history.buckets ≡ l.initial.end.history.buckets;
  free : l.end.history.held ≡ [];
}
