use Rattle.std.proofs.Common.{◌≡◌, ◌≤◌, length, drop, None}
use Rattle.indirection.specs.Rounds.{last_round}
use Rattle.indirection.proofs.journal.last_round_place.Given as goal

-- from the place on there is no round
abbrev pub invariant-loop-place : goal.invariant-loop-place
invariant-loop-place l = record {
  inside : l.place ≤ length l.entries;
  none : last_round (drop l.place l.entries) ≡ None;
}

abbrev pub decreases-loop-place : goal.decreases-loop-place
decreases-loop-place l = l.place
