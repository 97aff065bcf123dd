use Rattle.std.proofs.Common.{◌≡◌, length, vec_capacity}
use Rattle.threaded_run.proofs.lanes.ends_of.Given as goal

abbrev pub invariant-loop-pass : goal.invariant-loop-pass
invariant-loop-pass g l = (l.ends.items ≡ l.yielded) × (vec_capacity l.ends ≡ vec_capacity l.initial.ends) × (l.core ≡ length l.yielded)
