use Rattle.std.proofs.Common.{◌≡◌, vec_capacity}
use Rattle.run_shifts.proofs.dispatcher_party.DispatcherParty.leave.Given as goal

abbrev pub invariant-loop-end : goal.invariant-loop-end
invariant-loop-end g l = (l.passes.items ≡ l.yielded) × (vec_capacity l.passes ≡ vec_capacity l.initial.passes)
