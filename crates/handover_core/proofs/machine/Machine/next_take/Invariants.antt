use Rattle.std.proofs.Common.{◌≡◌, None, map}
use Rattle.std.specs.Prelude.{find}
use Rattle.indirection.specs.Tries.{upto}
use Rattle.handover_core.specs.declared.event.Event.TheVariants.{Take}
use Rattle.handover_core.specs.Machine.{enabled}
use Rattle.handover_core.proofs.machine.Machine.next_take.Given as goal

abbrev pub invariant-loop-core : goal.invariant-loop-core
invariant-loop-core l = find (enabled l.self) (map Take (upto l.core)) ≡ None
