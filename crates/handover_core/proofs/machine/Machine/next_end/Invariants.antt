use Rattle.std.proofs.Common.{◌≡◌, None, map}
use Rattle.std.specs.Prelude.{find}
use Rattle.indirection.specs.Tries.{upto}
use Rattle.handover_core.specs.declared.event.Event.TheVariants.{SendEnd}
use Rattle.handover_core.specs.Machine.{enabled}
use Rattle.handover_core.proofs.machine.Machine.next_end.Given as goal

abbrev pub invariant-loop-core : goal.invariant-loop-core
invariant-loop-core l = find (enabled l.self) (map SendEnd (upto l.core)) ≡ None
