use Rattle.std.proofs.Common.{◌≡◌, None}
use Rattle.std.specs.Prelude.{find, flat_map}
use Rattle.indirection.specs.Tries.{upto}
use Rattle.handover_core.specs.declared.event.Event.TheVariants.{Release}
use Rattle.handover_core.specs.Machine.{enabled, at_core}
use Rattle.handover_core.proofs.machine.Machine.next_release.Given as goal

abbrev pub invariant-loop-core : goal.invariant-loop-core
invariant-loop-core l = find (enabled l.self) (flat_map (at_core l.self Release) (upto l.core)) ≡ None
