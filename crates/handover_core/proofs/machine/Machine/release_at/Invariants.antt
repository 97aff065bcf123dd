use Rattle.std.proofs.Common.{◌≡◌, None, map}
use Rattle.std.specs.Prelude.{find}
use Rattle.indirection.specs.Tries.{upto}
use Rattle.handover_core.specs.declared.event.Event.TheVariants.{Release}
use Rattle.handover_core.specs.Machine.{enabled}
use Rattle.handover_core.proofs.machine.Machine.release_at.Given as goal

abbrev pub invariant-loop-bucket : goal.invariant-loop-bucket
invariant-loop-bucket l = find (enabled l.self) (map (Release l.core) (upto l.bucket)) ≡ None
