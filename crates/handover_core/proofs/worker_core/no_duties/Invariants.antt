use Rattle.std.proofs.Common.{◌≡◌, map}
use Rattle.std.specs.Prelude.{replicate}
use Rattle.handover_core.specs.State.{Away}
use Rattle.handover_core.specs.Cores.{hand_of_duty}
use Rattle.handover_core.proofs.worker_core.no_duties.Given as goal

abbrev pub invariant-loop : goal.invariant-loop
invariant-loop l = map hand_of_duty l.duties.items ≡ replicate l.counter Away
