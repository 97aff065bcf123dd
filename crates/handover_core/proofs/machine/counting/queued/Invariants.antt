use Rattle.std.proofs.Common.{◌≡◌, map, take, length}
use Rattle.std.specs.Prelude.{sum_by}
use Rattle.handover_core.specs.State.{CoreState}
use Rattle.handover_core.specs.Cores.{core_state}
use Rattle.handover_core.proofs.machine.counting.queued.Given as goal

abbrev pub invariant-loop-core : goal.invariant-loop-core
invariant-loop-core l = l.items ≡ sum_by (λ (core : CoreState). length core.queue) (map core_state (take l.core-index l.cores))
