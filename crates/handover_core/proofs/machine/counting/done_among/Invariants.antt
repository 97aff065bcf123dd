use Rattle.std.proofs.Common.{◌≡◌, map, drop}
use Rattle.handover_core.specs.Cores.{core_state}
use Rattle.handover_core.specs.Promises.{done_among}
use Rattle.handover_core.proofs.machine.counting.done_among.Given as goal

abbrev pub invariant-loop-core : goal.invariant-loop-core
invariant-loop-core l = done_among l.bucket (map core_state (drop l.core-index l.cores)) ≡ done_among l.bucket (map core_state l.cores)
