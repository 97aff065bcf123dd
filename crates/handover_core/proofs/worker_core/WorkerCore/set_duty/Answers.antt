use Rattle.std.proofs.Common.{ap, List}
use Rattle.handover_core.specs.State.{Hand, CoreState}
use Rattle.handover_core.specs.Cores.{core_state}
use Rattle.handover_core.proofs.Duties.{duties-set}
use Rattle.handover_core.proofs.worker_core.WorkerCore.set_duty.Goals as goal

pub returns-clause-state : goal.returns-clause-state
returns-clause-state c = ap (λ (hands : List Hand). let s : CoreState = record (core_state c.args.self.now) { hands = hands } in s) (duties-set c.args.self.now.duties.items c.args.bucket c.args.duty)
