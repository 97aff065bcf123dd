use Rattle.std.proofs.Common.{arith}
use Rattle.handover_core.proofs.Duties.{core-left}
use Rattle.handover_core.proofs.worker_core.WorkerCore.leave_all.Goals as goal

pub returns-clause-state : goal.returns-clause-state
returns-clause-state c =
    let i = c.loop-bucket.invariant in
    let test = c.loop-bucket-test.false in
    let n = c.len-bucket-end.ensures in
    core-left c.args.self.now c.loop-bucket.self i.queue i.taken i.same (λ k l. i.done k (omega arith))
