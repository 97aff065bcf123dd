use Rattle.std.proofs.Common.{length, ap, arith}
use Rattle.handover_core.specs.declared.worker_core.WorkerCore.{WorkerCore}
use Rattle.handover_core.proofs.Numbers.{queued-more}
use Rattle.handover_core.proofs.machine.counting.queued.Goals as goal

pub overflow_add-items : goal.overflow_add-items
overflow_add-items c =
    let t = c.loop-core-test.true in
    let n = c.loop-core.auto.core-index-end in
    let m = queued-more c.args.cores.now c.loop-core.core-index c.core-item.result (omega arith) in
    let e = ap (λ (w : WorkerCore). length w.queue.items) c.core-item.is in
    let l = c.len.ensures in
    let k = c.core-item.result.queue.ok in
    let i = c.loop-core.invariant in
    let r = c.requires in
    omega arith
