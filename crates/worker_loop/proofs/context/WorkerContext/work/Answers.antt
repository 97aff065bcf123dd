use Rattle.worker_loop.specs.Workload.{workload}
use Rattle.worker_loop.specs.Views.{context_run}
use Rattle.worker_loop.proofs.Standing.{stands_more}
use Rattle.worker_loop.proofs.context.WorkerContext.work.Goals as goal

pub returns-clause-stands : goal.returns-clause-stands
returns-clause-stands g c =
    stands_more (workload g.W.FlowWork.opening g.W.FlowWork.after g.W.FlowWork.cost_of g.N.RunName.packets) (context_run c.args.self.now) c.args.packet.now c.args.table.now c.work.new.self c.requires.stands c.requires.place c.requires.of c.requires.carries
    c.work.ensures.bucket c.work.ensures.stays_short c.work.ensures.stands
