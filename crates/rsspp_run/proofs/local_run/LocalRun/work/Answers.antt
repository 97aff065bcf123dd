use Rattle.std.proofs.Common.{◌<◌, ℕ, length, sym, subst}
use Rattle.worker_loop.specs.Workload.{workload}
use Rattle.rsspp_run.specs.LocalRun.{AreWorkersAt}
use Rattle.rsspp_run.proofs.Crews.{tied_at}
use Rattle.rsspp_run.proofs.local_run.LocalRun.work.Goals as goal

pub turn-requires-clause-tied : goal.turn-requires-clause-tied
turn-requires-clause-tied g c = λ κs within.
    let j = workload g.W.FlowWork.opening g.W.FlowWork.after g.W.FlowWork.cost_of g.N.RunName.packets in let r = c.requires.at.0 in
    let near = subst (λ (k : ℕ). k < length r.machine.cores) (sym c.from-at.ensures) c.requires.at.2 in
    tied_at j r _ c.from-at.result (subst (AreWorkersAt j r) (sym c.self.view_is) c.requires.at.1) near c.index_mut.result.now c.index_mut-2.result.now c.index_mut.ensures.value c.index_mut-2.ensures.value
