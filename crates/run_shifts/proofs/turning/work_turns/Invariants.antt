use Rattle.std.proofs.Common.{◌≡◌, ◌<◌}
use Rattle.worker_loop.specs.Workload.{workload}
use Rattle.run_shifts.specs.Work.{IsAtWork}
use Rattle.run_shifts.proofs.turning.work_turns.Given as goal

abbrev pub invariant-loop : goal.invariant-loop
invariant-loop g l =
    (l.idle < 4096)
    × IsAtWork (workload g.W.FlowWork.opening g.W.FlowWork.after g.W.FlowWork.cost_of g.N.RunName.packets) l.worker.state (g.LI.LaneEnd.history l.lane) (g.H.Shelf.history l.shelf) (g.M.LoadEnd.history l.meter)
    × ((g.LI.LaneEnd.home l.lane ≡ g.LI.LaneEnd.home l.initial.lane) × (g.H.Shelf.home l.shelf ≡ g.H.Shelf.home l.initial.shelf) × (g.M.LoadEnd.home l.meter ≡ g.M.LoadEnd.home l.initial.meter) × (g.P.Pool.home l.pool ≡ g.P.Pool.home l.initial.pool))
    × ((l.worker.state.core ≡ l.initial.worker.state.core) × (l.worker.state.run ≡ l.initial.worker.state.run))
