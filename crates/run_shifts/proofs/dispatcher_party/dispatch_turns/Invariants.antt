use Rattle.std.proofs.Common.{◌≡◌, ◌<◌, map}
use Rattle.dispatch_loop.specs.DispatcherState.{dispatcher_state_by}
use Rattle.dispatch_loop.specs.DispatcherSnapshot.{outs, dispatcher_snapshot}
use Rattle.run_shifts.specs.DispatcherTurns.{Leads}
use Rattle.run_shifts.proofs.dispatcher_party.dispatch_turns.Given as goal

abbrev pub invariant-loop : goal.invariant-loop
invariant-loop g l =
    (l.held < 4096)
    × Leads g.N.RunName.packets
    (dispatcher_snapshot (dispatcher_state_by g.W.FlowWork.cost_of l.initial.dispatcher) (outs (map g.LO.LaneEnd.history l.initial.lanes) (map g.LO.LaneEnd.now l.initial.lanes) (g.P.Pool.history l.initial.pool) (g.P.Pool.now l.initial.pool)) (g.H.Shelf.history l.initial.shelf) (g.H.Shelf.now l.initial.shelf) (g.M.LoadEnd.history l.initial.meter) (g.M.LoadEnd.now l.initial.meter) l.initial.reader (g.S.Source.left l.initial.source) (g.S.Source.faults l.initial.source))
    (dispatcher_snapshot (dispatcher_state_by g.W.FlowWork.cost_of l.dispatcher) (outs (map g.LO.LaneEnd.history l.lanes) (map g.LO.LaneEnd.now l.lanes) (g.P.Pool.history l.pool) (g.P.Pool.now l.pool)) (g.H.Shelf.history l.shelf) (g.H.Shelf.now l.shelf) (g.M.LoadEnd.history l.meter) (g.M.LoadEnd.now l.meter) l.reader (g.S.Source.left l.source) (g.S.Source.faults l.source))
    × ((map g.LO.LaneEnd.home l.lanes ≡ map g.LO.LaneEnd.home l.initial.lanes) × (g.P.Pool.home l.pool ≡ g.P.Pool.home l.initial.pool) × (g.H.Shelf.home l.shelf ≡ g.H.Shelf.home l.initial.shelf) × (g.M.LoadEnd.home l.meter ≡ g.M.LoadEnd.home l.initial.meter))
    × (g.S.Source.origin l.source ≡ g.S.Source.origin l.initial.source)
