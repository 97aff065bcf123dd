use Rattle.std.proofs.Common.{map}
use Rattle.dispatch_loop.specs.DispatcherState.{dispatcher_state_by}
use Rattle.dispatch_loop.specs.Rules.{OnlyMeets}
use Rattle.dispatch_loop.specs.DispatcherSnapshot.{dispatcher_snapshot, outs}
use Rattle.dispatch_loop.specs.Stays.{IsTied}
use Rattle.dispatcher_tests.proofs.turning.finish.Given as goal

abbrev pub invariant-loop-turn : goal.invariant-loop-turn
invariant-loop-turn g l = record {
  tied : IsTied g.N.RunName.packets (dispatcher_snapshot (dispatcher_state_by g.W.FlowWork.cost_of l.dispatcher) (outs (map g.LO.LaneEnd.history l.lanes) (map g.LO.LaneEnd.now l.lanes) (g.P.Pool.history l.pool) (g.P.Pool.now l.pool)) (g.H.Shelf.history l.shelf) (g.H.Shelf.now l.shelf) (g.M.LoadEnd.history l.meter) (g.M.LoadEnd.now l.meter) l.reader (g.S.Source.left l.source) (g.S.Source.faults l.source));
  shelf : OnlyMeets (g.H.Shelf.history l.fn.shelf) (g.H.Shelf.history l.shelf);
}
