use Rattle.std.proofs.Common.{map, refl}
use Rattle.dispatch_loop.specs.Views.{dispatcher_state}
use Rattle.dispatch_loop.specs.DispatcherSnapshot.{dispatcher_snapshot, outs}
use Rattle.dispatch_loop.proofs.Custodies.{acts-leave}
use Rattle.dispatch_loop.proofs.States.{can-weigh}
use Rattle.dispatch_loop.proofs.Turned.{round-tied, passed-tied, none-more, passes, made, turned}
use Rattle.dispatch_loop.proofs.turn.turn_of.Goals as goal

pub pass_round-requires-clause-can : goal.pass_round-requires-clause-can
pass_round-requires-clause-can g c = λ κs live.
    let t = c.requires.tied in
    can-weigh g.W.FlowWork.cost_of g.N.RunName.packets t.0 c.args.state.now (map g.LO.LaneEnd.history c.args.lanes.now) (g.H.Shelf.history c.args.shelf.now) (g.M.LoadEnd.history c.args.meter.now) c.args.reader.now (g.S.Source.left c.args.source.now) t.1

pub returns-then-pass_round-clause-tied : goal.returns-then-pass_round-clause-tied
returns-then-pass_round-clause-tied g c = record {
  stays = λ p t. (
    p.packets,
    refl,
    round-tied g.N.RunName.packets p (dispatcher_state g.W.FlowWork.cost_of c.args.state.now) (dispatcher_state g.W.FlowWork.cost_of c.pass_round.new.state) (map g.LO.LaneEnd.history c.args.lanes.now) (g.H.Shelf.history c.args.shelf.now) (g.M.LoadEnd.history c.args.meter.now) (g.M.LoadEnd.history c.pass_round.new.meter) (g.M.LoadEnd.now c.args.meter.now) (g.M.LoadEnd.now c.pass_round.new.meter) c.args.reader.now (g.S.Source.left c.args.source.now)
        c.pass_round.result c.if-pass_round.true c.pass_round.ensures.rounded t,
  );
}

pub returns-then-pass_round-clause-rule : goal.returns-then-pass_round-clause-rule
returns-then-pass_round-clause-rule g c =
    made c.pass_round.result (dispatcher_state g.W.FlowWork.cost_of c.args.state.now) (dispatcher_state g.W.FlowWork.cost_of c.pass_round.new.state) (g.M.LoadEnd.history c.args.meter.now) (g.M.LoadEnd.history c.pass_round.new.meter) (g.M.LoadEnd.now c.args.meter.now) (g.M.LoadEnd.now c.pass_round.new.meter) _ _ _ _ _ _ c.if-pass_round.true c.pass_round.ensures.rounded

pub act-requires-clause-none_due : goal.act-requires-clause-none_due
act-requires-clause-none_due g c = λ κs live. none-more c.pass_round.result (dispatcher_state g.W.FlowWork.cost_of c.args.state.now) (dispatcher_state g.W.FlowWork.cost_of c.pass_round.new.state) (g.M.LoadEnd.history c.args.meter.now) (g.M.LoadEnd.history c.pass_round.new.meter) (g.M.LoadEnd.now c.args.meter.now) (g.M.LoadEnd.now c.pass_round.new.meter) c.if-pass_round.false c.pass_round.ensures.rounded

pub act-requires-clause-tied : goal.act-requires-clause-tied
act-requires-clause-tied g c = λ κs live.
    let t = c.requires.tied in (
      g.M.LoadEnd.history c.pass_round.new.meter,
      g.M.LoadEnd.now c.pass_round.new.meter,
      (
        t.0,
        passed-tied g.N.RunName.packets t.0 (dispatcher_state g.W.FlowWork.cost_of c.args.state.now) (dispatcher_state g.W.FlowWork.cost_of c.pass_round.new.state) (map g.LO.LaneEnd.history c.args.lanes.now) (g.H.Shelf.history c.args.shelf.now) (g.M.LoadEnd.history c.args.meter.now) (g.M.LoadEnd.history c.pass_round.new.meter) (g.M.LoadEnd.now c.args.meter.now) (g.M.LoadEnd.now c.pass_round.new.meter) c.args.reader.now (g.S.Source.left c.args.source.now)
            c.pass_round.result c.if-pass_round.false c.pass_round.ensures.rounded t.1,
      ),
    )

pub returns-clause-tied : goal.returns-clause-tied
returns-clause-tied g c = record {
  stays = λ p t. (c.act.ensures.tied (g.M.LoadEnd.history c.pass_round.new.meter) (g.M.LoadEnd.now c.pass_round.new.meter)).stays p
      (passed-tied g.N.RunName.packets p (dispatcher_state g.W.FlowWork.cost_of c.args.state.now) (dispatcher_state g.W.FlowWork.cost_of c.pass_round.new.state) (map g.LO.LaneEnd.history c.args.lanes.now) (g.H.Shelf.history c.args.shelf.now) (g.M.LoadEnd.history c.args.meter.now) (g.M.LoadEnd.history c.pass_round.new.meter) (g.M.LoadEnd.now c.args.meter.now) (g.M.LoadEnd.now c.pass_round.new.meter) c.args.reader.now (g.S.Source.left c.args.source.now)
      c.pass_round.result c.if-pass_round.false c.pass_round.ensures.rounded t);
}

pub returns-clause-rule : goal.returns-clause-rule
returns-clause-rule g c =
    turned c.act.result _ (dispatcher_snapshot (dispatcher_state g.W.FlowWork.cost_of c.pass_round.new.state) (outs (map g.LO.LaneEnd.history c.args.lanes.now) (map g.LO.LaneEnd.now c.args.lanes.now) (g.P.Pool.history c.args.pool.now) (g.P.Pool.now c.args.pool.now)) (g.H.Shelf.history c.args.shelf.now) (g.H.Shelf.now c.args.shelf.now) (g.M.LoadEnd.history c.pass_round.new.meter) (g.M.LoadEnd.now c.pass_round.new.meter) c.args.reader.now (g.S.Source.left c.args.source.now) (g.S.Source.faults c.args.source.now)) _
    (passes c.pass_round.result (dispatcher_state g.W.FlowWork.cost_of c.args.state.now) (dispatcher_state g.W.FlowWork.cost_of c.pass_round.new.state) (g.M.LoadEnd.history c.args.meter.now) (g.M.LoadEnd.history c.pass_round.new.meter) (g.M.LoadEnd.now c.args.meter.now) (g.M.LoadEnd.now c.pass_round.new.meter) _ _ _ _ _ _ c.if-pass_round.false c.pass_round.ensures.rounded)
    (c.act.ensures.rule (g.M.LoadEnd.history c.pass_round.new.meter) (g.M.LoadEnd.now c.pass_round.new.meter))

pub returns-clause-shelf : goal.returns-clause-shelf
returns-clause-shelf g c =
    let m = g.M.LoadEnd.history c.pass_round.new.meter in let n = g.M.LoadEnd.now c.pass_round.new.meter in
    acts-leave c.act.result
    (dispatcher_snapshot (dispatcher_state g.W.FlowWork.cost_of c.pass_round.new.state) (outs (map g.LO.LaneEnd.history c.args.lanes.now) (map g.LO.LaneEnd.now c.args.lanes.now) (g.P.Pool.history c.args.pool.now) (g.P.Pool.now c.args.pool.now)) (g.H.Shelf.history c.args.shelf.now) (g.H.Shelf.now c.args.shelf.now) m n c.args.reader.now (g.S.Source.left c.args.source.now) (g.S.Source.faults c.args.source.now))
    (dispatcher_snapshot (dispatcher_state g.W.FlowWork.cost_of c.act.new.state) (outs (map g.LO.LaneEnd.history c.act.new.lanes) (map g.LO.LaneEnd.now c.act.new.lanes) (g.P.Pool.history c.act.new.pool) (g.P.Pool.now c.act.new.pool)) (g.H.Shelf.history c.act.new.shelf) (g.H.Shelf.now c.act.new.shelf) m n c.act.new.reader (g.S.Source.left c.act.new.source) (g.S.Source.faults c.act.new.source))
    (c.act.ensures.rule m n)

pub returns-then-pass_round-clause-shelf : goal.returns-then-pass_round-clause-shelf
returns-then-pass_round-clause-shelf g c = record { key = refl; buckets = refl; shares = refl; held = refl; ended = refl }
