use Rattle.std.proofs.Common.{get_or}
use Rattle.dispatch_loop.proofs.Bearing.{one-taken}
use Rattle.dispatcher_tests.proofs.Lanes.{same_sent}
use Rattle.dispatcher_tests.proofs.hand.take_from.Goals as goal

pub returns-clause-sent : goal.returns-clause-sent
returns-clause-sent g c =
    let x = c.index-lanes-core.result in
    one-taken g.L.LaneEnd.history c.args.lanes.now c.args.core c.take.new.self x c.requires
    (same_sent (g.L.LaneEnd.history (get_or c.args.lanes.now c.args.core x)) (g.L.LaneEnd.history c.take.new.self) c.take.result c.take.ensures.history)
