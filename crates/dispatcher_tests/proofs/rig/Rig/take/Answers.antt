use Rattle.flow_work.specs.Costs.{one}
use Rattle.dispatch_loop.specs.DispatcherState.{dispatcher_state_by}
use Rattle.dispatcher_tests.proofs.Rigs.{at_lanes}
use Rattle.dispatcher_tests.proofs.rig.Rig.take.Goals as goal

pub invariant_of-self : goal.invariant_of-self
invariant_of-self c =
    let r = c.self.inside in
    at_lanes (dispatcher_state_by one r.dispatcher) r.lanes r.shelf r.meter r.reader r.source r.held c.self.invariant c.take_from.new.lanes c.take_from.ensures.sent

pub invariant_of-self-in-Some-Cell : goal.invariant_of-self-in-Some-Cell
invariant_of-self-in-Some-Cell c =
    let r = c.self.inside in
    at_lanes (dispatcher_state_by one r.dispatcher) r.lanes r.shelf r.meter r.reader r.source r.held c.self.invariant c.take_from.new.lanes c.take_from.ensures.sent

pub invariant_of-self-in-Some-Cell-2 : goal.invariant_of-self-in-Some-Cell-2
invariant_of-self-in-Some-Cell-2 c =
    let r = c.self.inside in
    at_lanes (dispatcher_state_by one r.dispatcher) r.lanes r.shelf r.meter r.reader r.source r.held c.self.invariant c.take_from.new.lanes c.take_from.ensures.sent
