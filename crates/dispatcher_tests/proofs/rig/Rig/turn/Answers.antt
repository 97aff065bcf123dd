use Rattle.dispatch_loop.specs.Past.{past}
use Rattle.flow_work.specs.Costs.{one}
use Rattle.dispatch_loop.specs.DispatcherState.{dispatcher_state_by}
use Rattle.dispatcher_tests.proofs.Rigs.{behind_turn}
use Rattle.dispatcher_tests.proofs.rig.Rig.turn.Goals as goal

pub invariant_of-self : goal.invariant_of-self
invariant_of-self c =
    let r = c.self.inside in let p = c.self.invariant.tied in let k = c.turn.ensures.tied.stays p.0 p.1 in
    behind_turn (dispatcher_state_by one r.dispatcher) r.lanes r.shelf r.meter r.reader r.source r.held c.self.invariant (dispatcher_state_by one c.turn.new.self) c.turn.new.lanes c.turn.new.shelf c.turn.new.meter c.turn.new.reader c.turn.new.source (past p.0.bytes k.0, k.2) c.turn.ensures.shelf
