use Rattle.std.proofs.Common.{◌≡◌, ◌∙◌, ℕ, ◌+◌, length, refl, subst, arith}
use Rattle.worker_loop.specs.Workload.{workload}
use Rattle.dispatch_loop.specs.Terms.{cores_of}
use Rattle.dispatch_loop.specs.DispatcherState.{dispatcher_state_by}
use Rattle.rsspp_run.specs.Sweeps.{InSweep}
use Rattle.rsspp_run.proofs.Sweeping.{first_in, swept, workers_are, party_there, turns_below}
use Rattle.rsspp_run.proofs.local_run.LocalRun.sweep.Goals as goal

pub turns-init : goal.turns-init
turns-init g c = record {
  swept = λ run h is. first_in g.N.RunName.packets (workload g.W.FlowWork.opening g.W.FlowWork.after g.W.FlowWork.cost_of g.N.RunName.packets) run.terms run.pool run.number run.swept run.bytes (dispatcher_state_by g.W.FlowWork.cost_of c.args.dispatcher.now) c.args.self.now c.args.reader.now (g.S.Source.left c.args.source.now) h;
  blames = λ n b. b;
  origin = refl;
}

pub give_turn-requires-clause-in_sweep : goal.give_turn-requires-clause-in_sweep
give_turn-requires-clause-in_sweep g c κs within =
    let run = c.requires.sweeping.0 in let h = c.requires.sweeping.1 in let is = c.requires.sweeping.2 in
    let wide = workers_are g.N.RunName.packets (workload g.W.FlowWork.opening g.W.FlowWork.after g.W.FlowWork.cost_of g.N.RunName.packets) run.terms run.pool run.number run.swept run.bytes (dispatcher_state_by g.W.FlowWork.cost_of c.args.dispatcher.now) c.args.self.now c.args.reader.now (g.S.Source.left c.args.source.now) h in (
      run,
      c.turns.step,
      c.turns.invariant.swept run h is,
      party_there run c.first_party-first.result c.turns.step c.parties-parties.result c.args.number (length c.args.self.now.workers) c.first_party-first.ensures is c.parties-parties.ensures.value wide,
      turns_below run c.turns.step c.parties-parties.result (length c.args.self.now.workers) c.turns-test.true c.parties-parties.ensures.value wide,
    )

pub turns-preserved : goal.turns-preserved
turns-preserved g c = record {
  swept = λ run h is.
      let wide = workers_are g.N.RunName.packets (workload g.W.FlowWork.opening g.W.FlowWork.after g.W.FlowWork.cost_of g.N.RunName.packets) run.terms run.pool run.number run.swept run.bytes (dispatcher_state_by g.W.FlowWork.cost_of c.args.dispatcher.now) c.args.self.now c.args.reader.now (g.S.Source.left c.args.source.now) h in
      c.give_turn.ensures.in_sweep run c.turns.step (c.turns.invariant.swept run h is)
      (party_there run c.first_party-first.result c.turns.step c.parties-parties.result c.args.number (length c.args.self.now.workers) c.first_party-first.ensures is c.parties-parties.ensures.value wide)
      (turns_below run c.turns.step c.parties-parties.result (length c.args.self.now.workers) c.turns-test.true c.parties-parties.ensures.value wide);
  blames = λ n b. c.give_turn.ensures.blames n (c.turns.invariant.blames n b);
  origin = c.give_turn.ensures.origin ∙ c.turns.invariant.origin;
}

pub returns-clause-swept : goal.returns-clause-swept
returns-clause-swept g c = λ run h is.
    let x = workload g.W.FlowWork.opening g.W.FlowWork.after g.W.FlowWork.cost_of g.N.RunName.packets in
    let left = g.S.Source.left in
    let wide = workers_are g.N.RunName.packets x run.terms run.pool run.number run.swept run.bytes (dispatcher_state_by g.W.FlowWork.cost_of c.args.dispatcher.now) c.args.self.now c.args.reader.now (left c.args.source.now) h in
    let value = c.parties-parties.ensures.value in let done = c.turns-test.false in let most = c.turns.auto.step-end in
    let all : c.turns.step ≡ cores_of run.terms + 1 = omega arith in
    rw c.all_finished.ensures (swept g.N.RunName.packets x run.terms run.pool run.number run.swept run.bytes (dispatcher_state_by g.W.FlowWork.cost_of c.turns.dispatcher) c.turns.self c.turns.reader (left c.turns.source) c.turns.swept.over c.turns.swept.end
    (subst (λ (n : ℕ). InSweep g.N.RunName.packets x run n c.turns.swept.over c.turns.swept.end (dispatcher_state_by g.W.FlowWork.cost_of c.turns.dispatcher) c.turns.self c.turns.reader (left c.turns.source)) all (c.turns.invariant.swept run h is)))
