use Rattle.std.proofs.Common.{◌≡◌, ◌∙◌, ◌&&◌, ◌+◌, ◌-◌, ◌<◌, Bool, sym, ap, arith}
use Rattle.worker_loop.specs.Workload.{workload}
use Rattle.dispatch_loop.specs.Terms.{cores_of}
use Rattle.dispatch_loop.specs.DispatcherState.{dispatcher_state_by}
use Rattle.rsspp_run.specs.Serial.{party, number_after}
use Rattle.rsspp_run.specs.Sweeps.{is_ended}
use Rattle.rsspp_run.proofs.Parties.{party_below}
use Rattle.rsspp_run.proofs.Sweeping.{dispatcher_in, worker_in, workers_in}
use Rattle.rsspp_run.proofs.local_run.LocalRun.give_turn.Goals as goal
use Rattle.rsspp_run.proofs.local_run.LocalRun.give_turn.Goals.{then-swept, else-swept}

pub work-turn-requires-clause-at : goal.work-turn-requires-clause-at
work-turn-requires-clause-at g c κs within =
    let left = g.S.Source.left in
    let run = c.requires.in_sweep.0 in let i = c.requires.in_sweep.1 in
    let w = workers_in g.N.RunName.packets (workload g.W.FlowWork.opening g.W.FlowWork.after g.W.FlowWork.cost_of g.N.RunName.packets) run.terms run.pool run.number run.swept run.bytes i c.args.swept.now.over c.args.swept.now.end (dispatcher_state_by g.W.FlowWork.cost_of c.args.dispatcher.now) c.args.self.now c.args.reader.now (left c.args.source.now) c.requires.in_sweep.2 in
    let is = c.requires.in_sweep.3 in let below = party_below (cores_of run.terms) (number_after run.swept run.number) i in let wide = w.2 in let ne = c.if-party-eq0.false in
    (w.0, w.1, omega arith)

pub returns-then-party-eq0-clause-in_sweep : goal.returns-then-party-eq0-clause-in_sweep
returns-then-party-eq0-clause-in_sweep g c = λ run i h is lt.
    let left = g.S.Source.left in let faults = g.S.Source.faults in
    rw c.finished-swept.ensures (dispatcher_in g.N.RunName.packets (workload g.W.FlowWork.opening g.W.FlowWork.after g.W.FlowWork.cost_of g.N.RunName.packets) run.terms run.pool run.number run.swept run.bytes i c.args.swept.now.over c.args.swept.now.end
    (dispatcher_state_by g.W.FlowWork.cost_of c.args.dispatcher.now) (dispatcher_state_by g.W.FlowWork.cost_of c.dispatch-turn.new.dispatcher) c.args.self.now c.dispatch-turn.new.self c.args.reader.now c.dispatch-turn.new.reader (left c.args.source.now) (left c.dispatch-turn.new.source) (faults c.args.source.now) (faults c.dispatch-turn.new.source)
    c.dispatch-turn.result lt (sym is ∙ c.if-party-eq0.true) c.dispatch-turn.ensures.same.0 c.dispatch-turn.ensures.same.1 c.dispatch-turn.ensures.rule c.dispatch-turn.ensures.tied h)

pub returns-after-swept-clause-in_sweep : goal.returns-after-swept-clause-in_sweep
returns-after-swept-clause-in_sweep g c = λ run i h is lt.
    let left = g.S.Source.left in
    let below = party_below (cores_of run.terms) (number_after run.swept run.number) i in let ne = c.if-party-eq0.false in
    let near : c.args.party - 1 < cores_of run.terms = omega arith in
    let here : party (cores_of run.terms) (number_after run.swept run.number) i ≡ (c.args.party - 1) + 1 = omega arith in
    let same : c.if-swept.swept ≡ (c.args.swept.now.over && is_ended c.work-turn.result) = elim c.if-swept.branch [
      | then-swept w ↦ w.swept-is ∙ (w.has_ended-swept.ensures ∙ sym (ap (λ (b : Bool). b && is_ended c.work-turn.result) w.if-swept.true))
      | else-swept w ↦ w.swept-is ∙ (w.if-swept.false ∙ sym (ap (λ (b : Bool). b && is_ended c.work-turn.result) w.if-swept.false))
    ] in
    rw same (worker_in g.N.RunName.packets (workload g.W.FlowWork.opening g.W.FlowWork.after g.W.FlowWork.cost_of g.N.RunName.packets) run.terms run.pool run.number run.swept run.bytes i c.args.swept.now.over c.args.swept.now.end
    (dispatcher_state_by g.W.FlowWork.cost_of c.args.dispatcher.now) c.args.self.now c.work-turn.new.self (c.args.party - 1) c.work-turn.result near here c.work-turn.ensures.did c.args.reader.now (left c.args.source.now) h)
