use Rattle.std.proofs.Common.{◌∙◌, ℕ, refl, sym, ap, subst, arith, add-one}
use Rattle.worker_loop.specs.Workload.{workload}
use Rattle.dispatch_loop.specs.DispatcherState.{dispatcher_state_by}
use Rattle.rsspp_run.specs.Serial.{number_after}
use Rattle.rsspp_run.specs.Serial as numbers
use Rattle.rsspp_run.specs.Sweeps.{IsSweeping}
use Rattle.rsspp_run.proofs.Sweeping.{few_sweeps}
use Rattle.rsspp_run.proofs.local_run.LocalRun.run_sweeps.Goals as goal

pub sweeps-init : goal.sweeps-init
sweeps-init g c = record {
  sweeping = λ run h none is. subst (λ (n : ℕ). IsSweeping g.N.RunName.packets (workload g.W.FlowWork.opening g.W.FlowWork.after g.W.FlowWork.cost_of g.N.RunName.packets) run.terms run.pool run.number n run.bytes (dispatcher_state_by g.W.FlowWork.cost_of c.args.dispatcher.now) c.args.self.now c.args.reader.now (g.S.Source.left c.args.source.now)) none h;
  next = refl;
  blames = λ n b. b;
  origin = refl;
}

pub sweep-requires-clause-sweeping : goal.sweep-requires-clause-sweeping
sweep-requires-clause-sweeping g c κs within =
    let run = c.requires.sweeping.0 in
    (record run { swept = c.sweeps.counter }, c.sweeps.invariant.sweeping run c.requires.sweeping.1 c.requires.sweeping.2 c.requires.sweeping.3, c.sweeps.invariant.next ∙ ap (number_after c.sweeps.counter) c.requires.sweeping.3)

pub sweeps-preserved : goal.sweeps-preserved
sweeps-preserved g c = record {
  sweeping = λ run h none is. c.in-None.ensures.swept (record run { swept = c.sweeps.counter }) (c.sweeps.invariant.sweeping run h none is) (c.sweeps.invariant.next ∙ ap (number_after c.sweeps.counter) is);
  next = c.following-next.ensures ∙ (ap numbers.following c.sweeps.invariant.next ∙ ap (λ (n : ℕ). number_after n c.args.number) (sym (add-one c.sweeps.counter)));
  blames = λ n b. c.sweep.ensures.blames n (c.sweeps.invariant.blames n b);
  origin = c.sweep.ensures.origin ∙ c.sweeps.invariant.origin;
}

pub returns-in-Some-clause-ended : goal.returns-in-Some-clause-ended
returns-in-Some-clause-ended g c = λ run h none is. c.in-Some.ensures.swept (record run { swept = c.sweeps.counter }) (c.sweeps.invariant.sweeping run h none is) (c.sweeps.invariant.next ∙ ap (number_after c.sweeps.counter) is)

pub unreachable-requires : goal.unreachable-requires
unreachable-requires g c =
    let run = c.requires.sweeping.0 in
    let few = few_sweeps g.N.RunName.packets (workload g.W.FlowWork.opening g.W.FlowWork.after g.W.FlowWork.cost_of g.N.RunName.packets) run.terms run.pool run.number c.sweeps.counter run.bytes (dispatcher_state_by g.W.FlowWork.cost_of c.sweeps.dispatcher) c.sweeps.self c.sweeps.reader (g.S.Source.left c.sweeps.source)
    (c.sweeps.invariant.sweeping run c.requires.sweeping.1 c.requires.sweeping.2 c.requires.sweeping.3) in
    let done = c.sweeps-test.false in
    absurd (omega arith)
