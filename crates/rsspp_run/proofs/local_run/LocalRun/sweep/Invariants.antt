use Rattle.std.proofs.Common.{◌≡◌, ℕ}
use Rattle.worker_loop.specs.Workload.{workload}
use Rattle.dispatch_loop.specs.Rules.{BlamesRead}
use Rattle.dispatch_loop.specs.DispatcherState.{dispatcher_state_by}
use Rattle.rsspp_run.specs.Serial.{number_after}
use Rattle.rsspp_run.specs.Sweeps.{RunInputs, Sweeping, InSweep}
use Rattle.rsspp_run.proofs.local_run.LocalRun.sweep.Given as goal

abbrev pub invariant-turns : goal.invariant-turns
invariant-turns g l =
    record {
      swept : (run : RunInputs) → Sweeping g.N.RunName.packets (workload g.W.FlowWork.opening g.W.FlowWork.after g.W.FlowWork.cost_of g.N.RunName.packets) run (dispatcher_state_by g.W.FlowWork.cost_of l.fn.dispatcher) l.fn.self l.fn.reader (g.S.Source.left l.fn.source) → l.number ≡ number_after run.swept run.number
          → InSweep g.N.RunName.packets (workload g.W.FlowWork.opening g.W.FlowWork.after g.W.FlowWork.cost_of g.N.RunName.packets) run l.step l.swept.over l.swept.end (dispatcher_state_by g.W.FlowWork.cost_of l.dispatcher) l.self l.reader (g.S.Source.left l.source);
      blames : (n : ℕ) → BlamesRead l.fn.dispatcher.end n (g.S.Source.faults l.fn.source) → BlamesRead l.dispatcher.end n (g.S.Source.faults l.source);
      origin : g.S.Source.origin l.source ≡ g.S.Source.origin l.fn.source;
    }
