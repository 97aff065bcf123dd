use Rattle.std.proofs.Common.{◌≡◌, ℕ}
use Rattle.worker_loop.specs.Workload.{workload}
use Rattle.dispatch_loop.specs.Rules.{BlamesRead}
use Rattle.dispatch_loop.specs.DispatcherState.{dispatcher_state_by}
use Rattle.rsspp_run.specs.Serial.{number_after}
use Rattle.rsspp_run.specs.Sweeps.{RunInputs, Sweeping}
use Rattle.rsspp_run.proofs.local_run.LocalRun.run_sweeps.Given as goal

abbrev pub invariant-sweeps : goal.invariant-sweeps
invariant-sweeps g l =
    record {
      sweeping : (run : RunInputs) → Sweeping g.N.RunName.packets (workload g.W.FlowWork.opening g.W.FlowWork.after g.W.FlowWork.cost_of g.N.RunName.packets) run (dispatcher_state_by g.W.FlowWork.cost_of l.fn.dispatcher) l.fn.self l.fn.reader (g.S.Source.left l.fn.source) → run.swept ≡ 0 → l.number ≡ run.number
          → Sweeping g.N.RunName.packets (workload g.W.FlowWork.opening g.W.FlowWork.after g.W.FlowWork.cost_of g.N.RunName.packets) (record run { swept = l.counter }) (dispatcher_state_by g.W.FlowWork.cost_of l.dispatcher) l.self l.reader (g.S.Source.left l.source);
      next : l.next ≡ number_after l.counter l.number;
      blames : (n : ℕ) → BlamesRead l.fn.dispatcher.end n (g.S.Source.faults l.fn.source) → BlamesRead l.dispatcher.end n (g.S.Source.faults l.source);
      origin : g.S.Source.origin l.source ≡ g.S.Source.origin l.fn.source;
    }
