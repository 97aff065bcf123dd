use Rattle.std.proofs.Common.{◌≡◌, false, All, take}
use Rattle.rsspp_run.proofs.closing.is_worker_short.Given as goal

abbrev pub invariant-loop-worker : goal.invariant-loop-worker
invariant-loop-worker g l = All (λ w. w.state.short ≡ false) (take l.worker-index l.workers)
