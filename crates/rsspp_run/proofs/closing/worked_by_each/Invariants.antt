use Rattle.std.proofs.Common.{◌≡◌, map, take}
use Rattle.rsspp_run.specs.Ends.{worked_in}
use Rattle.rsspp_run.proofs.closing.worked_by_each.Given as goal

abbrev pub invariant-loop-worker : goal.invariant-loop-worker
invariant-loop-worker g l = l.counts.items ≡ map worked_in (take l.worker-index l.workers)
