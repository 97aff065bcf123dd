use Rattle.std.proofs.Common.{◌≡◌, flat_map, take}
use Rattle.rsspp_run.specs.Ends.{log_in}
use Rattle.rsspp_run.proofs.closing.all_logs.Given as goal

abbrev pub invariant-loop-worker : goal.invariant-loop-worker
invariant-loop-worker g l = l.all.items ≡ flat_map log_in (take l.worker-index l.workers)
