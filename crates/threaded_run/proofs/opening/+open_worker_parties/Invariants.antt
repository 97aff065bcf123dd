use Rattle.std.proofs.Common.{length}
use Rattle.threaded_run.proofs.opening.+open_worker_parties.Given as goal

abbrev pub decreases-open_worker_parties : goal.decreases-open_worker_parties
decreases-open_worker_parties g l = length l.takers.items
