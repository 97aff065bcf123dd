use Rattle.std.proofs.Common.{length}
use Rattle.run_shifts.proofs.jobs.+calls.Given as goal

abbrev pub decreases-beside : goal.decreases-beside
decreases-beside g l = length l.jobs.items

abbrev pub decreases-join+arg3 : goal.decreases-join+arg3
decreases-join+arg3 g l = length l.jobs.items
