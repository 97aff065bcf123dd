use Rattle.std.proofs.Common.{refl}
use Rattle.flow_report.proofs.WholeRounds.{whole_each}
use Rattle.flow_report.proofs.journal.tests.journal_of_a_round.Goals as goal

pub returns : goal.returns
returns c = whole_each c.push_outcome.new.self.entries (rw (c.push_outcome.ensures, c.in_ok-push_round.ensures.ok, c.in_ok-journal.ensures) (refl, tt))
