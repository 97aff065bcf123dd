use Rattle.std.proofs.Common.{◌≡◌, ◌+◌, length}
use Rattle.flow_report.proofs.WholeRounds.{AreWhole}
use Rattle.flow_report.proofs.journal.tests.journal_of.Given as goal

abbrev pub invariant-loop-order : goal.invariant-loop-order
invariant-loop-order l = record { whole : AreWhole l.journal.entries; room : l.journal.room + l.order-index ≡ length l.orders }
