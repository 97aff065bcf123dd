use Rattle.std.proofs.Common.{◌≡◌, ◌++◌, map, take}
use Rattle.flow_report.specs.JournalText.{spaced}
use Rattle.flow_report.proofs.journal_line.put_numbers.Given as goal

abbrev pub invariant-loop-number : goal.invariant-loop-number
invariant-loop-number g l = l.text ≡ l.fn.text ++ spaced (map g.N.Integer.text (take l.number-index l.numbers))
