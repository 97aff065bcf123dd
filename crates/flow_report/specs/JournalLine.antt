-- The lines of a journal text as the program has them.
use Rattle.std.specs.Prelude.{ℕ, List, [], ◌∷◌, codes}
use Rattle.flow_report.specs.declared.journal_line.Line.{Line}
use Rattle.flow_report.specs.declared.journal_line.Line.TheVariants.{Head, Owners, Weighed, Tried, Ordered, Held, End}
use Rattle.flow_report.specs.JournalText.{table_line, round_line, proposal_line, order_line, custody_line}

-- the words of a line
abbrev pub line_words : Line → List (List ℕ)
line_words Head = codes "journal" ∷ []
line_words (Owners owners) = table_line owners.now
line_words (Weighed at loads bases) = round_line at loads.now bases.now
line_words (Tried proposal outcome) = proposal_line proposal outcome
line_words (Ordered entry) = order_line entry
line_words (Held custody) = custody_line custody
line_words End = codes "end" ∷ []
