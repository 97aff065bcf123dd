use Rattle.flow_report.proofs.JournalLaw.{equal_lines, texts_tell_all}
use Rattle.flow_report.proofs.journal_laws.journal_texts_tell_all.Goals as goal

pub returns-clause-lines : goal.returns-clause-lines
returns-clause-lines c = equal_lines

pub returns-clause-all : goal.returns-clause-all
returns-clause-all c = texts_tell_all
