use Rattle.rsspp_main.proofs.Complete.{said}
use Rattle.rsspp_main.proofs.process.end_with.Goals as goal

pub returns-clause-notes : goal.returns-clause-notes
returns-clause-notes g c = said c.fault_line.result _ _ _ _ _ c.fault_line.ensures.ok c.fault_line.ensures.err c.fault_line.ensures.cause
