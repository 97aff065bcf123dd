use Rattle.handover_core.proofs.Posted.{journal_legal, fronts_legal}
use Rattle.handover_core.proofs.dispatch_laws.streams_are_legal.Goals as goal

pub returns-clause-whole : goal.returns-clause-whole
returns-clause-whole c = journal_legal

pub returns-clause-fronts : goal.returns-clause-fronts
returns-clause-fronts c = fronts_legal
