use Rattle.indirection.proofs.WholeRounds.{lawful_whole}
use Rattle.indirection.proofs.RoundFacts.{lawful_weighing, lawful_working}
use Rattle.indirection.proofs.journal_laws.lawful_rounds.Goals as goal

pub returns-clause-whole : goal.returns-clause-whole
returns-clause-whole c = lawful_whole

pub returns-clause-weighed : goal.returns-clause-weighed
returns-clause-weighed c = lawful_weighing

pub returns-clause-worked : goal.returns-clause-worked
returns-clause-worked c = lawful_working
