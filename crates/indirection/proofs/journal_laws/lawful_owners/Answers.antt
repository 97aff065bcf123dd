use Rattle.indirection.proofs.StintOwners.{lawful_core, lawful_stint}
use Rattle.indirection.proofs.SentOwned.{sent_owned-all}
use Rattle.indirection.proofs.journal_laws.lawful_owners.Goals as goal

pub returns-clause-core : goal.returns-clause-core
returns-clause-core c = lawful_core

pub returns-clause-stint : goal.returns-clause-stint
returns-clause-stint c = lawful_stint

pub returns-clause-sent : goal.returns-clause-sent
returns-clause-sent c = sent_owned-all
