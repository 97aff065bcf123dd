use Rattle.indirection.proofs.Tails.{lawful_tails, lawful_stints}
use Rattle.indirection.proofs.Positions.{owner_of-sent}
use Rattle.indirection.proofs.Decides.{lawful_is, is_lawful}
use Rattle.indirection.proofs.laws.lawful_journals.Goals as goal

pub returns-clause-tails : goal.returns-clause-tails
returns-clause-tails c = lawful_tails

pub returns-clause-stints : goal.returns-clause-stints
returns-clause-stints c = lawful_stints

pub returns-clause-owner : goal.returns-clause-owner
returns-clause-owner c = owner_of-sent

pub returns-clause-tested : goal.returns-clause-tested
returns-clause-tested c = λ rules xs j. (lawful_is rules xs j, is_lawful rules xs j)
