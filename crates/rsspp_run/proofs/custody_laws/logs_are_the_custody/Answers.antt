use Rattle.rsspp_run.proofs.CustodySorts.{in_order, placed}
use Rattle.rsspp_run.proofs.custody_laws.logs_are_the_custody.Goals as goal

pub returns-clause-sorted : goal.returns-clause-sorted
returns-clause-sorted c = λ rules xs j cores n logs cs lawful owners to entries split o p. in_order rules xs j cores n logs lawful owners to entries split cs o p

pub returns-clause-placed : goal.returns-clause-placed
returns-clause-placed c = λ rules xs j cores n logs lawful owners to entries split. placed rules xs j cores n logs lawful owners to entries split
