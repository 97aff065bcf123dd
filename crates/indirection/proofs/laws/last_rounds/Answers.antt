use Rattle.indirection.proofs.LastRounds.{last_round-at, entries_with-at}
use Rattle.indirection.proofs.laws.last_rounds.Goals as goal

pub returns-clause-found : goal.returns-clause-found
returns-clause-found c = λ front behind r none. last_round-at front r behind none

pub returns-clause-gains : goal.returns-clause-gains
returns-clause-gains c = λ front behind r o none. entries_with-at front r behind o none
