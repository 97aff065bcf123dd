use Rattle.indirection.proofs.Told.{parcels_of-told, tries_of-told}
use Rattle.indirection.proofs.Steps.{count_in-total}
use Rattle.indirection.proofs.laws.stories.Goals as goal

pub returns-clause-packets : goal.returns-clause-packets
returns-clause-packets c = λ xs es. parcels_of-told es 0 xs

pub returns-clause-tries : goal.returns-clause-tries
returns-clause-tries c = λ xs es. tries_of-told es 0 xs

pub returns-clause-totals : goal.returns-clause-totals
returns-clause-totals c = count_in-total
