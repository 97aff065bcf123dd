use Rattle.indirection.proofs.LawfulSteps.{IsLawfulSoFar-send, IsLawfulSoFar-order, IsLawfulSoFar-round, IsLawfulSoFar-outcome}
use Rattle.indirection.proofs.laws.lawful_steps.Goals as goal

pub returns-clause-packet : goal.returns-clause-packet
returns-clause-packet c = IsLawfulSoFar-send

pub returns-clause-order : goal.returns-clause-order
returns-clause-order c = IsLawfulSoFar-order

pub returns-clause-round : goal.returns-clause-round
returns-clause-round c = IsLawfulSoFar-round

pub returns-clause-outcome : goal.returns-clause-outcome
returns-clause-outcome c = IsLawfulSoFar-outcome
