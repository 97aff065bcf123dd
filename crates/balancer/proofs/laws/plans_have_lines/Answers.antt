use Rattle.balancer.proofs.PlanLaw.{same_instance, one_answer}
use Rattle.balancer.proofs.laws.plans_have_lines.Goals as goal

pub returns-clause-lines : goal.returns-clause-lines
returns-clause-lines c = same_instance

pub returns-clause-one : goal.returns-clause-one
returns-clause-one c = one_answer
