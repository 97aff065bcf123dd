use Rattle.balancer.specs.Leading.{IsLeast}
use Rattle.balancer.proofs.nearest.least_core.Given as goal

abbrev pub invariant-loop-core : goal.invariant-loop-core
invariant-loop-core l = IsLeast l.carried l.core l.least
