use Rattle.std.proofs.Common.{length}
use Rattle.balancer.specs.Standing.{AreLoads}
use Rattle.balancer.proofs.tests.bodies.drawn.Given as goal

abbrev pub invariant-loop-bucket : goal.invariant-loop-bucket
invariant-loop-bucket l = AreLoads l.table.cores (length l.table.owners) l.loads
