use Rattle.std.proofs.Common.{◌≡◌}
use Rattle.std.specs.Prelude.{flat_map}
use Rattle.indirection.specs.Tries.{upto}
use Rattle.balancer.specs.Greedy.{choices_of, greatest}
use Rattle.balancer.specs.Standing.{round_state_at}
use Rattle.balancer.proofs.choice.best.Given as goal

abbrev pub invariant-loop-bucket : goal.invariant-loop-bucket
invariant-loop-bucket l = l.best ≡ greatest (flat_map (choices_of (round_state_at l.s)) (upto l.bucket))
