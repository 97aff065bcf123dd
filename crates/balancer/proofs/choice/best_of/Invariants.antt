use Rattle.std.proofs.Common.{◌≡◌, map}
use Rattle.std.specs.Prelude.{filter}
use Rattle.indirection.specs.Tries.{upto}
use Rattle.balancer.specs.Greedy.{allowed, proposal, greatest}
use Rattle.balancer.specs.Standing.{round_state_at}
use Rattle.balancer.proofs.choice.best_of.Given as goal

abbrev pub invariant-loop-to : goal.invariant-loop-to
invariant-loop-to l = l.best ≡ greatest (map (λ d. proposal (round_state_at l.s) l.bucket d) (filter (λ d. allowed (round_state_at l.s) l.bucket d) (upto l.to)))
