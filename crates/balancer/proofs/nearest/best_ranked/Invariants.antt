use Rattle.std.proofs.Common.{◌<◌, get_or}
use Rattle.balancer.specs.Leading.{IsLeading}
use Rattle.balancer.specs.Standing.{round_state_at}
use Rattle.balancer.proofs.nearest.best_ranked.Given as goal

abbrev pub invariant-loop-from : goal.invariant-loop-from
invariant-loop-from l = IsLeading (round_state_at l.s) l.to (λ b. get_or l.s.owners.now b 0 < l.from) l.best
