use Rattle.std.proofs.Common.{◌≡◌, ℕ, ◌+◌, ◌<◌, get_or, take, length}
use Rattle.balancer.specs.Imbalance.{owned}
use Rattle.balancer.proofs.weigh.weigh.Given as goal

abbrev pub invariant-loop-bucket : goal.invariant-loop-bucket
invariant-loop-bucket l = (k : ℕ) → k < length l.carried → get_or l.carried k 0 ≡ get_or l.loads.base k 0 + owned k (take l.bucket l.owners) (take l.bucket l.loads.bucket)
