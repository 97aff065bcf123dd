use Rattle.std.proofs.Common.{◌≡◌, ◌++◌, length, reverse}
use Rattle.packet_pool.specs.Chain.{chain}
use Rattle.parked_queue.proofs.chains.turn.Given as goal

abbrev pub invariant-loop-from : goal.invariant-loop-from
invariant-loop-from l = reverse (chain l.fn.from) ≡ reverse (chain l.from) ++ chain l.to

abbrev pub decreases-loop-from : goal.decreases-loop-from
decreases-loop-from l = length (chain l.from)
