use Rattle.std.proofs.Common.{◌≡◌, ◌++◌, ◌-◌, take, drop, length}
use Rattle.parked_queue.specs.Parked.{removed}
use Rattle.parked_queue.proofs.line.remove_first.Given as goal

abbrev pub invariant-loop-at : goal.invariant-loop-at
invariant-loop-at l = record { same : l.line ≡ l.fn.line; split : removed l.bucket l.fn.line.items ≡ take l.at l.fn.line.items ++ removed l.bucket (drop l.at l.fn.line.items) }

abbrev pub decreases-loop-at : goal.decreases-loop-at
decreases-loop-at l = length l.line.items - l.at
