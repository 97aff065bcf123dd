use Rattle.shared_ends.specs.Sides.{IsFreeSeat}
use Rattle.shared_ends.proofs.in_turn.every_other.Given as goal

abbrev pub invariant-loop-place : goal.invariant-loop-place
invariant-loop-place g l = IsFreeSeat l.shelf l.end
