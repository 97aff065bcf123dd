use Rattle.std.proofs.Common.{◌≡◌, ◌++◌, take}
use Rattle.std.specs.List.{flat_map}
use Rattle.balancer.specs.PlanText.{move_line}
use Rattle.balancer.proofs.round_text.put_moves.Given as goal

abbrev pub invariant-loop-proposal : goal.invariant-loop-proposal
invariant-loop-proposal l = l.text ≡ l.fn.text ++ flat_map move_line (take l.proposal-index l.proposals)
