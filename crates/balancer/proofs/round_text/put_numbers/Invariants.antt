use Rattle.std.proofs.Common.{◌≡◌, ◌++◌, take}
use Rattle.std.specs.List.{flat_map}
use Rattle.balancer.specs.PlanText.{spaced_number}
use Rattle.balancer.proofs.round_text.put_numbers.Given as goal

abbrev pub invariant-loop-number : goal.invariant-loop-number
invariant-loop-number l = l.text ≡ l.fn.text ++ flat_map spaced_number (take l.number-index l.numbers)
