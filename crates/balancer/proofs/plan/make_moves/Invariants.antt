use Rattle.std.proofs.Common.{◌≡◌, take}
use Rattle.balancer.specs.PlanText.{owners_behind}
use Rattle.balancer.proofs.plan.make_moves.Given as goal

abbrev pub invariant-loop-proposal : goal.invariant-loop-proposal
invariant-loop-proposal l = l.table ≡ record l.fn.table { owners = owners_behind l.fn.table.owners (take l.proposal-index l.proposals) }
