-- The better of two choices.
use Rattle.std.specs.Prelude.{Option, Some, None}
use Rattle.indirection.specs.declared.proposal.Proposal.{Proposal}
use Rattle.balancer.specs.Greedy.{ahead}

-- the first, unless there is none or the second gains more
abbrev pub better : Option Proposal → Option Proposal → Option Proposal
better None o = o
better (Some p) o = ahead p o
