use Rattle.std.proofs.Common.{◌≡◌}
use Rattle.std.specs.Slice.Iter.{iter_rest}
use Rattle.indirection.specs.Tries.{owner_from, round_tries}
use Rattle.indirection.proofs.round_entry.RoundEntry.owner_after.Given as goal

-- the proposals and outcomes that are left give the rest of the change
abbrev pub invariant-loop-proposal : goal.invariant-loop-proposal
invariant-loop-proposal l =
    owner_from l.bucket l.owner (round_tries l.self.at (iter_rest l.proposal-iterator.a) (iter_rest l.proposal-iterator.b))
    ≡ owner_from l.bucket l.fn.owner (round_tries l.self.at l.self.proposals l.self.outcomes)
