use Rattle.std.proofs.Common.{◌≡◌, take}
use Rattle.indirection.specs.Owner.{owner_of}
use Rattle.indirection.proofs.owner.owner_at.Given as goal

-- the owner that the entries so far give
abbrev pub invariant-loop-entry : goal.invariant-loop-entry
invariant-loop-entry l = l.owner ≡ owner_of (record { start = l.journal.start.owners; entries = take l.entry-index l.journal.entries }) l.bucket l.at
