use Rattle.std.proofs.Common.{◌≡◌}
use Rattle.indirection.specs.Tables.{owners_in_turn}
use Rattle.indirection.proofs.table.owners_in_turn.Given as goal

abbrev pub invariant-loop-bucket : goal.invariant-loop-bucket
invariant-loop-bucket l = l.owners.items ≡ owners_in_turn l.cores l.bucket
