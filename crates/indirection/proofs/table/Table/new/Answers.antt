use Rattle.indirection.proofs.Upto.{IsTable-in_turn}
use Rattle.indirection.proofs.table.Table.new.Goals as goal

pub invariant_of-result : goal.invariant_of-result
invariant_of-result c = rw c.in-Ok.ensures (IsTable-in_turn c.args.cores c.args.buckets c.requires.some_core c.requires.cores c.requires.some_bucket c.requires.buckets)

pub returns-in-Ok-clause-table : goal.returns-in-Ok-clause-table
returns-in-Ok-clause-table c = rw c.in-Ok.ensures (IsTable-in_turn c.args.cores c.args.buckets c.requires.some_core c.requires.cores c.requires.some_bucket c.requires.buckets)
