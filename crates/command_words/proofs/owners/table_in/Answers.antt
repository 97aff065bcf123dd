use Rattle.std.proofs.Common.{Bor, map}
use Rattle.command_words.specs.Words.{Text}
use Rattle.command_words.proofs.TableLemmas.{owners_below}
use Rattle.command_words.proofs.owners.table_in.Goals as goal

pub table_of-requires-clause-owners : goal.table_of-requires-clause-owners
table_of-requires-clause-owners c = rw c.as_slice-in-Ok-Some.ensures.value (owners_below c.args.cores (map (λ (s : Bor Text). s.now) c.as_slice.result.now) c.in-Ok-Some.owners.items c.requires.low.0 (rw c.in-Ok-Some.field-0-is at c.in-Ok-Some.ensures))
