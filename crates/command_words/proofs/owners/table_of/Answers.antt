use Rattle.command_words.proofs.TableLemmas.{no_bad_core, other_length}
use Rattle.command_words.proofs.owners.table_of.Goals as goal

pub returns-in-Err-BadCount : goal.returns-in-Err-BadCount
returns-in-Err-BadCount c =
    let refused = rw c.in-Err-BadCount.field-0-is at c.in-Err-BadCount.ensures.err in
    other_length c.args.cores c.args.buckets c.args.owners.now refused.0

pub returns-in-Err-BadCore : goal.returns-in-Err-BadCore
returns-in-Err-BadCore c =
    let refused = rw c.in-Err-BadCore.field-0-is at c.in-Err-BadCore.ensures.err in
    absurd (no_bad_core c.args.cores c.args.owners.now c.in-Err-BadCore.field-0-0 c.requires.owners refused.1)
