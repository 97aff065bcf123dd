use Rattle.indirection.proofs.KeptEntries.{entries_of-told}
use Rattle.indirection.proofs.journal_laws.stories_keep_their_entries.Goals as goal

pub returns : goal.returns
returns c = λ xs es paired. entries_of-told es 0 xs paired
