use Rattle.std.proofs.Common.{ap, List, ◌∙◌}
use Rattle.indirection.specs.declared.entry.Entry.{Entry}
use Rattle.indirection.specs.Rounds.{entries_with}
use Rattle.indirection.proofs.LastRounds.{ArePaired-back}
use Rattle.indirection.proofs.journal.Journal.push_outcome.Goals as goal

pub invariant_of-self : goal.invariant_of-self
invariant_of-self c =
    let es = c.self.inside.entries.items in
    let is = c.add_outcome.ensures ∙ ap (λ (zs : List Entry). entries_with zs c.args.outcome) c.deref_mut.ensures.value in
    let len = rw c.deref_mut.ensures.value at c.deref_mut.ensures.len in
    (c.self.invariant.0, ArePaired-back es c.add_outcome.new.entries c.self.inside.entries.len c.args.outcome is len c.self.invariant.1 (rw (← c.self.view_is) at c.requires))
