use Rattle.std.proofs.Common.{◌≡◌, ◌<◌, length, get_or, ◌∙◌}
use Rattle.indirection.proofs.Owners.{owner_of-within, owner_of-beyond}
use Rattle.indirection.proofs.owner.owner_at.Goals as goal
use Rattle.indirection.proofs.owner.owner_at.Goals.{then-at, else-at}

pub loop-entry-preserved : goal.loop-entry-preserved
loop-entry-preserved c =
    let start = c.args.journal.now.start.owners in
    let es = c.args.journal.now.entries in
    let n = c.loop-entry.entry-index in
    let e = c.entry-item.result in
    let inside : n < length es = rw (← c.entries-entry-items.ensures.value) c.loop-entry-test.true in
    let is : e ≡ get_or es n e = rw c.entries-entry-items.ensures.value at c.entry-item.is in
    elim c.if-at.branch [
      | then-at w ↦
          w.owner-is ∙ (w.owner_after-owner.ensures
          ∙ owner_of-within start es n e c.args.bucket c.args.at c.loop-entry.owner inside is (rw c.at.ensures at w.if-at.true) c.loop-entry.invariant)
      | else-at w ↦
          w.owner-is
          ∙ owner_of-beyond start es n e c.args.bucket c.args.at c.loop-entry.owner inside is (rw c.at.ensures at w.if-at.false) c.loop-entry.invariant
    ]
