use Rattle.std.proofs.Common.{◌≡◌, ◌≤◌, length, drop, take, ap, ◌∙◌, arith}
use Rattle.rss_base.proofs.Pieces.{parted, none_given, cut_at-positive}
use Rattle.rss_base.proofs.memory_source.MemorySourceSource.read.Goals as goal

pub returns-clause-bytes : goal.returns-clause-bytes
returns-clause-bytes c =
    let read = c.copy_from-count in
    let bytes = c.self.inside.bytes.items in
    let from = c.self.inside.given in
    let same : c.deref-3.result.now ≡ bytes = c.deref-3.ensures.value in
    let positive : 1 ≤ c.cut_of-most.result = rw c.cut_of-most.ensures (cut_at-positive _ _) in
    rw (← c.self.view_is) (
      parted bytes _ from read.result (read.ensures.bytes ∙ ap (λ xs. take read.result (drop from xs)) same),
      λ none room. none_given bytes from c.cut_of-most.result (length c.args.into.now) read.result positive (omega arith) (rw same at read.ensures.count) none,
    )
