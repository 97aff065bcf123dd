use Rattle.std.proofs.Common.{◌+◌, ℕ, None, refl, sym, ap, subst, ◌∙◌, arith}
use Rattle.bucket_table.specs.Table.{TableOf}
use Rattle.handover_words.specs.declared.history.ShelfHistory.{ShelfHistory}
use Rattle.handover_words.specs.ShelfHistory.{claimed_at}
use Rattle.handover_words.specs.Stands.{Stands, IsTableOf}
use Rattle.handover_words.proofs.Claims.{claimed_at-claimed}
use Rattle.handover_words.proofs.Worked.{Stands-custody}
use Rattle.shared_ends.specs.Packets.{IsPacketAt}
use Rattle.shared_ends.proofs.work_one.work_one.Goals as goal

pub release-requires-clause-claimed : goal.release-requires-clause-claimed
release-requires-clause-claimed g c =
    let e = g.H.Shelf.history c.args.shelf.now in let b = c.args.bucket in
    (c.args.place, ap (claimed_at b) c.in_ok-table.ensures.history ∙ claimed_at-claimed b c.args.place e, omega arith)

pub release-requires-clause-table : goal.release-requires-clause-table
release-requires-clause-table g c =
    let S : Type 0 = g.row.W-State.Denot in let opening = g.W.FlowWork.opening in let after = g.W.FlowWork.after in let x = g.N.RunName.packets in let e = g.H.Shelf.history c.args.shelf.now in let b = c.args.bucket in
    let lies = c.in_ok-table.ensures.table in let begun = c.begin_custody.ensures in
    let from = subst (Stands opening after x e.key e.buckets b) (sym begun) (Stands-custody opening after x e.key e.buckets b c.in_ok-table.table _ lies.stands) in
    let start = ap (λ (t : TableOf S). t.done) begun ∙ lies.done_is in
    let next = subst (λ (n : ℕ). IsPacketAt x e.key e.buckets b n c.args.packet.now) (sym start) c.requires.packet in
    let worked = c.work_next.ensures.stands e.key e.buckets b from next in let one = c.work_next.ensures.done in
    let put : IsTableOf opening after x e.key e.buckets b (c.args.place + 1) (record c.work_next.new.table { custody = None }) =
    record { stands = Stands-custody opening after x e.key e.buckets b c.work_next.new.table None worked; done_is = omega arith; closed = refl } in
    subst (λ (z : ShelfHistory × TableOf S). IsTableOf opening after x z.0.key z.0.buckets b (c.args.place + 1) z.1) (λ i. (sym c.in_ok-table.ensures.history i, sym c.end_custody.ensures.closed i)) put
