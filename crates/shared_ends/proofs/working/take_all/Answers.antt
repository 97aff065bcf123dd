use Rattle.std.proofs.Common.{◌≡◌, ℕ, List, [], ◌∷◌, ◌++◌, Option, refl, sym, subst, ap, ◌∙◌, rules}
use Rattle.packet_fields.specs.declared.packet.PacketInfo.{PacketInfo}
use Rattle.toeplitz.specs.declared.key.Key.{Key}
use Rattle.packet_pool.specs.declared.cell.Cell.{Cell}
use Rattle.packet_pool.specs.Facts.{facts}
use Rattle.core_queue.specs.declared.item.Item.{Item}
use Rattle.core_queue.specs.declared.item.Seen.{Seen}
use Rattle.core_queue.specs.declared.item.Seen.TheVariants.{Packet, Close}
use Rattle.core_queue.specs.declared.history.LaneHistory.{LaneHistory}
use Rattle.core_queue.specs.Seen.{seen}
use Rattle.core_queue.specs.Cells.{LegalCells, IsCarried}
use Rattle.core_queue.specs.LaneHistory.{took}
use Rattle.core_queue.specs.RuledLane.{HasEnd}
use Rattle.core_queue.proofs.Cells.{cells-last}
use Rattle.shared_ends.specs.Sides.{SameRun}
use Rattle.shared_ends.proofs.working.take_all.Goals as goal

ends : (xs : List Seen) → HasEnd (xs ++ Close ∷ [])
ends [] = refl
ends (Packet f ∷ xs) = ends xs
ends (Close ∷ xs) = refl

-- an item that comes carries what its kind says
comes : (x : Option (List PacketInfo)) (old e : LaneHistory) (i : Item) (s : Seen) → SameRun old e → seen i ≡ s → LegalCells x e.key e.buckets (e.taken ++ seen i ∷ []) → IsCarried x old.key old.buckets s
comes x old e i s run is legal =
    subst (λ (z : Key × ℕ). IsCarried x z.0 z.1 s) (λ j. (run.key j, run.buckets j))
    (cells-last x e.key e.buckets e.taken s (subst (λ (y : Seen). LegalCells x e.key e.buckets (e.taken ++ y ∷ [])) is legal)).1

pub returns-in-Some-End-clause-ended : goal.returns-in-Some-End-clause-ended
returns-in-Some-End-clause-ended g c =
    let old : LaneHistory = g.L.LaneEnd.history c.loop.lane in
    let history = c.in-Some-End.ensures.history ∙ ap (λ (x : Item). took (seen x) old) c.in-Some-End.field-0-is in
    subst (λ (e : LaneHistory). HasEnd e.taken) (sym history) (ends old.taken)

pub loop-preserved-in-Some-Cell : goal.loop-preserved-in-Some-Cell
loop-preserved-in-Some-Cell g c =
    let old = g.L.LaneEnd.history c.args.lane.now in let e = g.L.LaneEnd.history c.loop.lane in let inv = c.loop.invariant in
    let is = ap seen c.in-Some-Cell.field-0-is ∙ ap (λ (v : Cell). Packet (facts v)) (sym c.deref.ensures) in
    record {
      lane_home = search rules;
      pool_home = search rules;
      run = search rules;
      packet = c.first_packet-first.ensures old.key old.buckets (comes g.N.RunName.packets old e _ _ inv.run is c.in-Some-Cell.ensures.legal) inv.packet;
    }

pub loop-preserved : goal.loop-preserved
loop-preserved g c =
    let old = g.L.LaneEnd.history c.args.lane.now in let e = g.L.LaneEnd.history c.loop.lane in let inv = c.loop.invariant in
    let is = ap seen c.in-Some-Cell.field-0-is ∙ ap (λ (v : Cell). Packet (facts v)) (sym c.deref.ensures) in
    record {
      lane_home = search rules;
      pool_home = search rules;
      run = search rules;
      packet = c.first_packet-first.ensures old.key old.buckets (comes g.N.RunName.packets old e _ _ inv.run is c.in-Some-Cell.ensures.legal) inv.packet;
    }
