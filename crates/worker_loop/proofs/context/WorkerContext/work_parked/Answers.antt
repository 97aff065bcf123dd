use Rattle.std.proofs.Common.{rules, ◌+◌, ◌≡◌, ◌≢◌, ◌++◌, ◌∷◌, [], suc, ℕ, List, length, refl, sym, ap, ◌∙◌, subst, arith, add-one, append_assoc}
use Rattle.packet_fields.specs.declared.packet.PacketInfo.{PacketInfo}
use Rattle.std.specs.Prelude.{IsSome, sum_by}
use Rattle.std.proofs.lemmas.List.Sums.{sum_by-cons}
use Rattle.handover_core.specs.declared.item.Kind.TheVariants.{Mark}
use Rattle.packet_pool.specs.declared.cell.Facts.{Facts}
use Rattle.packet_pool.specs.Facts.{facts}
use Rattle.packet_pool.specs.Chain.{chain}
use Rattle.parked_queue.specs.Parked.{cells_at}
use Rattle.worker_loop.specs.declared.context.WorkerContext.{WorkerContext}
use Rattle.toeplitz.specs.declared.bucket_hash.BucketHash.{BucketHash}
use Rattle.worker_loop.specs.Workload.{workload, Stands}
use Rattle.worker_loop.specs.Chains.{Goes, packets_to_mark, bytes_to_mark, infos_to_mark, has_mark, behind_mark, cells_worked, trimmed}
use Rattle.worker_loop.specs.Counts.{more}
use Rattle.worker_loop.specs.Views.{context_run}
use Rattle.worker_loop.proofs.Cells.{front, whole, marked, packeted}
use Rattle.worker_loop.proofs.Grown.{grew_none, grew_more, grew_all}
use Rattle.worker_loop.proofs.context.WorkerContext.work_parked.Goals as goal

pub returns-in-Mark-clause-lot : goal.returns-in-Mark-clause-lot
returns-in-Mark-clause-lot g c =
    let b : ℕ = c.args.bucket in let l0 = c.args.self.now.lot in let f = facts c.in-Some.cell.value in let told : c.facts-is.result ≡ f = c.facts-is.ensures ∙ ap facts c.deref.ensures in let inv = c.loop-cell.invariant in let after = c.take_front.new.self in
    let is : f.kind ≡ Mark = ap (λ (x : Facts). x.kind) (sym told) ∙ c.in-Mark.is in
    let fr = front b l0 c.loop-cell.self.lot after f c.requires.range inv.lot c.in-Some.ensures.given.0 c.in-Some.ensures.left in
    let mk = marked f (cells_at b after) is in
    ap (λ (d : WorkerContext). d.lot) c.keep.ensures.rest ∙ (fr.rest ∙ ap (λ cs. trimmed b cs l0) (sym mk.behind ∙ (sym (ap behind_mark fr.split) ∙ inv.behind)))

pub returns-in-Mark-clause-grew : goal.returns-in-Mark-clause-grew
returns-in-Mark-clause-grew g c =
    let b : ℕ = c.args.bucket in let l0 = c.args.self.now.lot in let f = facts c.in-Some.cell.value in let told : c.facts-is.result ≡ f = c.facts-is.ensures ∙ ap facts c.deref.ensures in let inv = c.loop-cell.invariant in let after = c.take_front.new.self in
    let is : f.kind ≡ Mark = ap (λ (x : Facts). x.kind) (sym told) ∙ c.in-Mark.is in
    let fr = front b l0 c.loop-cell.self.lot after f c.requires.range inv.lot c.in-Some.ensures.given.0 c.in-Some.ensures.left in
    let mk = marked f (cells_at b after) is in
    grew_all (workload g.W.FlowWork.opening g.W.FlowWork.after g.W.FlowWork.cost_of g.N.RunName.packets) c.args.table.now c.loop-cell.table inv.grew.0 (infos_to_mark (cells_at b c.loop-cell.self.lot)) (infos_to_mark (cells_at b l0)) inv.grew.1 (ap infos_to_mark fr.split ∙ mk.infos) inv.grew.2

pub loop-cell-preserved : goal.loop-cell-preserved
loop-cell-preserved g c =
    let x = g.N.RunName.packets in let r = context_run c.loop-cell.self in
    let b : ℕ = c.args.bucket in let l0 = c.args.self.now.lot in let f = facts c.in-Some.cell.value in let told : c.facts-is.result ≡ f = c.facts-is.ensures ∙ ap facts c.deref.ensures in let inv = c.loop-cell.invariant in let after = c.take_front.new.self in
    let not : f.kind ≢ Mark = λ e. c.in_default-kind.not-Mark (ap (λ (y : Facts). y.kind) told ∙ e) in
    let fr = front b l0 c.loop-cell.self.lot after f c.requires.range inv.lot c.in-Some.ensures.given.0 c.in-Some.ensures.left in
    let d : ℕ = c.loop-cell.table.done in let e = inv.goes.0 in
    let pk = packeted x r b d f (cells_at b after) e not (subst (λ cs. Goes x r b d cs e) fr.split inv.goes.1) in
    let more_done : c.work.new.table.done ≡ suc d = c.work.ensures.done ∙ add-one d in
    let count : packets_to_mark (cells_at b c.loop-cell.self.lot) ≡ suc (packets_to_mark (cells_at b after)) = ap packets_to_mark fr.split ∙ pk.packets in
    let kept = c.keep.ensures.rest in let worked = c.work.ensures.worked in
    let lot : c.work.new.self.lot ≡ after = ap (λ (d : WorkerContext). d.lot) worked ∙ ap (λ (d : WorkerContext). d.lot) kept in
    let cells : cells_at b c.work.new.self.lot ≡ cells_at b after = ap (cells_at b) lot in
    let run : context_run c.work.new.self ≡ r = ap context_run worked ∙ ap context_run kept in
    let total = inv.done in let w = inv.worked in
    let one : c.work.new.self.worked ≡ more c.loop-cell.self.worked 1 = ap (λ (d : WorkerContext). d.worked) worked ∙ ap (λ (d : WorkerContext). more d.worked 1) kept in
    let weight : bytes_to_mark (cells_at b c.loop-cell.self.lot) ≡ f.info.original + bytes_to_mark (cells_at b after) = ap bytes_to_mark fr.split ∙ pk.bytes in
    let heavier : c.work.new.table.bytes ≡ c.loop-cell.table.bytes + f.info.original = c.work.ensures.bytes ∙ ap (λ (y : Facts). c.loop-cell.table.bytes + y.info.original) told in
    let sum = inv.bytes in let weigh = ap bytes_to_mark cells in
    let packets = ap packets_to_mark cells in let cells_done = ap cells_worked cells in
    let cost_of = g.W.FlowWork.cost_of in let was_cost = inv.cost in
    let dearer : c.work.new.self.cost ≡ more c.loop-cell.self.cost (cost_of f.info) = ap (λ (d : WorkerContext). d.cost) worked ∙ ap (λ (y : ℕ × Facts). more y.0 (cost_of y.1.info)) (λ i. ((kept i).cost, told i)) in
    let cost_left : sum_by cost_of (infos_to_mark (cells_at b c.loop-cell.self.lot)) ≡ cost_of f.info + sum_by cost_of (infos_to_mark (cells_at b after)) = ap (λ cs. sum_by cost_of (infos_to_mark cs)) fr.split ∙ (ap (sum_by cost_of) pk.infos ∙ sum_by-cons cost_of f.info (infos_to_mark (cells_at b after))) in
    let cost_then = ap (λ cs. sum_by cost_of (infos_to_mark cs)) cells in
    let bucket : c.facts-is.result.bucket ≡ b = ap (λ (y : Facts). y.bucket) told ∙ pk.bucket in
    let j = workload g.W.FlowWork.opening g.W.FlowWork.after g.W.FlowWork.cost_of x in
    record {
      lot = lot ∙ (fr.rest ∙ ap (λ cs. trimmed b cs l0) (sym cells));
      done = omega arith;
      bytes = omega arith;
      grew = let old = inv.grew in (
        old.0 ++ c.facts-is.result.info ∷ [],
        grew_more j c.args.table.now c.loop-cell.table c.work.new.table old.0 c.facts-is.result.info c.work.ensures.stays_short old.1 c.work.ensures.grew,
        append_assoc old.0 (c.facts-is.result.info ∷ []) (infos_to_mark (cells_at b c.work.new.self.lot)) ∙ (ap (λ (z : List PacketInfo). old.0 ++ z) (ap (λ (y : Facts). y.info ∷ infos_to_mark (cells_at b c.work.new.self.lot)) told ∙ (ap (λ (cs : List Facts). f.info ∷ infos_to_mark cs) cells ∙ (sym pk.infos ∙ sym (ap infos_to_mark fr.split)))) ∙ old.2),
      );
      stays_short = λ h. c.work.ensures.stays_short (inv.stays_short h);
      marked = ap has_mark cells ∙ (sym pk.mark ∙ (sym (ap has_mark fr.split) ∙ inv.marked));
      behind = ap behind_mark cells ∙ (sym pk.behind ∙ (sym (ap behind_mark fr.split) ∙ inv.behind));
      goes = (e, subst (λ (y : BucketHash × ℕ × List Facts). Goes x y.0 b y.1 y.2 e) (λ i. (sym run i, sym more_done i, sym cells i)) pk.goes);
      stands = subst (λ (y : BucketHash × ℕ). Stands j y.0 y.1 c.work.new.table) (λ i. (sym (ap context_run worked) i, bucket i)) c.work.ensures.stands;
      is_open = subst IsSome (sym c.work.ensures.custody) inv.is_open;
      custody = c.work.ensures.custody ∙ inv.custody;
      worked = omega arith;
      kept = let k = ap length c.keep.ensures.kept in let s = ap (λ (d : WorkerContext). length (chain d.kept)) worked in let n : cells_worked (cells_at b c.loop-cell.self.lot) ≡ suc (cells_worked (cells_at b after)) = ap cells_worked fr.split ∙ pk.cells in let i = inv.kept in omega arith;
      cost = omega arith;
      fits = omega arith;
      fits_cost = omega arith;
      range = inv.range;
      same = record { core = ap (λ (d : WorkerContext). d.core) worked ∙ (ap (λ (d : WorkerContext). d.core) kept ∙ inv.same.core); key = ap (λ (d : WorkerContext). d.key) worked ∙ (ap (λ (d : WorkerContext). d.key) kept ∙ inv.same.key); buckets = ap (λ (d : WorkerContext). d.buckets) worked ∙ (ap (λ (d : WorkerContext). d.buckets) kept ∙ inv.same.buckets) };
    }

pub loop-cell-init : goal.loop-cell-init
loop-cell-init g c = record {
  lot = whole c.args.bucket c.args.self.now.lot c.requires.some;
  done = refl;
  bytes = refl;
  grew = ([], grew_none (workload g.W.FlowWork.opening g.W.FlowWork.after g.W.FlowWork.cost_of g.N.RunName.packets) c.args.table.now, refl);
  stays_short = λ h. h;
  marked = refl;
  behind = refl;
  goes = c.requires.goes;
  stands = c.requires.stands;
  is_open = c.requires.open;
  custody = refl;
  worked = refl;
  kept = refl;
  cost = refl;
  fits = search rules;
  fits_cost = search rules;
  range = c.requires.range;
  same = record { core = refl; key = refl; buckets = refl };
}
