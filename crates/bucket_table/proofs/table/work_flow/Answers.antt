use Rattle.std.proofs.Common.{◌<◌, ℕ, sym, subst, arith}
use Rattle.indexmap.specs.Entry.{entry_value}
use Rattle.flow_work.specs.declared.work.TheConstants.{MOST_PACKETS}
use Rattle.bucket_table.proofs.SameKey.{derived_eq}
use Rattle.bucket_table.proofs.Within.{within_so_far}
use Rattle.bucket_table.proofs.table.work_flow.Goals as goal

pub step-requires : goal.step-requires
step-requires g c =
    let stands_for = g.W.FlowWork.stands_for in
    let w = within_so_far stands_for (derived_eq c.args.packet.now.key) c.requires.0 c.args.flows.now.entries (entry_value c.in-Ok.entry) c.begin.result c.requires.2 c.begin.ensures.none c.in-Ok.ensures.value in
    let few : w.0 < MOST_PACKETS = omega (arith, w.1, c.requires.1) in
    let Steps : g.row.W-State.Denot → Type 0 = λ s. (x : ℕ) × (x < MOST_PACKETS) × stands_for s x in
    subst Steps (sym c.or_insert-state.ensures.value) (w.0, few, w.2)
