use Rattle.std.proofs.Common.{List, sym, ap, ◌∙◌}
use Rattle.std.specs.BTreeMap.{insert_entry}
use Rattle.packet_fields.specs.declared.key.FlowKey.{FlowKey}
use Rattle.packet_fields.specs.KeyOrder.{derived_cmp}
use Rattle.flow_report.proofs.Sorted.{fold_next}
use Rattle.flow_report.proofs.order.add_flows.Goals as goal

pub loop-index-preserved : goal.loop-index-preserved
loop-index-preserved g c =
    let key = c.flow.result.0.now in
    let state = c.flow.result.1.now in
    let put : List (FlowKey × g.row.W-State.Denot) → FlowKey × g.row.W-State.Denot → List (FlowKey × g.row.W-State.Denot) = λ sorted e. insert_entry derived_cmp sorted e.0 e.1 in
    c.in-Ok.ensures.entries ∙ (ap (λ (es : List (FlowKey × g.row.W-State.Denot)). insert_entry derived_cmp es key state) c.loop-index.invariant
    ∙ sym (fold_next put c.args.sorted.now.entries c.args.table.now.flows c.loop-index.index (key, state) c.flow.ensures))
