use Rattle.std.proofs.Common.{◌≡◌, List, [], fold, take, ap, ◌∙◌, arith}
use Rattle.std.specs.declared.cmp.Ordering.{Ordering}
use Rattle.std.specs.BTreeMap.{insert_entry}
use Rattle.std.proofs.lemmas.List.{take_all}
use Rattle.packet_fields.specs.declared.key.FlowKey.{FlowKey}
use Rattle.packet_fields.specs.KeyOrder.{derived_cmp}
use Rattle.bucket_table.specs.Table.{TableOf}
use Rattle.flow_report.specs.Tables.{all_flows}
use Rattle.flow_report.proofs.Sorted.{order_is}
use Rattle.flow_report.proofs.order.flows_in_key_order.Goals as goal

pub returns : goal.returns
returns g c =
    let S = g.row.W-State.Denot in
    let tables = c.args.tables.now in
    let whole : take c.loop-table.table-index tables ≡ tables = take_all c.loop-table.table-index tables (omega arith) in
    c.loop-table.invariant
    ∙ (ap (λ (ts : List (TableOf S)). fold (λ (sorted : List (FlowKey × S)) (e : FlowKey × S). insert_entry derived_cmp sorted e.0 e.1) [] (all_flows ts)) whole
    ∙ ap (λ (R : FlowKey → FlowKey → Ordering). fold (λ (sorted : List (FlowKey × S)) (e : FlowKey × S). insert_entry R sorted e.0 e.1) [] (all_flows tables)) order_is)
