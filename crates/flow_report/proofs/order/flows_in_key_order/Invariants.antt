use Rattle.std.proofs.Common.{◌≡◌, take, fold, []}
use Rattle.std.specs.BTreeMap.{insert_entry}
use Rattle.packet_fields.specs.KeyOrder.{derived_cmp}
use Rattle.flow_report.specs.Tables.{all_flows}
use Rattle.flow_report.proofs.order.flows_in_key_order.Given as goal

abbrev pub invariant-loop-table : goal.invariant-loop-table
invariant-loop-table g l = l.sorted.entries ≡ fold (λ sorted e. insert_entry derived_cmp sorted e.0 e.1) [] (all_flows (take l.table-index l.tables))
