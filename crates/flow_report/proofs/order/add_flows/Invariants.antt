use Rattle.std.proofs.Common.{◌≡◌, take, fold}
use Rattle.std.specs.BTreeMap.{insert_entry}
use Rattle.packet_fields.specs.KeyOrder.{derived_cmp}
use Rattle.flow_report.proofs.order.add_flows.Given as goal

abbrev pub invariant-loop-index : goal.invariant-loop-index
invariant-loop-index g l = l.sorted.entries ≡ fold (λ sorted e. insert_entry derived_cmp sorted e.0 e.1) l.fn.sorted.entries (take l.index l.table.flows)
