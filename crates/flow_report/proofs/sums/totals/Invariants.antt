use Rattle.std.proofs.Common.{◌≡◌, ◌≤◌, ◌*◌, length, sum_by, take}
use Rattle.flow_report.specs.Tables.{all_flows}
use Rattle.flow_report.proofs.sums.totals.Given as goal

abbrev pub invariant-loop-table : goal.invariant-loop-table
invariant-loop-table g l = record {
  flows : l.totals.flows ≡ length (all_flows (take l.table-index l.tables));
  packets : l.totals.packets ≡ sum_by (λ t. t.done) (take l.table-index l.tables);
  bytes : l.totals.bytes ≡ sum_by (λ t. t.bytes) (take l.table-index l.tables);
  few_flows : l.totals.flows ≤ l.totals.packets;
  few_bytes : l.totals.bytes ≤ l.totals.packets * 4294967295;
}
