use Rattle.std.proofs.Common.{◌≡◌, List, length, sum_by, take, arith, ap, ◌∙◌}
use Rattle.std.proofs.lemmas.List.{take_all}
use Rattle.bucket_table.specs.Table.{TableOf}
use Rattle.flow_report.specs.Tables.{all_flows, totals_of}
use Rattle.flow_report.proofs.Together.{totals_are}
use Rattle.flow_report.proofs.sums.totals.Goals as goal

pub returns-clause-packets : goal.returns-clause-packets
returns-clause-packets g c = λ packets bucket_of together.
    let S = g.row.W-State.Denot in
    let tables = c.args.tables.now in
    let so_far = c.loop-table.invariant in
    let whole : take c.loop-table.table-index tables ≡ tables = take_all c.loop-table.table-index tables (omega arith) in
    let flows = so_far.flows ∙ ap (λ (ts : List (TableOf S)). length (all_flows ts)) whole in
    let done = so_far.packets ∙ ap (λ (ts : List (TableOf S)). sum_by (λ t. t.done) ts) whole in
    let bytes = so_far.bytes ∙ ap (λ (ts : List (TableOf S)). sum_by (λ t. t.bytes) ts) whole in
    let summed : c.loop-table.totals ≡ totals_of tables = λ i. record { flows = flows i; packets = done i; bytes = bytes i } in
    summed ∙ totals_are g.W.FlowWork.opening g.W.FlowWork.after bucket_of packets tables together
