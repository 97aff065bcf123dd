use Rattle.std.proofs.Common.{rules, None, refl, ◌∙◌}
use Rattle.flow_work.specs.Count.{no_packets, counted}
use Rattle.flow_work.specs.Costs.{one}
use Rattle.bucket_table.specs.Table.{TableOf}
use Rattle.core_queue.specs.declared.history.LaneHistory.{LaneHistory}
use Rattle.handover_words.specs.declared.history.ShelfHistory.{ShelfHistory}
use Rattle.load_meter.specs.declared.history.LoadHistory.{LoadHistory}
use Rattle.worker_loop.specs.Workload.{Workload, workload}
use Rattle.worker_loop.specs.WorkerState.{WorkerState}
use Rattle.worker_loop.specs.Tied.{Tied}
use Rattle.worker_loop.specs.Turned.{SameTaken}
use Rattle.worker_loop.proofs.Beside.{tied_beside}
use Rattle.worker_loop.proofs.tests.two_cells_carry_a_stint.Goals as goal

-- what is sent on its lane leaves a worker tied
tied_sent : {S : Type 0} (j : Workload S) (w : WorkerState (TableOf S)) (l l' : LaneHistory) (v : ShelfHistory) (m : LoadHistory) → Tied j w l v m → SameTaken l l' → Tied j w l' v m
tied_sent j w l l' v m tied same = tied_beside j w l l' v v m m tied same (record { held = refl; key = refl; buckets = refl }) (record { cores = refl; noted = refl })

pub turns-last-requires-clause-tied : goal.turns-last-requires-clause-tied
turns-last-requires-clause-tied g c κs =
    let w = c.expect-worker.result.state in let v = c.expect-shelf.result.history in let m = c.expect-meter.result.history in
    let tied : Tied (workload no_packets counted one None) w c.expect-lane.result.history v m = search rules in
    let first = c.send.ensures.rest (search rules) in let next = c.send-2.ensures.rest (search rules) in
    tied_sent (workload no_packets counted one None) w c.expect-lane.result.history c.send-2.new.lane.history v m tied
    (record { taken = next.2 ∙ first.2; key = next.0 ∙ first.0; buckets = next.1 ∙ first.1 })

pub turns-last-requires-2-clause-tied : goal.turns-last-requires-2-clause-tied
turns-last-requires-2-clause-tied g c κs =
    let after = c.turns-last.new in
    let next = c.send-3.ensures.rest (search rules) in let mark = c.send-4.ensures.rest (search rules) in let close = c.send_end.ensures.rest in
    tied_sent (workload no_packets counted one None) after.worker.state after.lane.history c.send_end.new.lane.history after.shelf.history after.meter.history c.turns-last.ensures.tied
    (record { taken = close.2 ∙ (mark.2 ∙ next.2); key = close.0 ∙ (mark.0 ∙ next.0); buckets = close.1 ∙ (mark.1 ∙ next.1) })
