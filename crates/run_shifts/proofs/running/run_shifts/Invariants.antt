use Rattle.std.proofs.Common.{◌≡◌, length}
use Rattle.worker_loop.specs.Workload.{workload}
use Rattle.run_shifts.specs.DispatcherTurns.{Leads}
use Rattle.run_shifts.specs.Parties.{party_snapshot, party_state_by, SameEnds}
use Rattle.run_shifts.specs.WorkerParties.{AreWorkerParties}
use Rattle.bucket_table.specs.Table.{TableOf}
use Rattle.run_shifts.proofs.running.run_shifts.Given as goal

abbrev pub invariant-loop : goal.invariant-loop
invariant-loop g l =
    AreWorkerParties (workload g.W.FlowWork.opening g.W.FlowWork.after g.W.FlowWork.cost_of g.N.RunName.packets) l.fn.shared l.worker_parties.items
    × (length l.worker_parties.items ≡ length l.initial.worker_parties.items)
    × Leads g.N.RunName.packets (party_snapshot {T = TableOf g.row.W-State.Denot} (party_state_by g.W.FlowWork.cost_of l.initial.dispatcher_party) (g.S.Source.left l.initial.source) (g.S.Source.faults l.initial.source)) (party_snapshot (party_state_by g.W.FlowWork.cost_of l.dispatcher_party) (g.S.Source.left l.source) (g.S.Source.faults l.source))
    × SameEnds (party_state_by g.W.FlowWork.cost_of l.initial.dispatcher_party) (party_state_by g.W.FlowWork.cost_of l.dispatcher_party)
    × (g.S.Source.origin l.source ≡ g.S.Source.origin l.initial.source)
