use Rattle.std.proofs.Common.{rules, ◌∙◌, ◌≡◌}
use denote.Param.Send.{sendable}
use Rattle.run_shifts.proofs.Sends.{worker_send, shared_sync}
use Rattle.run_shifts.proofs.all_shifts.shifts.Goals as goal

pub at_worker_parties-requires-clause-worker_parties : goal.at_worker_parties-requires-clause-worker_parties
at_worker_parties-requires-clause-worker_parties g c κs within i p at = let h = c.requires.worker_parties i p at in (h.1, search rules)

pub returns-clause-worker_parties : goal.returns-clause-worker_parties
returns-clause-worker_parties g c core p at =
    let e = c.at_worker_parties.ensures.worker_parties core p at in let h = c.requires.worker_parties core e.0 e.1 in
    let same : p.core ≡ e.0.core = search rules in
    (same ∙ h.0, search rules)

pub at_worker_parties-requires-send-K : goal.at_worker_parties-requires-send-K
at_worker_parties-requires-send-K g c κs within = let k = worker_send _ _ g.W.FlowWork c.type_bounds.send-W c.type_bounds.send-W-State in search sendable depth 20

pub at_worker_parties-requires-sync-F : goal.at_worker_parties-requires-sync-F
at_worker_parties-requires-sync-F g c κs within =
    let f = shared_sync _ _ _ g.W.FlowWork g.W.State.Clone g.N.RunName c.type_bounds.send-W c.type_bounds.send-W-State c.type_bounds.send-N c.type_bounds.sync-N in
    let b = c.type_bounds in
    search sendable depth 20
