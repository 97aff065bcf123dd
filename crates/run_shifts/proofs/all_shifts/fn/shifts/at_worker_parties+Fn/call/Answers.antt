use Rattle.run_shifts.proofs.all_shifts.fn.shifts.at_worker_parties+Fn.call.Goals as goal

pub at_worker_parties-requires : goal.at_worker_parties-requires
at_worker_parties-requires g c = assumption c.requires
