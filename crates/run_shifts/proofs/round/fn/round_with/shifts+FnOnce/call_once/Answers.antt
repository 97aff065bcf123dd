use Rattle.run_shifts.proofs.round.fn.round_with.shifts+FnOnce.call_once.Goals as goal

pub shifts-requires : goal.shifts-requires
shifts-requires g c = assumption c.requires
