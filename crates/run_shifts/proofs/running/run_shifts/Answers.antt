use Rattle.std.proofs.Common.{refl}
use Rattle.run_shifts.proofs.Leading.{leads_none}
use Rattle.run_shifts.proofs.running.run_shifts.Goals as goal

pub loop-init : goal.loop-init
loop-init g c = (c.requires.worker_parties, refl, leads_none _ _, record { lanes = refl; shelf = refl; pool = refl; meter = refl }, refl)
