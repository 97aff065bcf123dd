use Rattle.handover_core.proofs.Done.{finished-done}
use Rattle.handover_core.proofs.Starts.{run-sound}
use Rattle.handover_core.proofs.promises.a_finished_run_worked_all.Goals as goal

pub returns-clause-runs : goal.returns-clause-runs
returns-clause-runs c = λ start last events s r f. finished-done last (run-sound start last events s r) f

pub returns-clause-sound : goal.returns-clause-sound
returns-clause-sound c = finished-done
