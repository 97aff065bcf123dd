use Rattle.handover_core.proofs.Finished.{next-enabled, finished-stops, stuck-finished}
use Rattle.handover_core.proofs.Finishing.{can-finish}
use Rattle.handover_core.proofs.Progress.{worker-goes}
use Rattle.handover_core.proofs.Starts.{run-sound}
use Rattle.handover_core.proofs.promises.no_state_is_stuck.Goals as goal

pub returns-clause-finished : goal.returns-clause-finished
returns-clause-finished c = λ start last events s r. (λ e. stuck-finished last (run-sound start last events s r) e, λ f. finished-stops last f)

pub returns-clause-next : goal.returns-clause-next
returns-clause-next c = next-enabled

pub returns-clause-workers : goal.returns-clause-workers
returns-clause-workers c = λ start last events s r ne. worker-goes last (run-sound start last events s r) ne

pub returns-clause-ends : goal.returns-clause-ends
returns-clause-ends c = λ start last events s r. can-finish last (run-sound start last events s r)

pub returns-clause-sound : goal.returns-clause-sound
returns-clause-sound c = λ m s. ((λ e. stuck-finished m s e, λ f. finished-stops m f), λ ne. worker-goes m s ne, can-finish m s)
