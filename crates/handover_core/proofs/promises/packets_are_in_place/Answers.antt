use Rattle.handover_core.proofs.Enabled.{is_enabled}
use Rattle.handover_core.proofs.OneHand.{in-place}
use Rattle.handover_core.proofs.Starts.{run-sound, run-worked}
use Rattle.handover_core.proofs.promises.packets_are_in_place.Goals as goal

pub returns-clause-meets : goal.returns-clause-meets
returns-clause-meets c = λ start last events e s r h. in-place last e (run-sound start last events s r) (is_enabled last e h)

pub returns-clause-once : goal.returns-clause-once
returns-clause-once c = run-worked

pub returns-clause-sound : goal.returns-clause-sound
returns-clause-sound c = λ m e s h. in-place m e s (is_enabled m e h)
