use Rattle.handover_core.proofs.Starts.{start-sound, run-sound}
use Rattle.handover_core.proofs.Steps.{keeps-sound}
use Rattle.handover_core.proofs.promises.every_state_is_sound.Goals as goal

pub returns-clause-start : goal.returns-clause-start
returns-clause-start c = start-sound

pub returns-clause-kept : goal.returns-clause-kept
returns-clause-kept c = λ m e s h. keeps-sound m e h s

pub returns-clause-runs : goal.returns-clause-runs
returns-clause-runs c = run-sound
