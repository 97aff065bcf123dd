use Rattle.handover_core.proofs.Bound.{falls}
use Rattle.handover_core.proofs.Enabled.{is_enabled}
use Rattle.handover_core.proofs.Starts.{start-sound, run-sound, start-steps, run-steps}
use Rattle.handover_core.proofs.promises.steps_are_bounded.Goals as goal

pub returns-clause-first : goal.returns-clause-first
returns-clause-first c = start-steps

pub returns-clause-falls : goal.returns-clause-falls
returns-clause-falls c = λ start last events e s r h. falls last e (run-sound start last events s r) (is_enabled last e h)

pub returns-clause-runs : goal.returns-clause-runs
returns-clause-runs c = λ start last events s r. run-steps start events last (start-sound start s) r

pub returns-clause-sound : goal.returns-clause-sound
returns-clause-sound c = λ m e s h. falls m e s (is_enabled m e h)
