use Rattle.handover_core.proofs.Enabled.{is_enabled}
use Rattle.handover_core.proofs.Neighbours.{sound-neighbours, run-neighbours}
use Rattle.handover_core.proofs.Taken.{step-taken}
use Rattle.handover_core.proofs.promises.neighbouring_stints.Goals as goal

pub returns-clause-runs : goal.returns-clause-runs
returns-clause-runs c = run-neighbours

pub returns-clause-sound : goal.returns-clause-sound
returns-clause-sound c = sound-neighbours

pub returns-clause-kept : goal.returns-clause-kept
returns-clause-kept c = λ m e s h t. step-taken m e s (is_enabled m e h) t
