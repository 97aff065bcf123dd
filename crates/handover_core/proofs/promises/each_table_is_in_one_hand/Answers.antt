use Rattle.handover_core.proofs.OneHand.{held-once}
use Rattle.handover_core.proofs.Starts.{run-sound}
use Rattle.handover_core.proofs.promises.each_table_is_in_one_hand.Goals as goal

pub returns-clause-runs : goal.returns-clause-runs
returns-clause-runs c = λ start last events s r. held-once last (run-sound start last events s r)

pub returns-clause-sound : goal.returns-clause-sound
returns-clause-sound c = held-once
