use Rattle.handover_core.proofs.OneHand.{streams-kept}
use Rattle.handover_core.proofs.Starts.{run-sound}
use Rattle.handover_core.proofs.promises.streams_keep_their_order.Goals as goal

pub returns-clause-runs : goal.returns-clause-runs
returns-clause-runs c = λ start last events s r. streams-kept last (run-sound start last events s r)

pub returns-clause-sound : goal.returns-clause-sound
returns-clause-sound c = streams-kept
