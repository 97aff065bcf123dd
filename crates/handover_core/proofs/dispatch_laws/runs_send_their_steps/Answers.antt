use Rattle.handover_core.proofs.RunTold.{run_told}
use Rattle.handover_core.proofs.dispatch_laws.runs_send_their_steps.Goals as goal

pub returns : goal.returns
returns c = run_told
