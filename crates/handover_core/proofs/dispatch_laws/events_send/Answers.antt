use Rattle.handover_core.proofs.Posted.{event_sends}
use Rattle.handover_core.proofs.dispatch_laws.events_send.Goals as goal

pub returns : goal.returns
returns c = event_sends
