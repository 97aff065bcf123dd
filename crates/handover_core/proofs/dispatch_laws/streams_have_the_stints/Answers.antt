use Rattle.handover_core.proofs.SpanStints.{stream_spans}
use Rattle.handover_core.proofs.dispatch_laws.streams_have_the_stints.Goals as goal

pub returns : goal.returns
returns c = stream_spans
