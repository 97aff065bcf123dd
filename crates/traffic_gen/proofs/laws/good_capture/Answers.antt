use Rattle.traffic_gen.proofs.Captures.{traffic_capture}
use Rattle.traffic_gen.proofs.laws.good_capture.Goals as goal

pub returns : goal.returns
returns c = traffic_capture
