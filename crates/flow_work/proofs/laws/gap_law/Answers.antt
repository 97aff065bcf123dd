use Rattle.flow_work.proofs.Folds.{gap_is}
use Rattle.flow_work.proofs.laws.gap_law.Goals as goal

pub returns : goal.returns
returns c = gap_is
