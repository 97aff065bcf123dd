use Rattle.flow_work.proofs.Folds.{order_is}
use Rattle.flow_work.proofs.laws.order_law.Goals as goal

pub returns : goal.returns
returns c = order_is
