use Rattle.dispatch_loop.proofs.Bearing.{bears}
use Rattle.dispatch_loop.proofs.laws.dispatchers_bear_the_workers.Goals as goal

pub returns : goal.returns
returns c = bears
