use Rattle.parked_queue.proofs.Chained.{map_set}
use Rattle.parked_queue.proofs.chains.put_chains.Goals as goal

pub returns : goal.returns
returns c = map_set c.args.chains.now.items c.args.bucket c.args.cells
