use Rattle.std.proofs.Common.{ap, set, map, ◌∙◌}
use Rattle.parked_queue.specs.Chained.{cells_in}
use Rattle.parked_queue.proofs.Chained.{map_set}
use Rattle.parked_queue.proofs.chains.take_chains.Goals as goal

pub returns-clause-left : goal.returns-clause-left
returns-clause-left c = map_set c.args.chains.now.items c.args.bucket c.replace.new.dest ∙ ap (λ l. set (map cells_in c.args.chains.now.items) c.args.bucket (cells_in l)) c.replace.ensures.after
