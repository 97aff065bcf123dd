use Rattle.std.proofs.Common.{not, ap, ◌∙◌}
use Rattle.parked_queue.proofs.Chained.{also_waits-some}
use Rattle.parked_queue.proofs.line.join_line.Goals as goal

pub returns-else-is_none-clause-items : goal.returns-else-is_none-clause-items
returns-else-is_none-clause-items c = also_waits-some _ _ _ (c.is_none.ensures ∙ ap not c.if-is_none.false)
