use Rattle.worker_loop.proofs.Promises.{behind_mark_or_end, all_worked, all_cost, all_taken, ended_exactly}
use Rattle.worker_loop.proofs.InLine.{line_empty}
use Rattle.worker_loop.proofs.laws.workers_keep_order.Goals as goal

pub returns-clause-released : goal.returns-clause-released
returns-clause-released g c = λ j w lane shelf meter b t tied. behind_mark_or_end j w lane shelf meter tied b t

pub returns-clause-ended : goal.returns-clause-ended
returns-clause-ended g c = ended_exactly

pub returns-clause-worked : goal.returns-clause-worked
returns-clause-worked g c = all_worked

pub returns-clause-cost : goal.returns-clause-cost
returns-clause-cost g c = all_cost

pub returns-clause-empty : goal.returns-clause-empty
returns-clause-empty g c = λ j w lane shelf meter tied. line_empty w.lot tied.line

pub returns-clause-whole : goal.returns-clause-whole
returns-clause-whole g c = all_taken
