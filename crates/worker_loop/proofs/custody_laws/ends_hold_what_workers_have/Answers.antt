use Rattle.worker_loop.proofs.Seats.{keeps_held, keeps_logged, holds_nothing, over_held, fresh_held, keeps_core, keeps_shares}
use Rattle.worker_loop.proofs.custody_laws.ends_hold_what_workers_have.Goals as goal

pub returns-clause-held : goal.returns-clause-held
returns-clause-held g c = λ j s t turn tied owns r. keeps_held j s t turn tied owns r

pub returns-clause-logged : goal.returns-clause-logged
returns-clause-logged g c = λ j s t turn logged r. keeps_logged j s t turn logged r

pub returns-clause-nothing : goal.returns-clause-nothing
returns-clause-nothing g c = holds_nothing

pub returns-clause-over : goal.returns-clause-over
returns-clause-over g c = λ j s t owns r. over_held j s t owns r

pub returns-clause-fresh : goal.returns-clause-fresh
returns-clause-fresh g c = λ core run e none ended. (fresh_held _ core run e none, λ fine. ended)

pub returns-clause-same : goal.returns-clause-same
returns-clause-same g c = λ j s t turn r. let h = keeps_core j s t turn r in (h.0, h.1, keeps_shares j s t turn r)
