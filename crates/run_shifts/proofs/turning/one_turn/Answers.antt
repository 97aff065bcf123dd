use Rattle.run_shifts.proofs.Works.{stays_at_work, same_core_and_run, is_done}
use Rattle.run_shifts.proofs.turning.one_turn.Goals as goal

pub returns-clause-work : goal.returns-clause-work
returns-clause-work g c = stays_at_work _ _ _ c.turn.result c.requires c.turn.ensures.tied c.turn.ensures.rule

pub returns-clause-ended : goal.returns-clause-ended
returns-clause-ended g c is = is_done _ _ _ c.turn.result is c.requires c.turn.ensures.tied c.turn.ensures.rule

pub returns-clause-same : goal.returns-clause-same
returns-clause-same g c = same_core_and_run _ _ _ c.turn.result c.turn.ensures.rule
