use Rattle.run_shifts.proofs.Leading.{leads, has_finished}
use Rattle.run_shifts.proofs.dispatcher_party.one_dispatch.Goals as goal

pub returns-clause-leads : goal.returns-clause-leads
returns-clause-leads g c = leads _ c.turn.result _ _ c.turn.ensures.tied c.turn.ensures.rule c.turn.ensures.shelf

pub returns-clause-finished : goal.returns-clause-finished
returns-clause-finished g c end is = has_finished _ end c.turn.result _ _ c.turn.ensures.tied is c.turn.ensures.rule
