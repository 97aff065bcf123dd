use Rattle.std.proofs.Common.{sym, subst}
use Rattle.rsspp_main.specs.Run.{ends}
use Rattle.rsspp_main.proofs.Planned.{plan_failed}
use Rattle.rsspp_main.proofs.modes.plan.Goals as goal

pub returns-in-Ok-clause-outcome : goal.returns-in-Ok-clause-outcome
returns-in-Ok-clause-outcome g c = let d = c.in-Ok.ensures.done in (d.0, d.1, d.3, d.2, record { reads = c.in-Ok.ensures.reads; writes = c.in-Ok.ensures.writes })

pub returns-in-Err-clause-outcome : goal.returns-in-Err-clause-outcome
returns-in-Err-clause-outcome g c =
    let left = g.S.Source.left in
    let faults = g.S.Source.faults in
    let writes = g.K.Sink.faults in
    let holds = g.K.Sink.may_hold in
    let e = c.in-Err.ensures in
    rw c.fault_of_plan.ensures (plan_failed
    (ends (left c.args.source.now) (faults c.args.source.now) (writes c.args.out.now) (holds c.args.out.now))
    (ends (left c.plan_text.new.source) (faults c.plan_text.new.source) (writes c.plan_text.new.out) (holds c.plan_text.new.out))
    c.in-Err.fault e.refused (λ other bytes h. subst (λ o. holds o bytes) (sym (e.silent other)) h) e.front e.reads e.writes)
