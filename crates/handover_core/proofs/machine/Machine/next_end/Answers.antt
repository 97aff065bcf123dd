use Rattle.std.proofs.Common.{length, sym, ◌∙◌, arith}
use Rattle.handover_core.specs.declared.event.Event.TheVariants.{SendEnd}
use Rattle.handover_core.specs.Machine.{enabled}
use Rattle.handover_core.proofs.Machines.{counted-cores}
use Rattle.handover_core.proofs.Searches.{none-next, some-next}
use Rattle.handover_core.proofs.machine.Machine.next_end.Goals as goal

pub returns-then-enabled : goal.returns-then-enabled
returns-then-enabled c =
    let n = counted-cores c.self.inside c.args.self.now c.len-count.result c.self.view_is c.len-count.ensures in
    let t = c.loop-core-test.true in
    sym (some-next (enabled c.args.self.now) SendEnd c.loop-core.core (length c.args.self.now.cores) (omega arith) c.loop-core.invariant (sym c.enabled.ensures ∙ c.if-enabled.true))

pub loop-core-preserved : goal.loop-core-preserved
loop-core-preserved c = none-next (enabled c.args.self.now) SendEnd c.loop-core.core c.loop-core.invariant (sym c.enabled.ensures ∙ c.if-enabled.false)
