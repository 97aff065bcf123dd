use Rattle.std.proofs.Common.{length, sym, ◌∙◌, arith}
use Rattle.handover_core.specs.declared.event.Event.TheVariants.{Claim}
use Rattle.handover_core.specs.Machine.{enabled, at_core}
use Rattle.handover_core.proofs.Machines.{counted-cores}
use Rattle.handover_core.proofs.Searches.{none-more, some-here, not-some}
use Rattle.handover_core.proofs.machine.Machine.next_claim.Goals as goal

pub returns-in-Some : goal.returns-in-Some
returns-in-Some c =
    let n = counted-cores c.self.inside c.args.self.now c.len-count.result c.self.view_is c.len-count.ensures in
    let t = c.loop-core-test.true in
    sym (some-here (enabled c.args.self.now) (at_core c.args.self.now Claim) c.loop-core.core (length c.args.self.now.cores) c.in-Some.event (omega arith) c.loop-core.invariant (sym c.claim_at.ensures ∙ c.in-Some.is))

pub loop-core-preserved : goal.loop-core-preserved
loop-core-preserved c = none-more (enabled c.args.self.now) (at_core c.args.self.now Claim) c.loop-core.core c.loop-core.invariant (sym c.claim_at.ensures ∙ not-some c.claim_at.result c.in_default.not-Some)
