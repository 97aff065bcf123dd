use Rattle.std.proofs.Common.{length, sym, ◌∙◌, arith}
use Rattle.handover_core.specs.declared.event.Event.TheVariants.{Claim}
use Rattle.handover_core.specs.Machine.{enabled}
use Rattle.handover_core.proofs.Machines.{counted-buckets}
use Rattle.handover_core.proofs.Searches.{none-next, some-next}
use Rattle.handover_core.proofs.machine.Machine.claim_at.Goals as goal

pub returns-then-enabled : goal.returns-then-enabled
returns-then-enabled c =
    let n = counted-buckets c.self.inside c.args.self.now c.len-count.result c.self.view_is c.len-count.ensures in
    let t = c.loop-bucket-test.true in
    sym (some-next (enabled c.args.self.now) (Claim c.args.core) c.loop-bucket.bucket (length c.args.self.now.buckets) (omega arith) c.loop-bucket.invariant (sym c.enabled.ensures ∙ c.if-enabled.true))

pub loop-bucket-preserved : goal.loop-bucket-preserved
loop-bucket-preserved c = none-next (enabled c.args.self.now) (Claim c.args.core) c.loop-bucket.bucket c.loop-bucket.invariant (sym c.enabled.ensures ∙ c.if-enabled.false)
