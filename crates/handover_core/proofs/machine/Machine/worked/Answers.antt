use Rattle.handover_core.proofs.Machines.{within-buckets}
use Rattle.handover_core.proofs.Numbers.{duties-everywhere}
use Rattle.handover_core.proofs.machine.Machine.worked.Goals as goal

pub done_among-requires : goal.done_among-requires
done_among-requires c = duties-everywhere c.self.inside c.args.bucket c.deref.result.now c.self.invariant c.deref.ensures.value (within-buckets c.self.inside c.args.self.now c.args.bucket c.self.view_is c.requires)
