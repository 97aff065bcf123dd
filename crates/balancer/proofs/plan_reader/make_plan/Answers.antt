use Rattle.std.proofs.Common.{refl}
use Rattle.balancer.proofs.Owners.{memory_only}
use Rattle.balancer.proofs.plan_reader.make_plan.Goals as goal

pub fault_of-requires : goal.fault_of-requires
fault_of-requires c = memory_only c.args.head.cores _ c.args.owners.now c.in-Err.fault c.in-Err.ensures.err refl c.requires.buckets.owned
