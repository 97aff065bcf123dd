use Rattle.handover_core.proofs.Duties.{parks-met}
use Rattle.handover_core.proofs.duty.Duty.met.Goals as goal

pub returns-in-Parks-Next : goal.returns-in-Parks-Next
returns-in-Parks-Next c = parks-met c.args.self c.args.kind c.in-Parks-Next.first c.in-Parks-Next.count c.args.place c.in-Parks-Next.is-0 c.in-Parks-Next.is-1 c.requires
