use Rattle.std.proofs.Common.{arith}
use Rattle.indirection.proofs.LastRounds.{ArePaired-order}
use Rattle.indirection.proofs.journal.Journal.push_order.Goals as goal

pub invariant_of-self : goal.invariant_of-self
invariant_of-self c =
    (omega arith, rw c.push_reserved.ensures.items (ArePaired-order c.self.inside.entries.items (record { order = c.args.order; outcome = c.args.outcome }) c.self.invariant.1))
