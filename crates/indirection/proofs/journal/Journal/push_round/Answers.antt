use Rattle.std.proofs.Common.{◌≤◌, length, arith}
use Rattle.indirection.proofs.LastRounds.{ArePaired-round}
use Rattle.indirection.proofs.journal.Journal.push_round.Goals as goal

pub invariant_of-self-2 : goal.invariant_of-self-2
invariant_of-self-2 c =
    let fits : length c.in_ok-round.round.outcomes ≤ length c.in_ok-round.round.proposals = rw c.in_ok-round.ensures (omega arith) in
    (omega (arith, c.in-Ok.ensures.ok), rw (c.push_reserved.ensures.items, c.in-Ok.ensures.items) (ArePaired-round c.self.inside.entries.items c.in_ok-round.round c.self.invariant.1 fits))
