use Rattle.std.proofs.Common.{sym, ◌-◌, ◌≡◌, [], inl, inr, arith, refl}
use Rattle.std.proofs.lemmas.List.{nil_from_length}
use Rattle.traffic_gen.proofs.Giving.{records_from-more, records_from-none, record_of-some}
use Rattle.traffic_gen.proofs.upcoming.Upcoming.refill.Goals as goal
use Rattle.traffic_gen.proofs.upcoming.Upcoming.refill.Goals.{else-left-eq0-via-then-left-eq0+else-self, else-left-eq0-via-else-left-eq0}

pub returns-then-self-clause-bytes : goal.returns-then-self-clause-bytes
returns-then-self-clause-bytes c =
    let u = c.args.self.now in
    let none : u.ahead ≡ [] = nil_from_length u.ahead (omega (arith, c.left.ensures)) in
    rw (c.set_record.ensures, none) (sym (records_from-more u.number u.next u.count c.if-self.true))

pub returns-then-self-clause-some : goal.returns-then-self-clause-some
returns-then-self-clause-some c =
    inl (rw c.set_record.ensures (record_of-some c.args.self.now.number c.args.self.now.next))

pub returns-else-left-eq0-clause-some : goal.returns-else-left-eq0-clause-some
returns-else-left-eq0-clause-some c =
    let u = c.args.self.now in
    elim c.else-left-eq0.branch [
      | else-left-eq0-via-then-left-eq0+else-self w ↦
          let none : u.ahead ≡ [] = nil_from_length u.ahead (omega (arith, c.left.ensures)) in
          let last = records_from-none u.number u.next (u.count - u.next) (omega arith) in
          inr (rw (none, last) refl)
      | else-left-eq0-via-else-left-eq0 w ↦ inl (omega (arith, c.left.ensures))
    ]
