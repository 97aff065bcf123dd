use Rattle.std.proofs.Common.{◌≡◌, ◌≤◌, ◌-◌, ◌∙◌, List, ℕ, length, drop, arith, ap, ◌++◌, rules}
use Rattle.traffic_gen.specs.Traffic.{records_from}
use Rattle.traffic_gen.specs.Upcoming.{upcoming_bytes}
use Rattle.traffic_gen.proofs.Giving.{given_more, left_less, there_more}
use Rattle.traffic_gen.proofs.upcoming.Upcoming.give.Goals as goal

pub loop-done-preserved : goal.loop-done-preserved
loop-done-preserved c =
    let u = c.refill.new.self in
    let all = upcoming_bytes c.args.self.now in
    let rest = records_from u.number u.next (u.count - u.next) in
    let done = c.loop-done.done in
    let given = c.give-given.result in
    let left : u.ahead ++ rest ≡ drop done all = c.refill.ensures.bytes ∙ c.loop-done.invariant.rest in
    let there : given ≤ length u.ahead = omega (arith, c.give-given.ensures.count) in
    record {
      within = search rules;
      there = there_more all u.ahead rest done given c.loop-done.invariant.there left there;
      count = c.refill.ensures.count ∙ c.loop-done.invariant.count;
      number = c.refill.ensures.number ∙ c.loop-done.invariant.number;
      bytes = given_more c.loop-done.into all u.ahead rest c.give-given.new.into done given c.loop-done.invariant.within c.loop-done.invariant.bytes left there (search rules) c.give-given.ensures.bytes;
      rest = ap (λ (l : List ℕ). l ++ rest) c.give-given.ensures.rest ∙ left_less all u.ahead rest done given left there;
    }
