use Rattle.std.proofs.Common.{arith, ap, length}
use Rattle.std.proofs.lemmas.List.{length-drop}
use Rattle.traffic_gen.specs.Traffic.{traffic}
use Rattle.traffic_gen.proofs.Giving.{length-traffic}
use Rattle.traffic_gen.proofs.source.TrafficSource.give.Goals as goal

pub overflow_add-self : goal.overflow_add-self
overflow_add-self c =
    let s = c.self.inside in
    let all = traffic s.upcoming.count s.upcoming.number in
    omega (arith, length-traffic s.upcoming.count s.upcoming.number, c.self.invariant.few, c.self.invariant.within, ap length c.self.invariant.bytes, length-drop s.given all, c.give-count.ensures.given)
