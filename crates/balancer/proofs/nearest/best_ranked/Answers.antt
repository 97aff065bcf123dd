use Rattle.std.proofs.Common.{◌<◌, ◌≤◌, length, get_or, arith}
use Rattle.balancer.specs.Standing.{round_state_at}
use Rattle.balancer.proofs.Carried.{total-le}
use Rattle.balancer.proofs.Leading.{IsLeading-where, least_leads}
use Rattle.balancer.proofs.nearest.best_ranked.Goals as goal

pub total-total-requires : goal.total-total-requires
total-total-requires c = let h = total-le (round_state_at c.args.s.now) c.args.s.now.carried.now c.requires.stands in omega (arith, h)

pub returns : goal.returns
returns c =
    let all : length c.args.s.now.carried.now ≤ c.loop-from.from = omega arith in
    least_leads (round_state_at c.args.s.now) c.args.s.now.carried.now c.requires.stands c.least_core-to.result c.least_core-to.ensures c.loop-from.best
    (IsLeading-where (round_state_at c.args.s.now) c.least_core-to.result (λ b. get_or c.args.s.now.owners.now b 0 < c.loop-from.from) (λ b. get_or c.args.s.now.owners.now b 0 < length c.args.s.now.carried.now) c.loop-from.best (λ b a h. omega (arith, h, all)) c.loop-from.invariant)
