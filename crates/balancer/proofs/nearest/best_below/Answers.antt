use Rattle.std.proofs.Common.{arith, subst}
use Rattle.balancer.specs.Ranking.{IsFirstFree, IsLastFree}
use Rattle.balancer.specs.Standing.{round_state_at}
use Rattle.balancer.proofs.Carried.{carried_at}
use Rattle.balancer.proofs.Leading.{below_leads}
use Rattle.balancer.proofs.nearest.best_below.Goals as goal

pub returns : goal.returns
returns c = below_leads (round_state_at c.args.s.now) c.args.from c.args.to c.args.half c.in_ok-load.load c.in_ok-bucket.bucket c.choice.result
    (let f = carried_at (round_state_at c.args.s.now) c.args.s.now.carried.now c.requires.stands c.args.from c.requires.from in let t = carried_at (round_state_at c.args.s.now) c.args.s.now.carried.now c.requires.stands c.args.to c.requires.to in omega (arith, f, t, c.requires.half))
    (subst (IsLastFree (round_state_at c.args.s.now) c.args.from c.args.half) c.in_ok-load.was c.last_free.ensures)
    (subst (IsFirstFree (round_state_at c.args.s.now) c.args.from c.in_ok-load.load) c.in_ok-bucket.was c.first_free.ensures) c.choice.ensures
