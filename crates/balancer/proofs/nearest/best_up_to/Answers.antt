use Rattle.std.proofs.Common.{◌+◌, ◌<◌, Option, get_or, sym, ◌∙◌, subst, arith}
use Rattle.indirection.specs.declared.proposal.Proposal.{Proposal}
use Rattle.balancer.specs.Leading.{IsLeading}
use Rattle.balancer.specs.Standing.{round_state_at}
use Rattle.balancer.proofs.Carried.{few_cores, carried-le, product-le}
use Rattle.balancer.proofs.Leading.{none_more, one_more, beaten}
use Rattle.balancer.proofs.nearest.best_up_to.Goals as goal

pub overflow_mul-s : goal.overflow_mul-s
overflow_mul-s c =
    let h = product-le _ _ (few_cores (round_state_at c.args.s.now) c.args.s.now.carried.now c.requires.stands) (carried-le (round_state_at c.args.s.now) c.args.s.now.carried.now c.requires.stands c.args.from c.requires.from) in
    omega (arith, h)

pub returns-then-s-carried : goal.returns-then-s-carried
returns-then-s-carried c = none_more (round_state_at c.args.s.now) c.args.s.now.carried.now c.requires.stands c.args.from c.args.total c.args.to c.args.best c.requires.total c.requires.from c.if-s-carried.true c.requires.best

pub returns-then-is_beyond : goal.returns-then-is_beyond
returns-then-is_beyond c = beaten (round_state_at c.args.s.now) c.args.s.now.carried.now c.requires.stands c.args.from c.args.to c.saturating_sub-apart.result c.args.best c.requires.from c.requires.to c.saturating_sub-apart.ensures (sym c.is_beyond.ensures ∙ c.if-is_beyond.true) c.requires.best

pub returns : goal.returns
returns c = subst (λ (o : Option Proposal). IsLeading (round_state_at c.args.s.now) c.args.to (λ b. get_or c.args.s.now.owners.now b 0 < c.args.from + 1) o) (sym c.leading.ensures)
    (one_more (round_state_at c.args.s.now) c.args.from c.args.to c.args.best c.best_between.result c.requires.best c.best_between.ensures)
