use Rattle.std.proofs.Common.{ap, sym, subst, List, ℕ, ◌<◌, get_or, ◌∙◌, not, Bool, arith}
use Rattle.balancer.specs.Standing.{round_state_at}
use Rattle.balancer.proofs.Carried.{few_cores, carried-le, product-le}
use Rattle.balancer.proofs.Choices.{owner_at, not_above, leaves_where, any_of}
use Rattle.balancer.proofs.choice.may_leave.Goals as goal

pub overflow_mul-s : goal.overflow_mul-s
overflow_mul-s c =
    let h = product-le _ _ (few_cores (round_state_at c.args.s.now) c.args.s.now.carried.now c.requires.stands)
    (carried-le (round_state_at c.args.s.now) c.args.s.now.carried.now c.requires.stands _ (owner_at (round_state_at c.args.s.now) c.args.s.now.carried.now c.requires.stands c.args.bucket c.requires.bucket)) in
    omega (arith, h)

pub returns-then-s-owner : goal.returns-then-s-owner
returns-then-s-owner c = sym (not_above (round_state_at c.args.s.now) c.args.s.now.carried.now c.requires.stands c.args.bucket c.args.total c.requires.total c.requires.bucket c.if-s-owner.true)

pub returns : goal.returns
returns c = ap (λ (t : Bool). not t) (c.is_proposed.ensures ∙ any_of c.args.bucket c.args.s.now.proposals.now)
    ∙ sym (leaves_where (round_state_at c.args.s.now) c.args.s.now.carried.now c.requires.stands c.args.bucket c.args.total c.requires.total c.requires.bucket c.if-s-owner.false
    (subst (λ (z : List ℕ). 0 < get_or z c.args.bucket 0) c.bucket.ensures (let h = c.if-bucket-eq0.false in omega arith)))
