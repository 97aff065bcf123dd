use Rattle.std.proofs.Common.{◌≡◌, ℕ, List, Option, length, ap, sym, ◌∙◌, map, arith}
use Rattle.std.specs.Prelude.{filter}
use Rattle.indirection.specs.declared.proposal.Proposal.{Proposal}
use Rattle.indirection.specs.Tries.{upto}
use Rattle.balancer.specs.Better.{better}
use Rattle.balancer.specs.Greedy.{allowed, proposal, greatest}
use Rattle.balancer.specs.Standing.{round_state_at}
use Rattle.balancer.proofs.Choices.{no_choice, best-more_cores}
use Rattle.balancer.proofs.choice.best_of.Goals as goal

pub returns-then-not-may_leave : goal.returns-then-not-may_leave
returns-then-not-may_leave c = sym (ap (λ (ds : List ℕ). greatest (map (λ d. proposal (round_state_at c.args.s.now) c.args.bucket d) ds))
    (no_choice (round_state_at c.args.s.now) c.args.bucket (sym c.may_leave.ensures ∙ c.if-not-may_leave.true) (upto (length c.args.s.now.carried.now))))

pub loop-to-preserved : goal.loop-to-preserved
loop-to-preserved c = c.better-best.ensures ∙ (ap (λ (o : Option Proposal). better c.loop-to.best o) c.offer.ensures
    ∙ best-more_cores (round_state_at c.args.s.now) c.args.bucket c.loop-to.to c.loop-to.best (sym c.may_leave.ensures ∙ c.if-not-may_leave.false) c.loop-to.invariant)

pub returns : goal.returns
returns c = let all : c.loop-to.to ≡ length c.args.s.now.carried.now = omega arith in
    c.loop-to.invariant ∙ ap (λ (n : ℕ). greatest (map (λ d. proposal (round_state_at c.args.s.now) c.args.bucket d) (filter (λ d. allowed (round_state_at c.args.s.now) c.args.bucket d) (upto n)))) all
