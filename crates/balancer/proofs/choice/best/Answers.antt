use Rattle.std.proofs.Common.{◌≡◌, ℕ, Option, length, ap, ◌∙◌, arith}
use Rattle.std.specs.Prelude.{flat_map}
use Rattle.indirection.specs.declared.proposal.Proposal.{Proposal}
use Rattle.indirection.specs.Tries.{upto}
use Rattle.balancer.specs.Better.{better}
use Rattle.balancer.specs.Greedy.{choices_of, greatest}
use Rattle.balancer.specs.Standing.{round_state_at}
use Rattle.balancer.proofs.Carried.{total-le}
use Rattle.balancer.proofs.Choices.{best-more_buckets}
use Rattle.balancer.proofs.choice.best.Goals as goal

pub total-total-requires : goal.total-total-requires
total-total-requires c = let h = total-le (round_state_at c.args.s.now) c.args.s.now.carried.now c.requires in omega (arith, h)

pub loop-bucket-preserved : goal.loop-bucket-preserved
loop-bucket-preserved c = c.better-best.ensures ∙ (ap (λ (o : Option Proposal). better c.loop-bucket.best o) c.best_of.ensures
    ∙ best-more_buckets (round_state_at c.args.s.now) c.loop-bucket.bucket c.loop-bucket.best c.loop-bucket.invariant)

pub returns : goal.returns
returns c = let all : c.loop-bucket.bucket ≡ length c.args.s.now.owners.now = omega arith in
    c.loop-bucket.invariant ∙ ap (λ (n : ℕ). greatest (flat_map (choices_of (round_state_at c.args.s.now)) (upto n))) all
