use Rattle.std.proofs.Common.{◌≡◌, ap, subst, List, ℕ, ◌<◌, ◌≤◌, ◌-◌, ◌*◌, get_or, ◌∙◌, true, false, arith}
use Rattle.std.proofs.lemmas.Bool.{le-ltb}
use Rattle.indirection.specs.declared.proposal.Proposal.{Proposal}
use Rattle.balancer.specs.Greedy.{may_take}
use Rattle.balancer.specs.Standing.{round_state_at}
use Rattle.balancer.proofs.Carried.{few_cores, carried-le, product-le}
use Rattle.balancer.proofs.Choices.{less_is, takes, takes_none, apart_is, no_offer, offered}
use Rattle.balancer.proofs.choice.offer.Goals as goal

pub overflow_mul-s : goal.overflow_mul-s
overflow_mul-s c =
    let h = product-le _ _ (few_cores (round_state_at c.args.s.now) c.args.s.now.carried.now c.requires.stands)
    (carried-le (round_state_at c.args.s.now) c.args.s.now.carried.now c.requires.stands c.args.to c.requires.to) in
    omega (arith, h)

pub returns-then-total-s : goal.returns-then-total-s
returns-then-total-s c = no_offer (round_state_at c.args.s.now) c.args.bucket c.args.to (takes_none (round_state_at c.args.s.now) c.args.s.now.carried.now c.requires.stands c.args.bucket c.args.to c.args.total c.requires.total c.requires.to c.if-total-s.true)

pub returns-then-apart-load : goal.returns-then-apart-load
returns-then-apart-load c =
    let apart = c.saturating_sub-apart.ensures ∙ apart_is (round_state_at c.args.s.now) c.args.s.now.carried.now c.requires.stands c.args.bucket c.args.to c.requires.bucket c.requires.to in
    let load : get_or c.bucket.result.now c.args.bucket 0 ≡ get_or c.args.s.now.loads.now.bucket c.args.bucket 0 = ap (λ (z : List ℕ). get_or z c.args.bucket 0) c.bucket.ensures in
    let test : may_take (round_state_at c.args.s.now) c.args.bucket c.args.to ≡ false =
    takes (round_state_at c.args.s.now) c.args.s.now.carried.now c.requires.stands c.args.bucket c.args.to c.args.total c.requires.total c.requires.to c.if-total-s.false
    ∙ le-ltb _ _ (subst (λ (x : ℕ). x ≤ get_or c.args.s.now.loads.now.bucket c.args.bucket 0) apart (subst (λ (x : ℕ). c.saturating_sub-apart.result ≤ x) load c.if-apart-load.true)) in
    no_offer (round_state_at c.args.s.now) c.args.bucket c.args.to test

pub returns : goal.returns
returns c =
    let apart = c.saturating_sub-apart.ensures ∙ apart_is (round_state_at c.args.s.now) c.args.s.now.carried.now c.requires.stands c.args.bucket c.args.to c.requires.bucket c.requires.to in
    let load : get_or c.bucket.result.now c.args.bucket 0 ≡ get_or c.args.s.now.loads.now.bucket c.args.bucket 0 = ap (λ (z : List ℕ). get_or z c.args.bucket 0) c.bucket.ensures in
    let test : may_take (round_state_at c.args.s.now) c.args.bucket c.args.to ≡ true =
    takes (round_state_at c.args.s.now) c.args.s.now.carried.now c.requires.stands c.args.bucket c.args.to c.args.total c.requires.total c.requires.to c.if-total-s.false
    ∙ less_is _ _ (subst (λ (x : ℕ). get_or c.args.s.now.loads.now.bucket c.args.bucket 0 < x) apart (subst (λ (x : ℕ). x < c.saturating_sub-apart.result) load c.if-apart-load.false)) in
    offered (round_state_at c.args.s.now) c.args.bucket c.args.to _ test
    (ap (λ (n : ℕ). let p : Proposal = record { bucket = c.args.bucket; from = get_or c.args.s.now.owners.now c.args.bucket 0; to = c.args.to; gain = n } in p)
    (ap (λ (x : ℕ). x * c.from-2.result) (c.from.ensures ∙ load) ∙ ap (λ (x : ℕ). get_or c.args.s.now.loads.now.bucket c.args.bucket 0 * x)
    (c.from-2.ensures ∙ (ap (λ (x : ℕ). c.saturating_sub-apart.result - x) load ∙ ap (λ (x : ℕ). x - get_or c.args.s.now.loads.now.bucket c.args.bucket 0) apart))))
