use Rattle.std.proofs.Common.{◌≡◌, ◌⊎◌, ℕ, ◌-◌, ◌/◌, ◌<◌, ◌≤◌, Option, get_or, inl, inr, ⊎_elim, sym, subst}
use Rattle.std.proofs.lemmas.Bool.{cases_lt}
use Rattle.indirection.specs.declared.proposal.Proposal.{Proposal}
use Rattle.balancer.specs.Leading.{IsLeading}
use Rattle.balancer.specs.Standing.{round_state_at}
use Rattle.balancer.proofs.Leading.{IsLeading-leading, IsLeading-where}
use Rattle.balancer.proofs.nearest.best_between.Goals as goal

pub returns : goal.returns
returns c =
    let half : ℕ = c.saturating_sub-apart.result - c.saturating_sub-apart.result / 2 in
    let Above : ℕ → Type 0 = λ b. (get_or c.args.s.now.owners.now b 0 ≡ c.args.from) × (half ≤ get_or c.args.s.now.loads.now.bucket b 0) in
    let Below : ℕ → Type 0 = λ b. (get_or c.args.s.now.owners.now b 0 ≡ c.args.from) × (get_or c.args.s.now.loads.now.bucket b 0 < half) in
    IsLeading-where (round_state_at c.args.s.now) c.args.to (λ b. Above b ⊎ Below b) (λ b. get_or c.args.s.now.owners.now b 0 ≡ c.args.from) c.leading.result
    (λ b a q. ⊎_elim (λ (l : get_or c.args.s.now.loads.now.bucket b 0 < half). inr (q, l)) (λ (l : half ≤ get_or c.args.s.now.loads.now.bucket b 0). inl (q, l)) (cases_lt (get_or c.args.s.now.loads.now.bucket b 0) half))
    (subst (λ (o : Option Proposal). IsLeading (round_state_at c.args.s.now) c.args.to (λ b. Above b ⊎ Below b) o) (sym c.leading.ensures)
    (IsLeading-leading (round_state_at c.args.s.now) c.args.to Above Below c.best_above.result c.best_below.result c.best_above.ensures c.best_below.ensures))
