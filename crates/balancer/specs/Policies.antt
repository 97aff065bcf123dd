-- Policies of rounds.
use Rattle.std.specs.Prelude.{◌≡◌, ◌≢◌, ◌≤◌, ℕ, List, [], ◌∷◌, length, All, slice_index}
use Rattle.indirection.specs.declared.proposal.Proposal.{Proposal}
use Rattle.indirection.specs.Views.{LoadsView}
use Rattle.balancer.specs.declared.policy_name.PolicyName.{PolicyName}
use Rattle.balancer.specs.declared.policy_name.PolicyName.TheVariants.{Greedy}
use Rattle.balancer.specs.declared.limits.TheConstants.{MOST_PROPOSALS}
use Rattle.balancer.specs.Greedy.{greedy_round}
use Rattle.balancer.specs.Moves.{AreMoves}
use Rattle.balancer.specs.Standing.{AreLoads}

-- what a policy states of itself: for how many cores and buckets it is, and its settings
pub record Stated : Type 0 where
  pub cores : ℕ
  pub buckets : ℕ
  pub settings : List ℕ

-- no two of them are of one bucket
abbrev pub AreApart : List Proposal → Type 0
AreApart [] = Unit {0}
AreApart (p ∷ ps) = All (λ (q : Proposal). q.bucket ≢ p.bucket) ps × AreApart ps

-- the proposals of a round among these owners: no more than the limit, each of another bucket, from its owner to another core
pub record AreProposals (cores limit : ℕ) (owners : List ℕ) (ps : List Proposal) : Type 0 where
  pub few : length ps ≤ limit
  pub moves : AreMoves cores (length owners) ps
  pub once : AreApart ps
  pub from : All (λ p. p.from ≡ slice_index owners p.bucket) ps

-- the greedy round of a policy that states this
abbrev pub proposed_greedily : Stated → LoadsView → List ℕ → ℕ → List Proposal
proposed_greedily stated loads owners limit = greedy_round stated.cores limit loads owners

-- the proposals of the policy of this name, by the cores, the limit, the loads and the owners
abbrev pub proposals_by : PolicyName → ℕ → ℕ → LoadsView → List ℕ → List Proposal
proposals_by Greedy cores limit loads owners = greedy_round cores limit loads owners

-- within the limits of a round a policy that states this proposes what the policy of the name does
abbrev pub Follows : PolicyName → Stated → (Stated → LoadsView → List ℕ → ℕ → List Proposal) → Type 0
Follows name stated proposals = (loads : LoadsView) (owners : List ℕ) (limit : ℕ) → length owners ≡ stated.buckets → AreLoads stated.cores stated.buckets loads → limit ≤ MOST_PROPOSALS
    → proposals stated loads owners limit ≡ proposals_by name stated.cores limit loads owners
