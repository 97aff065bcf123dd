-- What a dispatcher in memory is made for.
use Rattle.std.specs.Prelude.{◌≡◌, ◌≤◌, ℕ, List, length, vec_capacity}
use Rattle.indirection.specs.declared.proposal.Proposal.{Proposal}
use Rattle.indirection.specs.Views.{LoadsView}
use Rattle.balancer.specs.Policies.{Stated, Follows}
use Rattle.dispatch_loop.specs.declared.limits.TheConstants.{MOST_LIMIT}
use Rattle.dispatch_loop.specs.declared.state.State.{State}
use Rattle.dispatch_loop.specs.OptionsView.{OptionsView}

-- the policy is for the cores and buckets of these options, and proposes what that of their name does
pub record IsPolicyOf (o : OptionsView) (stated : Stated) (proposals : Stated → LoadsView → List ℕ → ℕ → List Proposal) : Type 0 where
  pub cores : stated.cores ≡ o.cores
  pub buckets : stated.buckets ≡ length o.start.owners
  pub follows : Follows o.policy stated proposals

-- the table, the loads and the policy are for the cores and buckets of the run, the policy proposes what that of its name does, and there is room for all proposals of a round
pub record IsFit {B : Type 0} (stated : B → Stated) (proposals : Stated → LoadsView → List ℕ → ℕ → List Proposal) (s : State B) : Type 0 where
  pub cores : s.routing.table.cores ≡ s.journal.start.cores
  pub bases : length s.rounds.loads.base ≡ s.journal.start.cores
  pub policy_cores : (stated s.rounds.policy).cores ≡ s.journal.start.cores
  pub policy_buckets : (stated s.rounds.policy).buckets ≡ length s.journal.start.owners
  pub follows : Follows s.rounds.name (stated s.rounds.policy) proposals
  pub few : length s.rounds.proposals.items ≤ MOST_LIMIT
  pub room : MOST_LIMIT ≤ vec_capacity s.rounds.proposals
