-- A round under way, as the code holds it.
use Rattle.std.specs.Prelude.{ℕ, ◌<◌, ◌≤◌, ◌≡◌, List, map, length, All}
use Rattle.indirection.specs.declared.limits.TheConstants.{MOST_CORES, MOST_BUCKETS}
use Rattle.indirection.specs.declared.proposal.Proposal.{Proposal}
use Rattle.indirection.specs.Views.{LoadsView}
use Rattle.balancer.specs.declared.standing.Standing.{Standing}
use Rattle.balancer.specs.declared.limits.TheConstants.{MOST_LOAD}
use Rattle.balancer.specs.Imbalance.{core_loads}
use Rattle.balancer.specs.Greedy.{RoundState}

-- the loads are of so many buckets and cores, and none is above its limit
pub record AreLoads (cores buckets : ℕ) (loads : LoadsView) : Type 0 where
  pub buckets_are : length loads.bucket ≡ buckets
  pub cores_are : length loads.base ≡ cores
  pub load : All (λ load. load ≤ MOST_LOAD) loads.bucket
  pub base : All (λ base. base ≤ MOST_LOAD) loads.base

-- the round is among cores and buckets within the limits, each bucket is of one of the cores, and these are the loads of the cores
pub record IsWeighed (s : RoundState) (carried : List ℕ) : Type 0 where
  pub carried_are : carried ≡ core_loads s.cores s.loads s.owners
  pub owners : All (λ owner. owner < s.cores) s.owners
  pub cores : s.cores ≤ MOST_CORES
  pub buckets : length s.owners ≤ MOST_BUCKETS
  pub loads : AreLoads s.cores (length s.owners) s.loads

-- the round that stands so
abbrev pub round_state_of : ℕ → LoadsView → List ℕ → List Proposal → RoundState
round_state_of cores loads owners proposals = record { cores = cores; loads = loads; owners = owners; taken = map (λ (p : Proposal). p.bucket) proposals }

abbrev pub round_state_at : Standing → RoundState
round_state_at s = round_state_of (length s.carried.now) s.loads.now s.owners.now s.proposals.now

-- the standing round is weighed
abbrev pub Stands : Standing → Type 0
Stands s = IsWeighed (round_state_at s) s.carried.now
