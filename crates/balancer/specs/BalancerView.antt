-- A balancer as contracts see it.
use Rattle.std.specs.Prelude.{ℕ, List, []}
use Rattle.indirection.specs.declared.proposal.Proposal.{Proposal}
use Rattle.balancer.specs.Policies.{Stated}

-- the cores and buckets that it was made for, and what it proposed last
pub record BalancerView : Type 0 where
  pub cores : ℕ
  pub buckets : ℕ
  pub proposals : List Proposal

-- what it states as a policy: it has no settings
abbrev pub stated_by : BalancerView → Stated
stated_by b = record { cores = b.cores; buckets = b.buckets; settings = [] }
