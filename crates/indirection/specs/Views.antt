-- The table, the loads and a round as contracts see them.
use Rattle.std.specs.Prelude.{ℕ, List}
use Rattle.indirection.specs.declared.proposal.Proposal.{Proposal}
use Rattle.indirection.specs.declared.outcome.Outcome.{Outcome}

-- the number of cores, and the owner of each bucket
pub record TableView : Type 0 where
  pub cores : ℕ
  pub owners : List ℕ

-- the load of each bucket, and what each core has still to work
pub record LoadsView : Type 0 where
  pub bucket : List ℕ
  pub base : List ℕ

-- a round at a position, what it weighed, what it proposed, and what came of its first proposals
pub record RoundView : Type 0 where
  pub at : ℕ
  pub loads : LoadsView
  pub proposals : List Proposal
  pub outcomes : List Outcome
