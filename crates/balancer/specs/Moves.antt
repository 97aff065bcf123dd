-- Proposals as moves of a table.
use Rattle.std.specs.Prelude.{ℕ, ◌<◌, ◌≢◌, List, All}
use Rattle.indirection.specs.declared.proposal.Proposal.{Proposal}

-- the proposal moves one of the buckets from one of the cores to another
pub record IsMove (cores buckets : ℕ) (p : Proposal) : Type 0 where
  pub bucket : p.bucket < buckets
  pub from : p.from < cores
  pub to : p.to < cores
  pub apart : p.from ≢ p.to

abbrev pub AreMoves : ℕ → ℕ → List Proposal → Type 0
AreMoves cores buckets ps = All (λ p. IsMove cores buckets p) ps
