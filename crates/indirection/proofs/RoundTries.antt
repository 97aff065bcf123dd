-- The tries of a round.
use Rattle.std.proofs.Common.{◌≡◌, ℕ, List, [], ◌∷◌, ◌++◌, length, Some, refl, ap}
use Rattle.std.specs.Prelude.{slice_get}
use Rattle.indirection.specs.declared.proposal.Proposal.{Proposal}
use Rattle.indirection.specs.declared.outcome.Outcome.{Outcome}
use Rattle.indirection.specs.Tries.{Proposed, Try, round_tries}

pub round_tries-none : (at : ℕ) (ps : List Proposal) → round_tries at ps [] ≡ []
round_tries-none at [] = refl
round_tries-none at (p ∷ ps) = refl

-- no proposal, no try
pub round_tries-no_proposals : (at : ℕ) (ps : List Proposal) (os : List Outcome) → length ps ≡ 0 → round_tries at ps os ≡ []
round_tries-no_proposals at [] os none = refl
round_tries-no_proposals at (p ∷ ps) os none = absurd (cc)

-- no outcome, no try
pub round_tries-no_outcomes : (at : ℕ) (ps : List Proposal) (os : List Outcome) → length os ≡ 0 → round_tries at ps os ≡ []
round_tries-no_outcomes at ps [] none = round_tries-none at ps
round_tries-no_outcomes at ps (o ∷ os) none = absurd (cc)

-- one more outcome of a round
pub round_tries-push : (at : ℕ) (ps : List Proposal) (os : List Outcome) (p : Proposal) (o : Outcome) → slice_get ps (length os) ≡ Some p → round_tries at ps (os ++ o ∷ []) ≡ round_tries at ps os ++ record { ask = Proposed at p; outcome = o } ∷ []
round_tries-push at [] os p o h = absurd (cc)
round_tries-push at (q ∷ ps) [] p o h = let e : q ≡ p = cc in rw (e, round_tries-none at ps) refl
round_tries-push at (q ∷ ps) (x ∷ os) p o h = ap (λ (z : List Try). record { ask = Proposed at q; outcome = x } ∷ z) (round_tries-push at ps os p o h)
