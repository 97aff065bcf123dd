-- The rounds among the entries of a journal, and their outcomes.
use Rattle.std.specs.Prelude.{ℕ, ◌≤◌, ◌<◌, List, [], ◌∷◌, ◌++◌, length, Option, Some, None, unwrap_or, IsSomeAnd, ◌≡◌}
use Rattle.indirection.specs.declared.proposal.Proposal.{Proposal}
use Rattle.indirection.specs.declared.outcome.Outcome.{Outcome}
use Rattle.indirection.specs.declared.entry.Entry.{Entry}
use Rattle.indirection.specs.declared.entry.Entry.TheVariants.{Round, Order}
use Rattle.indirection.specs.Views.{LoadsView, RoundView}

-- no round has more outcomes than proposals
abbrev pub ArePaired : List Entry → Type 0
ArePaired [] = Unit {0}
ArePaired (Round r ∷ es) = (length r.outcomes ≤ length r.proposals) × ArePaired es
ArePaired (Order e ∷ es) = ArePaired es

-- the last round among the entries
abbrev pub last_round : List Entry → Option RoundView
last_round [] = None
last_round (Round r ∷ es) = Some (unwrap_or (last_round es) r)
last_round (Order e ∷ es) = last_round es

-- there is a round, and the last one has fewer outcomes than proposals
abbrev pub AwaitOutcome : List Entry → Type 0
AwaitOutcome es = IsSomeAnd (last_round es) (λ r. length r.outcomes < length r.proposals)

-- a round before its first outcome
abbrev pub opened_round : ℕ → LoadsView → List Proposal → RoundView
opened_round at loads proposals = record { at = at; loads = loads; proposals = proposals; outcomes = [] }

-- the round with one more outcome
abbrev pub round_with : RoundView → Outcome → RoundView
round_with r outcome = record r { outcomes = r.outcomes ++ outcome ∷ [] }

-- the entries with one more outcome of the last round, where the entries behind this round have none
abbrev pub round_or_later : RoundView → Outcome → Option RoundView → List Entry → List Entry → List Entry
round_or_later r outcome None es changed = Round (round_with r outcome) ∷ es
round_or_later r outcome (Some later) es changed = Round r ∷ changed

-- the entries with one more outcome of their last round
abbrev pub entries_with : List Entry → Outcome → List Entry
entries_with [] outcome = []
entries_with (Round r ∷ es) outcome = round_or_later r outcome (last_round es) es (entries_with es outcome)
entries_with (Order e ∷ es) outcome = Order e ∷ entries_with es outcome

-- the last round stands at this place: before it are so many entries, and behind it there is none
pub record IsLastRoundAt (es : List Entry) (place : ℕ) : Type 0 where
  pub front : List Entry
  pub round : RoundView
  pub behind : List Entry
  pub parts : es ≡ front ++ Round round ∷ behind
  pub before : length front ≡ place
  pub last : last_round behind ≡ None
