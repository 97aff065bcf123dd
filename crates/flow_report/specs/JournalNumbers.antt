-- The numbers that a journal text tells.
use Rattle.std.specs.Prelude.{ℕ, ◌^◌, ◌<◌, List, [], ◌∷◌, ◌++◌, Option, Some, None}
use Rattle.std.specs.List.{AllByRecursion, flat_map}
use Rattle.bucket_table.specs.declared.custody.Custody.{Custody}
use Rattle.indirection.specs.declared.proposal.Proposal.{Proposal}
use Rattle.indirection.specs.declared.outcome.Outcome.{Outcome}
use Rattle.indirection.specs.declared.outcome.Outcome.TheVariants.{Moved, Placed, Same, InPassage}
use Rattle.indirection.specs.declared.entry.Entry.{Entry}
use Rattle.indirection.specs.declared.entry.Entry.TheVariants.{Round, Order}
use Rattle.indirection.specs.JournalView.{JournalView}

abbrev pub passage_numbers : Option ℕ → List ℕ
passage_numbers (Some word) = word ∷ []
passage_numbers None = []

abbrev pub outcome_numbers : Outcome → List ℕ
outcome_numbers (Moved tail) = tail ∷ []
outcome_numbers Placed = []
outcome_numbers Same = []
outcome_numbers (InPassage tail sent word) = tail ∷ sent ∷ passage_numbers word

abbrev pub proposal_numbers : Proposal → List ℕ
proposal_numbers p = p.bucket ∷ p.from ∷ p.to ∷ p.gain ∷ []

abbrev pub entry_numbers : Entry → List ℕ
entry_numbers (Round r) = r.at ∷ (r.loads.bucket ++ (r.loads.base ++ (flat_map proposal_numbers r.proposals ++ flat_map outcome_numbers r.outcomes)))
entry_numbers (Order e) = e.order.at ∷ e.order.bucket ∷ e.order.to ∷ outcome_numbers e.outcome

abbrev pub custody_numbers : Custody → List ℕ
custody_numbers c = c.bucket ∷ c.core ∷ c.from ∷ c.to ∷ []

-- all numbers of a journal and of custody
abbrev pub journal_numbers : JournalView → List Custody → List ℕ
journal_numbers j custody = j.start ++ (flat_map entry_numbers j.entries ++ flat_map custody_numbers custody)

-- a number of at most 64 decimal digits, as every number of 128 bits is
abbrev pub IsShort : ℕ → Type 0
IsShort n = n < 10 ^ 64

-- none of the numbers is longer than a text tells
abbrev pub HasShortNumbers : JournalView → List Custody → Type 0
HasShortNumbers j custody = AllByRecursion IsShort (journal_numbers j custody)
