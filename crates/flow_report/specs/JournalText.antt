-- The text of a journal, and of who had which packets.
use Rattle.std.specs.Prelude.{◌≡◌, ℕ, List, [], ◌∷◌, ◌++◌, map, length, codes, Option, Some, None}
use Rattle.std.specs.List.{flat_map, zip}
use Rattle.std.specs.Fmt.{decimal}
use Rattle.bucket_table.specs.declared.custody.Custody.{Custody}
use Rattle.indirection.specs.declared.proposal.Proposal.{Proposal}
use Rattle.indirection.specs.declared.outcome.Outcome.{Outcome}
use Rattle.indirection.specs.declared.outcome.Outcome.TheVariants.{Moved, Placed, Same, InPassage}
use Rattle.indirection.specs.declared.order_entry.OrderEntry.{OrderEntry}
use Rattle.indirection.specs.declared.entry.Entry.{Entry}
use Rattle.indirection.specs.declared.entry.Entry.TheVariants.{Round, Order}
use Rattle.indirection.specs.Views.{RoundView}
use Rattle.indirection.specs.JournalView.{JournalView}

-- a line is a list of words, the first of which tells its kind

-- words, each behind a space
abbrev pub spaced : List (List ℕ) → List ℕ
spaced words = flat_map (λ word. codes " " ++ word) words

-- the bytes of a line: one space between two words, and a line feed at the end
abbrev pub line_bytes : List (List ℕ) → List ℕ
line_bytes [] = codes "\n"
line_bytes (word ∷ words) = word ++ (spaced words ++ codes "\n")

-- a passage word, where one was loaded
abbrev pub passage_word : Option ℕ → List ℕ
passage_word (Some word) = decimal word
passage_word None = codes "-"

-- what came of a proposal or an order
abbrev pub outcome_words : Outcome → List (List ℕ)
outcome_words (Moved tail) = codes "moved" ∷ decimal tail ∷ []
outcome_words Placed = codes "placed" ∷ []
outcome_words Same = codes "same" ∷ []
outcome_words (InPassage tail sent word) = codes "passage" ∷ decimal tail ∷ decimal sent ∷ passage_word word ∷ []

-- `table` and the owner of each bucket
abbrev pub table_line : List ℕ → List (List ℕ)
table_line owners = codes "table" ∷ map decimal owners

-- `round AT loads` and the load of each bucket, `base` and the base of each core
abbrev pub round_line : ℕ → List ℕ → List ℕ → List (List ℕ)
round_line at loads bases = codes "round" ∷ decimal at ∷ codes "loads" ∷ (map decimal loads ++ (codes "base" ∷ map decimal bases))

-- `propose BUCKET FROM TO gain GAIN OUTCOME`
abbrev pub proposal_line : Proposal → Outcome → List (List ℕ)
proposal_line p outcome =
    codes "propose" ∷ decimal p.bucket ∷ decimal p.from ∷ decimal p.to ∷ codes "gain" ∷ decimal p.gain ∷ outcome_words outcome

-- `order AT BUCKET TO OUTCOME`
abbrev pub order_line : OrderEntry → List (List ℕ)
order_line e = codes "order" ∷ decimal e.order.at ∷ decimal e.order.bucket ∷ decimal e.order.to ∷ outcome_words e.outcome

-- `custody BUCKET CORE FROM TO`
abbrev pub custody_line : Custody → List (List ℕ)
custody_line c = codes "custody" ∷ decimal c.bucket ∷ decimal c.core ∷ decimal c.from ∷ decimal c.to ∷ []

-- the lines of an entry: an order is one, and behind the line of a round stands one for each proposal with what came of it
abbrev pub entry_lines : Entry → List (List (List ℕ))
entry_lines (Round r) = round_line r.at r.loads.bucket r.loads.base ∷ map (λ tried. proposal_line tried.0 tried.1) (zip r.proposals r.outcomes)
entry_lines (Order e) = order_line e ∷ []

-- the lines of a journal and of custody
abbrev pub journal_lines : JournalView → List Custody → List (List (List ℕ))
journal_lines j custody =
    (codes "journal" ∷ []) ∷ table_line j.start ∷ (flat_map entry_lines j.entries ++ (map custody_line custody ++ (codes "end" ∷ []) ∷ []))

-- the text of a journal and of custody, line by line
abbrev pub journal_bytes : JournalView → List Custody → List ℕ
journal_bytes j custody = flat_map line_bytes (journal_lines j custody)

-- each round has as many outcomes as proposals
abbrev pub HasWholeRounds : List Entry → Type 0
HasWholeRounds entries =
    (front behind : List Entry) (r : RoundView) → entries ≡ front ++ Round r ∷ behind → length r.outcomes ≡ length r.proposals
