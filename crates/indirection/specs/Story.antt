-- The packets and the journal of a run told as one list.
use Rattle.std.specs.Prelude.{ℕ, ◌+◌, ◌-◌, ◌≤◌, max, List, [], ◌∷◌, ◌++◌, map, take, drop, count_by, ◌==◌, slice_index, if◌then◌else◌}
use Rattle.indirection.specs.declared.proposal.Proposal.{Proposal}
use Rattle.indirection.specs.declared.outcome.Outcome.{Outcome}
use Rattle.indirection.specs.declared.entry.Entry.{Entry}
use Rattle.indirection.specs.declared.entry.Entry.TheVariants.{Round, Order}
use Rattle.indirection.specs.Views.{LoadsView}
use Rattle.indirection.specs.Tries.{Ask, Proposed, Ordered, Try, round_tries, owner_after, tail_from}

-- a packet as the journal sees it
pub record Parcel : Type 0 where
  pub bucket : ℕ
  pub cost : ℕ

-- a round before its tries
pub record RoundHead : Type 0 where
  pub at : ℕ
  pub loads : LoadsView
  pub proposals : List Proposal

-- a step of a story: a round is made, a proposal or order is tried, or a packet is sent
pub data Step : Type 0 where
  Rounds : (head : RoundHead) → Step
  Tries : (ask : Ask) → (outcome : Outcome) → Step
  Sends : (parcel : Parcel) → Step

-- the position of an entry
abbrev pub entry_at : Entry → ℕ
entry_at (Round r) = r.at
entry_at (Order e) = e.order.at

-- the steps of an entry
abbrev pub entry_steps : Entry → List Step
entry_steps (Round r) = Rounds (record { at = r.at; loads = r.loads; proposals = r.proposals }) ∷ map (λ t. Tries t.ask t.outcome) (round_tries r.at r.proposals r.outcomes)
entry_steps (Order e) = Tries (Ordered e.order) e.outcome ∷ []

-- the packets from the position `at` on and the entries as one list: an entry stands behind the packets at positions below its own
abbrev pub told : ℕ → List Parcel → List Entry → List Step
told at xs [] = map Sends xs
told at xs (e ∷ es) =
    map Sends (take (entry_at e - at) xs) ++ (entry_steps e ++ told (max at (entry_at e)) (drop (entry_at e - at) xs) es)

-- no entry stands past the position
abbrev pub AtMost : ℕ → List Entry → Type 0
AtMost n [] = Unit {0}
AtMost n (e ∷ es) = (entry_at e ≤ n) × AtMost n es

-- the packets among the steps
abbrev pub parcels_of : List Step → List Parcel
parcels_of [] = []
parcels_of (Rounds h ∷ ss) = parcels_of ss
parcels_of (Tries a o ∷ ss) = parcels_of ss
parcels_of (Sends p ∷ ss) = p ∷ parcels_of ss

-- the tries among the steps
abbrev pub tries_of : List Step → List Try
tries_of [] = []
tries_of (Rounds h ∷ ss) = tries_of ss
tries_of (Tries a o ∷ ss) = record { ask = a; outcome = o } ∷ tries_of ss
tries_of (Sends p ∷ ss) = tries_of ss

-- the outcomes of the round that stands just before the steps
abbrev pub outcomes_behind : List Step → List Outcome
outcomes_behind [] = []
outcomes_behind (Rounds h ∷ ss) = []
outcomes_behind (Sends p ∷ ss) = []
outcomes_behind (Tries (Ordered m) o ∷ ss) = []
outcomes_behind (Tries (Proposed at p) o ∷ ss) = o ∷ outcomes_behind ss

-- the entries that the steps tell
abbrev pub entries_of : List Step → List Entry
entries_of [] = []
entries_of (Rounds h ∷ ss) = Round (record { at = h.at; loads = h.loads; proposals = h.proposals; outcomes = outcomes_behind ss }) ∷ entries_of ss
entries_of (Tries (Ordered m) o ∷ ss) = Order (record { order = m; outcome = o }) ∷ entries_of ss
entries_of (Tries (Proposed at p) o ∷ ss) = entries_of ss
entries_of (Sends p ∷ ss) = entries_of ss

-- how many packets of a bucket
abbrev pub count_in : ℕ → List Parcel → ℕ
count_in b xs = count_by (λ p. p.bucket == b) xs

-- the owner of a bucket behind these steps
abbrev pub owner_then : List ℕ → List Step → ℕ → ℕ
owner_then start before b = owner_after start (tries_of before) b

-- the start of a bucket's newest stint behind these steps
abbrev pub start_then : List Step → ℕ → ℕ
start_then before b = tail_from b 0 (tries_of before)

-- how many packets of a bucket were sent in these steps
abbrev pub sent_then : List Step → ℕ → ℕ
sent_then before b = count_in b (parcels_of before)

-- a try of a step
abbrev pub try_of : Ask → Outcome → Try
try_of a o = record { ask = a; outcome = o }

-- the cost of a packet, where the core owns its bucket after the tries
abbrev pub cost_to : ℕ → List ℕ → List Try → Parcel → ℕ
cost_to c start ts p = if owner_after start ts p.bucket == c then p.cost else 0

-- the costs of the packets that a core owned when they were sent, with these tries before the steps
abbrev pub sent_from : ℕ → List ℕ → List Try → List Step → ℕ
sent_from c start ts [] = 0
sent_from c start ts (Rounds h ∷ ss) = sent_from c start ts ss
sent_from c start ts (Tries a o ∷ ss) = sent_from c start (ts ++ try_of a o ∷ []) ss
sent_from c start ts (Sends p ∷ ss) = cost_to c start ts p + sent_from c start ts ss

-- the costs of the packets that a core owned when they were sent
abbrev pub sent_to : ℕ → List ℕ → List Step → ℕ
sent_to c start steps = sent_from c start [] steps

-- what a core had worked by the last round among the steps, with these tries and costs sent before them; `known` where there is none
abbrev pub worked_from : ℕ → List ℕ → List Try → ℕ → ℕ → List Step → ℕ
worked_from c start ts sent known [] = known
worked_from c start ts sent known (Rounds h ∷ ss) = worked_from c start ts sent (sent - slice_index h.loads.base c) ss
worked_from c start ts sent known (Tries a o ∷ ss) = worked_from c start (ts ++ try_of a o ∷ []) sent known ss
worked_from c start ts sent known (Sends p ∷ ss) = worked_from c start ts (sent + cost_to c start ts p) known ss

-- what a core had worked by the last round among the steps, or 0
abbrev pub worked_by : ℕ → List ℕ → List Step → ℕ
worked_by c start steps = worked_from c start [] 0 0 steps

-- the steps since the last packet
abbrev pub here_from : List Step → List Step → List Step
here_from held [] = held
here_from held (Rounds h ∷ ss) = here_from (held ++ Rounds h ∷ []) ss
here_from held (Tries a o ∷ ss) = here_from (held ++ Tries a o ∷ []) ss
here_from held (Sends p ∷ ss) = here_from [] ss
