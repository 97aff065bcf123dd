-- The journals of four small runs as values: each is lawful, gives the custody of its run, and is lawful no more once it is changed.
use Rattle.std.proofs.Common.{◌≡◌, ℕ, List, [], ◌∷◌, true, false, Some, None, refl, map, take}
use Rattle.indirection.specs.declared.proposal.Proposal.{Proposal}
use Rattle.indirection.specs.declared.move_order.MoveOrder.{MoveOrder}
use Rattle.indirection.specs.declared.outcome.Outcome.{Outcome}
use Rattle.indirection.specs.declared.outcome.Outcome.TheVariants.{Moved, Placed, Same, InPassage}
use Rattle.indirection.specs.declared.entry.Entry.{Entry}
use Rattle.indirection.specs.declared.entry.Entry.TheVariants.{Round, Order}
use Rattle.indirection.specs.JournalView.{JournalView}
use Rattle.indirection.specs.Views.{RoundView}
use Rattle.indirection.specs.Story.{Parcel, told, entries_of}
use Rattle.indirection.specs.Stints.{Stint, stints}
use Rattle.indirection.specs.Owner.{owner_of}
use Rattle.indirection.specs.Due.{Rules}
use Rattle.indirection.specs.Lawful.{cost_in}
use Rattle.indirection.specs.JournalFacts.{orders_in, orders_up_to, rounds_in, rounds_up_to, last_packets, cost_owned}
use Rattle.indirection.specs.Judge.{lawful}

abbrev packet : ℕ → Parcel
packet bucket = record { bucket = bucket; cost = 1 }

abbrev order : ℕ → ℕ → ℕ → MoveOrder
order at bucket to = record { at = at; bucket = bucket; to = to }

abbrev done : MoveOrder → Outcome → Entry
done order outcome = Order (record { order = order; outcome = outcome })

abbrev worked : ℕ → ℕ → ℕ → Stint
worked core from to = record { core = core; from = from; to = to }

-- two cores, with these owners and orders, and no round
abbrev rules : List ℕ → List MoveOrder → Rules
rules start moves = record { cores = 2; start = start; moves = moves; round = 1000; propose = λ loads owners. [] }

abbrev journal : List ℕ → List Entry → JournalView
journal start entries = record { start = start; entries = entries }

-- a bucket of six packets moves to core 1 and back

abbrev six : List Parcel
six = packet 0 ∷ packet 0 ∷ packet 0 ∷ packet 0 ∷ packet 0 ∷ packet 0 ∷ []

abbrev there_and_back : Rules
there_and_back = rules (0 ∷ []) (order 2 0 1 ∷ order 5 0 0 ∷ [])

abbrev twice : JournalView
twice = journal (0 ∷ []) (done (order 2 0 1) (Moved 2) ∷ done (order 5 0 0) (Moved 5) ∷ [])

twice_lawful : lawful there_and_back six twice ≡ true
twice_lawful = refl

twice_stints : stints twice six 0 ≡ worked 0 0 2 ∷ worked 1 2 5 ∷ worked 0 5 6 ∷ []
twice_stints = refl

twice_owners : map (owner_of twice 0) (0 ∷ 1 ∷ 2 ∷ 4 ∷ 5 ∷ 6 ∷ []) ≡ 0 ∷ 0 ∷ 1 ∷ 1 ∷ 0 ∷ 0 ∷ []
twice_owners = refl

-- another tail, an order left out, an order at another position, and an order of another core
wrong_tail : lawful there_and_back six (journal (0 ∷ []) (done (order 2 0 1) (Moved 2) ∷ done (order 5 0 0) (Moved 4) ∷ [])) ≡ false
wrong_tail = refl

left_out : lawful there_and_back six (journal (0 ∷ []) (done (order 2 0 1) (Moved 2) ∷ [])) ≡ false
left_out = refl

moved_along : lawful there_and_back six (journal (0 ∷ []) (done (order 3 0 1) (Moved 3) ∷ done (order 5 0 0) (Moved 5) ∷ [])) ≡ false
moved_along = refl

other_table : lawful there_and_back six (journal (1 ∷ []) (done (order 2 0 1) Same ∷ done (order 5 0 0) (Moved 5) ∷ [])) ≡ false
other_table = refl

-- the second move meets a table under way

abbrev too_soon : Rules
too_soon = rules (0 ∷ []) (order 2 0 1 ∷ order 4 0 0 ∷ [])

abbrev met : ℕ → JournalView
met word = journal (0 ∷ []) (done (order 2 0 1) (Moved 2) ∷ done (order 4 0 0) (InPassage 2 4 (Some word)) ∷ [])

met_lawful : lawful too_soon six (met 5) ≡ true
met_lawful = refl

met_stints : stints (met 5) six 0 ≡ worked 0 0 2 ∷ worked 1 2 6 ∷ []
met_stints = refl

-- with the word of a table that is held, the bucket had to move
met_held : lawful too_soon six (met 6) ≡ false
met_held = refl

-- each outcome, over two buckets of core 0

abbrev each_outcome : Rules
each_outcome = rules (0 ∷ 0 ∷ []) (order 0 1 1 ∷ order 1 0 0 ∷ order 2 0 1 ∷ order 2 0 0 ∷ [])

abbrev three : List Parcel
three = packet 0 ∷ packet 0 ∷ packet 0 ∷ []

abbrev outcomes : Outcome → Outcome → JournalView
outcomes first last = journal (0 ∷ 0 ∷ []) (done (order 0 1 1) first ∷ done (order 1 0 0) Same ∷ done (order 2 0 1) (Moved 2) ∷ done (order 2 0 0) last ∷ [])

outcomes_lawful : lawful each_outcome three (outcomes Placed (InPassage 2 2 None)) ≡ true
outcomes_lawful = refl

outcomes_stints : stints (outcomes Placed (InPassage 2 2 None)) three 0 ≡ worked 0 0 2 ∷ worked 1 2 3 ∷ []
outcomes_stints = refl

-- a bucket without packets is placed, and one that isn't fresh doesn't move
moved_empty : lawful each_outcome three (outcomes (Moved 0) (InPassage 2 2 None)) ≡ false
moved_empty = refl

moved_stale : lawful each_outcome three (outcomes Placed (Moved 2)) ≡ false
moved_stale = refl

-- a round of two buckets moves the first

abbrev move_first : Proposal
move_first = record { bucket = 0; from = 0; to = 1; gain = 4 }

abbrev rounds : Rules
rounds = record { cores = 2; start = 0 ∷ 0 ∷ []; moves = []; round = 3; propose = λ loads owners. move_first ∷ [] }

abbrev four : List Parcel
four = packet 0 ∷ packet 0 ∷ packet 1 ∷ packet 0 ∷ []

abbrev one_round : List ℕ → List ℕ → List Outcome → JournalView
one_round bucket base outcomes = journal (0 ∷ 0 ∷ []) (Round (record { at = 3; loads = record { bucket = bucket; base = base }; proposals = move_first ∷ []; outcomes = outcomes }) ∷ [])

round_lawful : lawful rounds four (one_round (2 ∷ 1 ∷ []) (1 ∷ 0 ∷ []) (Moved 2 ∷ [])) ≡ true
round_lawful = refl

round_stints : map (stints (one_round (2 ∷ 1 ∷ []) (1 ∷ 0 ∷ []) (Moved 2 ∷ [])) four) (0 ∷ 1 ∷ []) ≡ (worked 0 0 2 ∷ worked 1 2 3 ∷ []) ∷ (worked 0 0 1 ∷ []) ∷ []
round_stints = refl

-- other loads, a base above what was sent, no outcome, and one too many
other_loads : lawful rounds four (one_round (3 ∷ 1 ∷ []) (1 ∷ 0 ∷ []) (Moved 2 ∷ [])) ≡ false
other_loads = refl

great_base : lawful rounds four (one_round (2 ∷ 1 ∷ []) (4 ∷ 0 ∷ []) (Moved 2 ∷ [])) ≡ false
great_base = refl

no_outcome : lawful rounds four (one_round (2 ∷ 1 ∷ []) (1 ∷ 0 ∷ []) []) ≡ false
no_outcome = refl

one_too_many : lawful rounds four (one_round (2 ∷ 1 ∷ []) (1 ∷ 0 ∷ []) (Moved 2 ∷ Same ∷ [])) ≡ false
one_too_many = refl

-- what the laws say of these journals, by computing: their orders, the positions of their rounds, the loads of the round, what was sent to each core, and the entries that their stories tell

twice_orders : orders_in twice.entries ≡ orders_up_to there_and_back 6
twice_orders = refl

met_orders : orders_in (met 5).entries ≡ orders_up_to too_soon 6
met_orders = refl

outcomes_orders : orders_in (outcomes Placed (InPassage 2 2 None)).entries ≡ orders_up_to each_outcome 3
outcomes_orders = refl

twice_sent : map (λ c. cost_owned twice c six) (0 ∷ 1 ∷ []) ≡ 3 ∷ 3 ∷ []
twice_sent = refl

met_sent : map (λ c. cost_owned (met 5) c six) (0 ∷ 1 ∷ []) ≡ 2 ∷ 4 ∷ []
met_sent = refl

abbrev balanced : JournalView
balanced = one_round (2 ∷ 1 ∷ []) (1 ∷ 0 ∷ []) (Moved 2 ∷ [])

round_stands : map (λ (r : RoundView). r.at) (rounds_in balanced.entries) ≡ rounds_up_to rounds 4
round_stands = refl

round_weighs : map (cost_in (last_packets 3 3 four)) (0 ∷ 1 ∷ []) ≡ 2 ∷ 1 ∷ []
round_weighs = refl

round_sent : map (λ c. cost_owned balanced c (take 3 four)) (0 ∷ 1 ∷ []) ≡ 3 ∷ 0 ∷ []
round_sent = refl

twice_told : entries_of (told 0 six twice.entries) ≡ twice.entries
twice_told = refl

round_told : entries_of (told 0 four balanced.entries) ≡ balanced.entries
round_told = refl
