-- What a lawful journal says of a run, sentence by sentence: its entries by their positions, and not as steps.
use Rattle.std.specs.Prelude.{ℕ, ◌+◌, ◌-◌, ◌<◌, ◌≤◌, ◌≡◌, Bool, List, [], ◌∷◌, map, filter, take, drop, length, sum_by, slice_index, ◌==◌, nat_le}
use Rattle.std.specs.List.{enumerate_from}
use Rattle.std.specs.List.Sorted.{IsNonDecreasing}
use Rattle.indirection.specs.declared.move_order.MoveOrder.{MoveOrder}
use Rattle.indirection.specs.declared.entry.Entry.{Entry}
use Rattle.indirection.specs.declared.entry.Entry.TheVariants.{Round, Order}
use Rattle.indirection.specs.Views.{RoundView}
use Rattle.indirection.specs.JournalView.{JournalView}
use Rattle.indirection.specs.Tries.{Try, ask_at, ask_bucket, ask_to, owner_after, owners_after, tail_from, tries, upto}
use Rattle.indirection.specs.Story.{Parcel, entry_at, count_in}
use Rattle.indirection.specs.Owner.{owner_of}
use Rattle.indirection.specs.Outcomes.{IsOutcome}
use Rattle.indirection.specs.Stints.{Stint}
use Rattle.indirection.specs.Due.{Rules, is_round_at}
use Rattle.indirection.specs.Lawful.{cost_in}

-- ---- positions

-- no entry stands at a lower position than one before it
abbrev pub KeepOrder : List Entry → Type 0
KeepOrder entries = IsNonDecreasing (map entry_at entries)

-- ---- orders

-- the orders among the entries, in their order
abbrev pub orders_in : List Entry → List MoveOrder
orders_in [] = []
orders_in (Round r ∷ es) = orders_in es
orders_in (Order e ∷ es) = e.order ∷ orders_in es

-- the orders that were given for positions up to n, in their order
abbrev pub orders_up_to : Rules → ℕ → List MoveOrder
orders_up_to rules n = filter (λ (m : MoveOrder). nat_le m.at n) rules.moves

-- ---- rounds

-- the rounds among the entries, in their order
abbrev pub rounds_in : List Entry → List RoundView
rounds_in [] = []
rounds_in (Round r ∷ es) = r ∷ rounds_in es
rounds_in (Order e ∷ es) = rounds_in es

-- the positions up to n that have a round: the multiples of the round length, from one round length on
abbrev pub rounds_up_to : Rules → ℕ → List ℕ
rounds_up_to rules n = filter (is_round_at rules) (upto (n + 1))

-- the packets at the last so many positions below one
abbrev pub last_packets : ℕ → ℕ → List Parcel → List Parcel
last_packets count at xs = drop (at - count) (take at xs)

-- a core owns the bucket of a packet at the packet's position
abbrev pub owns_at : JournalView → ℕ → (ℕ × Parcel) → Bool
owns_at j c placed = owner_of j placed.1.bucket placed.0 == c

-- what was sent to a core of these first packets: the costs of those that it owned at their positions
abbrev pub cost_owned : JournalView → ℕ → List Parcel → ℕ
cost_owned j c xs = sum_by (λ (placed : ℕ × Parcel). placed.1.cost) (filter (owns_at j c) (enumerate_from 0 xs))

-- what a round takes a core to have worked of it: what was sent to the core before, less its base
abbrev pub worked_at : JournalView → ℕ → List Parcel → RoundView → ℕ
worked_at j c xs r = cost_owned j c (take r.at xs) - slice_index r.loads.base c

-- a round behind these entries: its loads are the costs of each bucket's packets at the positions of the last round length, no base is above what was sent to its core before, and it proposes what the rule gives for its loads and the owners just before it
pub record IsRoundBehind (rules : Rules) (xs : List Parcel) (j : JournalView) (front : List Entry) (r : RoundView) : Type 0 where
  pub loads : r.loads.bucket ≡ map (cost_in (last_packets rules.round r.at xs)) (upto (length rules.start))
  pub bases : length r.loads.base ≡ rules.cores
  pub base : (c : ℕ) → c < rules.cores → slice_index r.loads.base c ≤ cost_owned j c (take r.at xs)
  pub proposals : r.proposals ≡ rules.propose r.loads (owners_after j.start (tries front))

-- ---- outcomes

-- what came of a try behind these ones, by its case: by who owns its bucket just before it, how many of the bucket's packets stand at lower positions, and the tail of the bucket's last Moved before it
abbrev pub IsAnswered : List Parcel → JournalView → List Try → Try → Type 0
IsAnswered xs j before t =
    IsOutcome (owner_after j.start before (ask_bucket t.ask)) (ask_to t.ask) (count_in (ask_bucket t.ask) (take (ask_at t.ask) xs)) (tail_from (ask_bucket t.ask) 0 before) t.outcome

-- ---- stints

-- the stint has the place
abbrev pub HasPlace : ℕ → Stint → Type 0
HasPlace place s = (s.from ≤ place) × (place < s.to)
