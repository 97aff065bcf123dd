-- The tries of a journal: what was asked of the table, and what came of it.
use Rattle.std.specs.Prelude.{ℕ, zero, suc, List, [], ◌∷◌, ◌++◌, map, length, slice_index, if◌then◌else◌, ◌==◌}
use Rattle.indirection.specs.declared.proposal.Proposal.{Proposal}
use Rattle.indirection.specs.declared.move_order.MoveOrder.{MoveOrder}
use Rattle.indirection.specs.declared.outcome.Outcome.{Outcome}
use Rattle.indirection.specs.declared.outcome.Outcome.TheVariants.{Moved, Placed, Same, InPassage}
use Rattle.indirection.specs.declared.entry.Entry.{Entry}
use Rattle.indirection.specs.declared.entry.Entry.TheVariants.{Round, Order}

-- a proposal of the round at a position, or an order
pub data Ask : Type 0 where
  Proposed : (at : ℕ) → (proposal : Proposal) → Ask
  Ordered : (order : MoveOrder) → Ask

-- its position: behind so many packets
abbrev pub ask_at : Ask → ℕ
ask_at (Proposed at p) = at
ask_at (Ordered m) = m.at

-- the bucket that is asked to move
abbrev pub ask_bucket : Ask → ℕ
ask_bucket (Proposed at p) = p.bucket
ask_bucket (Ordered m) = m.bucket

-- the core that it is asked to go to
abbrev pub ask_to : Ask → ℕ
ask_to (Proposed at p) = p.to
ask_to (Ordered m) = m.to

-- something asked, and what came of it
pub record Try : Type 0 where
  pub ask : Ask
  pub outcome : Outcome

-- each proposal that has an outcome, with it
abbrev pub round_tries : ℕ → List Proposal → List Outcome → List Try
round_tries at [] os = []
round_tries at (p ∷ ps) [] = []
round_tries at (p ∷ ps) (o ∷ os) = record { ask = Proposed at p; outcome = o } ∷ round_tries at ps os

-- the tries of an entry
abbrev pub entry_tries : Entry → List Try
entry_tries (Round r) = round_tries r.at r.proposals r.outcomes
entry_tries (Order e) = record { ask = Ordered e.order; outcome = e.outcome } ∷ []

-- the tries of all entries, in order
abbrev pub tries : List Entry → List Try
tries [] = []
tries (e ∷ es) = entry_tries e ++ tries es

-- the owner after an outcome: Moved and Placed give the bucket to the core
abbrev pub owner_by : ℕ → ℕ → Outcome → ℕ
owner_by core to (Moved tail) = to
owner_by core to Placed = to
owner_by core to Same = core
owner_by core to (InPassage tail sent word) = core

-- the owner of a bucket after the tries, where it was o before them
abbrev pub owner_from : ℕ → ℕ → List Try → ℕ
owner_from b o [] = o
owner_from b o (t ∷ ts) = owner_from b (if ask_bucket t.ask == b then owner_by o (ask_to t.ask) t.outcome else o) ts

-- the owner of a bucket after the tries, from the owners at the start
abbrev pub owner_after : List ℕ → List Try → ℕ → ℕ
owner_after start ts b = owner_from b (slice_index start b) ts

-- 0, 1, .. , n - 1
abbrev pub upto : ℕ → List ℕ
upto zero = []
upto (suc n) = upto n ++ n ∷ []

-- the owners of all buckets after the tries
abbrev pub owners_after : List ℕ → List Try → List ℕ
owners_after start ts = map (owner_after start ts) (upto (length start))

-- the tail that an outcome sets, else the one before it
abbrev pub tail_by : ℕ → Outcome → ℕ
tail_by s (Moved tail) = tail
tail_by s Placed = s
tail_by s Same = s
tail_by s (InPassage tail sent word) = s

-- the tail of the bucket's last Moved among the tries, else s
abbrev pub tail_from : ℕ → ℕ → List Try → ℕ
tail_from b s [] = s
tail_from b s (t ∷ ts) = tail_from b (if ask_bucket t.ask == b then tail_by s t.outcome else s) ts

-- the tail of a Moved alone
abbrev pub tail_list : Outcome → List ℕ
tail_list (Moved tail) = tail ∷ []
tail_list Placed = []
tail_list Same = []
tail_list (InPassage tail sent word) = []

-- the tails of the bucket's Moved entries, in order
abbrev pub tails : ℕ → List Try → List ℕ
tails b [] = []
tails b (t ∷ ts) = (if ask_bucket t.ask == b then tail_list t.outcome else []) ++ tails b ts
