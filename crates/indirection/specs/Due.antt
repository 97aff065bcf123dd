-- What the dispatcher has to do next.
use Rattle.std.specs.Prelude.{ℕ, ◌%◌, List, [], ◌∷◌, ◌++◌, map, filter, length, slice_get, if◌then◌else◌, ◌==◌, nat_le, Bool, true, false, not, ◌&&◌, Option, Some, None}
use Rattle.indirection.specs.declared.proposal.Proposal.{Proposal}
use Rattle.indirection.specs.declared.move_order.MoveOrder.{MoveOrder}
use Rattle.indirection.specs.Views.{LoadsView}
use Rattle.indirection.specs.Tries.{Ask, Proposed, Ordered}
use Rattle.indirection.specs.Story.{Step, Rounds, Tries, Sends, parcels_of, tries_of, here_from}

-- what of the options a journal speaks of; `propose` gives the proposals for loads and owners, by the rule of balancing and its limit
pub record Rules : Type 0 where
  pub cores : ℕ
  pub start : List ℕ
  pub moves : List MoveOrder
  pub round : ℕ
  pub propose : LoadsView → List ℕ → List Proposal

-- what is due next
pub data Due : Type 0 where
  RoundDue : Due
  TryDue : (ask : Ask) → Due
  PacketDue : Due

-- how many packets were sent
abbrev pub position : List Step → ℕ
position before = length (parcels_of before)

-- a round stands at each multiple of the round length, from one round length on
abbrev pub is_round_at : Rules → ℕ → Bool
is_round_at rules n = nat_le rules.round n && (n % rules.round == 0)

-- a round is among the steps
abbrev pub has_round : List Step → Bool
has_round [] = false
has_round (Rounds h ∷ ss) = true
has_round (Tries a o ∷ ss) = has_round ss
has_round (Sends p ∷ ss) = has_round ss

-- the proposals of the rounds among the steps
abbrev pub proposed_in : List Step → List Ask
proposed_in [] = []
proposed_in (Rounds h ∷ ss) = map (Proposed h.at) h.proposals ++ proposed_in ss
proposed_in (Tries a o ∷ ss) = proposed_in ss
proposed_in (Sends p ∷ ss) = proposed_in ss

-- the orders of a position, in their order
abbrev pub orders_at : Rules → ℕ → List Ask
orders_at rules n = map Ordered (filter (λ (m : MoveOrder). m.at == n) rules.moves)

-- a try, where there is something to ask, and else a packet
abbrev pub ask_due : Option Ask → Due
ask_due None = PacketDue
ask_due (Some a) = TryDue a

-- at a position with these steps so far: its round, then the proposals, then the orders, then the packet
abbrev pub due_at : Rules → ℕ → List Step → Due
due_at rules n here =
    if is_round_at rules n && not (has_round here) then RoundDue
    else ask_due (slice_get (proposed_in here ++ orders_at rules n) (length (tries_of here)))

-- what is due behind these steps
abbrev pub due : Rules → List Step → Due
due rules before = due_at rules (position before) (here_from [] before)
