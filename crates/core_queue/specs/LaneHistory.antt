-- What an end of a lane knows, and what its calls make of it.
use Rattle.std.specs.Prelude.{◌≡◌, ℕ, ◌+◌, ◌<◌, List, [], ◌∷◌, ◌++◌, length, Option, Some, None, Result, Ok, Err}
use Rattle.core_queue.specs.declared.item.Item.{Item}
use Rattle.core_queue.specs.declared.item.Seen.{Seen}
use Rattle.core_queue.specs.declared.history.LaneHistory.{LaneHistory}
use Rattle.core_queue.specs.Seen.{seen}

-- an item was sent
abbrev pub sent_on : Seen → LaneHistory → LaneHistory
sent_on x e = record { key = e.key; buckets = e.buckets; sent = e.sent ++ x ∷ []; taken = e.taken; fulls = e.fulls; empties = e.empties }

-- the lane was met full
abbrev pub met_full : LaneHistory → LaneHistory
met_full e = record { key = e.key; buckets = e.buckets; sent = e.sent; taken = e.taken; fulls = e.fulls + 1; empties = e.empties }

-- an item was taken
abbrev pub took : Seen → LaneHistory → LaneHistory
took x e = record { key = e.key; buckets = e.buckets; sent = e.sent; taken = e.taken ++ x ∷ []; fulls = e.fulls; empties = e.empties }

-- the lane was met empty
abbrev pub met_empty : LaneHistory → LaneHistory
met_empty e = record { key = e.key; buckets = e.buckets; sent = e.sent; taken = e.taken; fulls = e.fulls; empties = e.empties + 1 }

-- what a lane holds, oldest first, and how many items it has room for
pub record Lane : Type 0 where
  pub items : List Seen
  pub room : ℕ

abbrev pub lane : List Seen → ℕ → Lane
lane items room = record { items = items; room = room }

-- a push appends where there is room, and else changes nothing
abbrev pub PutsIn : Option Lane → Seen → {A E : Type 0} → Result A E → Option Lane → Type 0
PutsIn None x result now = now ≡ None
PutsIn (Some old) x (Ok _) now = (length old.items < old.room) × (now ≡ Some (lane (old.items ++ x ∷ []) old.room))
PutsIn (Some old) x (Err _) now = (length old.items ≡ old.room) × (now ≡ Some old)

-- a take gives the oldest item, and nothing exactly where there is none
abbrev pub TakesOut : Option Lane → Option Item → Option Lane → Type 0
TakesOut None result now = now ≡ None
TakesOut (Some old) None now = (old.items ≡ []) × (now ≡ Some old)
TakesOut (Some old) (Some item) now = (rest : List Seen) × (old.items ≡ seen item ∷ rest) × (now ≡ Some (lane rest old.room))

-- what was sent is what was taken and then what the lane holds
abbrev pub InOrder : LaneHistory → Option Lane → Type 0
InOrder e None = Unit {0}
InOrder e (Some now) = e.sent ≡ e.taken ++ now.items
