-- A worker with its ends, and which of its rules is due.
use Rattle.std.specs.Prelude.{◌≡◌, ◌≢◌, ℕ, ◌+◌, ◌*◌, ◌<◌, List, [], ◌∷◌, ◌++◌, Option, Some, None, slice_index}
use Rattle.core_queue.specs.declared.history.LaneHistory.{LaneHistory}
use Rattle.core_queue.specs.declared.lane.LaneEnd as lanes
use Rattle.core_queue.specs.LaneHistory.{Lane}
use Rattle.parked_queue.specs.Parked.{first_place}
use Rattle.handover_words.specs.declared.history.ShelfHistory.{ShelfHistory}
use Rattle.handover_words.specs.declared.shelf.Shelf as shelves
use Rattle.handover_words.specs.ShelfHistory.{saw, number}
use Rattle.handover_words.specs.Stock.{Stock}
use Rattle.load_meter.specs.declared.history.LoadHistory.{LoadHistory}
use Rattle.load_meter.specs.declared.load.LoadEnd as meters
use Rattle.worker_loop.specs.declared.slot.Slot.{Slot}
use Rattle.worker_loop.specs.declared.slot.Slot.TheVariants.{Away, Held, Leaving}
use Rattle.worker_loop.specs.WorkerState.{WorkerState}
use Rattle.worker_loop.specs.Tied.{slot_at}

-- a worker, what its ends know, and what their objects hold where that is told
pub record WorkerSnapshot (T : Type 0) : Type 0 where
  pub worker : WorkerState T
  pub lane : LaneHistory
  pub lane_now : Option Lane
  pub shelf : ShelfHistory
  pub shelf_now : Option (Stock T)
  pub meter : LoadHistory
  pub meter_now : Option (List ℕ)

abbrev pub worker_snapshot : {T : Type 0} → WorkerState T → LaneHistory → Option Lane → ShelfHistory → Option (Stock T) → LoadHistory → Option (List ℕ) → WorkerSnapshot T
worker_snapshot w l ln v vn m mn = record { worker = w; lane = l; lane_now = ln; shelf = v; shelf_now = vn; meter = m; meter_now = mn }

-- a worker with these ends, by what they tell
abbrev pub worker_with : {T N L H M : Type 0} → lanes.Ghosts L → shelves.Ghosts H T N → meters.Ghosts M → WorkerState T → L → H → M → WorkerSnapshot T
worker_with l h m w lane shelf meter = worker_snapshot w (l.history lane) (l.now lane) (h.history shelf) (h.now shelf) (m.history meter) (m.now meter)

abbrev pub IsLeaving : {T : Type 0} → Slot T → Type 0
IsLeaving Away = ⊥
IsLeaving (Held t) = ⊥
IsLeaving (Leaving t) = Unit {0}

abbrev pub IsHeld : {T : Type 0} → Slot T → Type 0
IsHeld Away = ⊥
IsHeld (Held t) = Unit {0}
IsHeld (Leaving t) = ⊥

abbrev pub NoneLeaves : {T : Type 0} → WorkerState T → Type 0
NoneLeaves w = (b : ℕ) → ¬ (IsLeaving (slot_at b w))

abbrev pub NoneHeld : {T : Type 0} → WorkerState T → Type 0
NoneHeld w = (b : ℕ) → ¬ (IsHeld (slot_at b w))

-- b is the lowest bucket whose table is on its way out
abbrev pub IsLowestLeaving : {T : Type 0} → ℕ → WorkerState T → Type 0
IsLowestLeaving b w = IsLeaving (slot_at b w) × ((c : ℕ) → c < b → ¬ (IsLeaving (slot_at c w)))

-- the place of a bucket's oldest parked cell
abbrev pub first_parked_place : {T : Type 0} → ℕ → WorkerState T → ℕ
first_parked_place b w = number (first_place b w.lot)

-- the word is the shelf's, where the shelf tells it
abbrev pub IsWord : {T : Type 0} → Option (Stock T) → ℕ → ℕ → Type 0
IsWord None b word = Unit {0}
IsWord (Some s) b word = slice_index s.words b ≡ word

-- the claims of these buckets at their first places were answered NotYet, one after the other
abbrev pub AnsweredNotYet : {T : Type 0} → WorkerState T → Option (Stock T) → List ℕ → ShelfHistory → ShelfHistory → Type 0
AnsweredNotYet w now [] e e' = e' ≡ e
AnsweredNotYet w now (b ∷ bs) e e' = (word : ℕ) × (word ≢ 2 * first_parked_place b w + 1) × IsWord now b word × AnsweredNotYet w now bs (saw b word e) e'

-- each bucket that waits was tried, and refused
abbrev pub AllRefused : {T : Type 0} → WorkerSnapshot T → WorkerSnapshot T → Type 0
AllRefused s t = AnsweredNotYet s.worker s.shelf_now s.worker.lot.waiting s.shelf t.shelf × (t.shelf_now ≡ s.shelf_now)

-- bucket b is the first in line whose claim was answered Ok, and e' is what the shelf's end knew before it
pub record IsFirstClaimed {T : Type 0} (w : WorkerState T) (now : Option (Stock T)) (b : ℕ) (e e' : ShelfHistory) : Type 0 where
  pub before : List ℕ
  pub behind : List ℕ
  pub line : w.lot.waiting ≡ before ++ b ∷ behind
  pub refused : AnsweredNotYet w now before e e'
