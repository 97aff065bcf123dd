-- What others do to a dispatcher's ends between its turns.
use Rattle.std.specs.Prelude.{◌≡◌, ◌≤◌, ℕ, List, length, Some, slice_get}
use Rattle.core_queue.specs.declared.history.LaneHistory.{LaneHistory}
use Rattle.handover_words.specs.declared.history.ShelfHistory.{ShelfHistory}
use Rattle.load_meter.specs.declared.history.LoadHistory.{LoadHistory}
use Rattle.load_meter.specs.LoadHistory.{known_at}

-- a lane of the same run that was sent the same: items may have been taken
pub record SameSent (e e' : LaneHistory) : Type 0 where
  pub key : e'.key ≡ e.key
  pub buckets : e'.buckets ≡ e.buckets
  pub sent : e'.sent ≡ e.sent

-- lane by lane
pub record AreSentSame (lanes lanes' : List LaneHistory) : Type 0 where
  pub wide : length lanes' ≡ length lanes
  pub each : (c : ℕ) (e' : LaneHistory) → slice_get lanes' c ≡ Some e' → (e : LaneHistory) × (slice_get lanes c ≡ Some e) × SameSent e e'

-- nothing was sent on the lanes, the shelf has its number of buckets, and the meter knows of each core what it knew, or more
pub record IsBorne (lanes lanes' : List LaneHistory) (shelf shelf' : ShelfHistory) (meter meter' : LoadHistory) : Type 0 where
  pub sent : AreSentSame lanes lanes'
  pub words : shelf'.buckets ≡ shelf.buckets
  pub cores : meter'.cores ≡ meter.cores
  pub known : (c : ℕ) → known_at c meter ≤ known_at c meter'
