-- What two parties bring to the objects that they share, and what is left when these are closed.
use Rattle.std.specs.Prelude.{◌≡◌, ℕ, zero, suc, List, [], ◌∷◌, Option}
use Rattle.packet_fields.specs.declared.packet.PacketInfo.{PacketInfo}
use Rattle.toeplitz.specs.declared.key.Key.{Key}
use Rattle.core_queue.specs.declared.history.LaneHistory.{LaneHistory}
use Rattle.core_queue.specs.RuledLane.{SharedLane, AtLane, Noted, HasEnd}
use Rattle.core_queue.specs.Cells.{LegalCells}
use Rattle.handover_words.specs.declared.history.Stretch.{Stretch}
use Rattle.handover_words.specs.declared.history.ShelfHistory.{ShelfHistory}
use Rattle.handover_words.specs.declared.shelf_run.ShelfRun.{ShelfRun}
use Rattle.handover_words.specs.WordShelf.{SharedShelf, AtShelf, ClosesShelf}
use Rattle.packet_pool.specs.RuledPool.{SharedPool}
use Rattle.load_meter.specs.Meter.{SharedMeter}
use Rattle.shared_ends.specs.declared.side.Side.{Side}

-- what an end of a lane knows of its run stays
pub record SameRun (before after : LaneHistory) : Type 0 where
  pub key : after.key ≡ before.key
  pub buckets : after.buckets ≡ before.buckets

-- a seat of the shelf that is made for its run and holds no bucket
pub record IsFreeSeat (shelf : SharedShelf) (seat : AtShelf) : Type 0 where
  pub home : seat.home ≡ shelf.home
  pub key : seat.history.key ≡ shelf.run.key
  pub buckets : seat.history.buckets ≡ shelf.run.buckets
  pub free : seat.history.held ≡ []

-- a party's passes and seats are of these objects
pub record IsAt {T : Type 0} (lane : SharedLane) (shelf : SharedShelf) (pool : SharedPool) (meter : SharedMeter) (side : Side AtLane T) : Type 0 where
  pub lane_is : side.lane.home ≡ lane.home
  pub key : side.lane.history.key ≡ shelf.run.key
  pub buckets : side.lane.history.buckets ≡ shelf.run.buckets
  pub seat : IsFreeSeat shelf side.seat
  pub cells : side.cells.home ≡ pool.home
  pub load : side.load.home ≡ meter.home
  pub cores : side.load.history.cores ≡ meter.cores

-- the one custody in which so many first packets of a bucket were worked, if any were
abbrev pub stretches : ℕ → ℕ → List Stretch
stretches b zero = []
stretches b (suc n) = record { bucket = b; from = 0; to = suc n } ∷ []

-- all that was sent on the lane was taken, to its End, and was legal
pub record IsTakenWhole (packets : Option (List PacketInfo)) (run : ShelfRun) (note : Noted) : Type 0 where
  pub whole : note.taken ≡ note.sent
  pub ended : HasEnd note.taken
  pub legal : LegalCells packets run.key run.buckets note.sent

-- the tables of a shelf were appended, and these custodies are all that were ended on it
pub record IsClosed {T : Type 0} (lies : Key → ℕ → ℕ → ℕ → T → Type 0) (run : ShelfRun) (ended : List Stretch) (before after : List T) : Type 0 where
  pub history : ShelfHistory
  pub key : history.key ≡ run.key
  pub buckets : history.buckets ≡ run.buckets
  pub ended_is : history.ended ≡ ended
  pub closes : ClosesShelf lies history before after
