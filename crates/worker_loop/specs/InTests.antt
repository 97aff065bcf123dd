-- What tests say of a lane's next item and of a worker's tables. Tests alone use these definitions.
use Rattle.std.specs.Prelude.{◌≡◌, ◌<◌, ℕ, true, map, None}
use Rattle.handover_core.specs.Legal.{Stand, is_open}
use Rattle.core_queue.specs.declared.history.LaneHistory.{LaneHistory}
use Rattle.core_queue.specs.Cells.{LegalCells, plain}
use Rattle.worker_loop.specs.declared.slot.Slot.TheVariants.{Away}
use Rattle.worker_loop.specs.WorkerState.{WorkerState}
use Rattle.worker_loop.specs.Tied.{slot_at, stand_of}

-- what was sent on a lane is legal and open, and leaves bucket 0, whose packets have the hash 0, in this stand
pub record IsReady (s : Stand) (e : LaneHistory) : Type 0 where
  pub legal : LegalCells None e.key e.buckets e.sent
  pub is_open_still : is_open (map plain e.sent) ≡ true
  pub stands : stand_of 0 e.sent ≡ s
  pub some : 0 < e.buckets

-- the worker has no bucket's table
abbrev pub HasNone : {T : Type 0} → WorkerState T → Type 0
HasNone w = (b : ℕ) → slot_at b w ≡ Away
