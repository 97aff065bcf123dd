-- A worker as contracts see it.
use Rattle.std.specs.Prelude.{ℕ, Bool, List}
use Rattle.bucket_table.specs.declared.custody.Custody.{Custody}
use Rattle.packet_pool.specs.declared.cell.Facts.{Facts}
use Rattle.parked_queue.specs.Parked.{Parked}
use Rattle.worker_loop.specs.declared.slot.Slot.{Slot}
use Rattle.toeplitz.specs.declared.bucket_hash.BucketHash.{BucketHash}

-- all of it but the cells that it keeps for the pool: its core and its run; what it has of each bucket's table, of type T; its parked cells; whether it took End; how many packets it has worked, and what they cost; the custodies that it ended, in order; whether that list was refused memory
pub record WorkerState (T : Type 0) : Type 0 where
  pub core : ℕ
  pub run : BucketHash
  pub slots : List (Slot T)
  pub lot : Parked
  pub took_end : Bool
  pub worked : ℕ
  pub cost : ℕ
  pub log : List Custody
  pub short : Bool

-- a worker, and the worked cells that a pool refused
pub record WorkerView (T : Type 0) : Type 0 where
  pub state : WorkerState T
  pub kept : List Facts
