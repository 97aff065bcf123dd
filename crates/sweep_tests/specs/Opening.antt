-- The passes and seats of parties that did nothing yet.
use Rattle.std.specs.Prelude.{◌≡◌, ◌≤◌, ℕ}
use Rattle.core_queue.specs.RuledLane.{SharedLane, AtLane}
use Rattle.packet_pool.specs.RuledPool.{SharedPool, AtPool}
use Rattle.handover_words.specs.WordShelf.{SharedShelf, AtShelf}
use Rattle.load_meter.specs.Meter.{SharedMeter, AtMeter}
use Rattle.toeplitz.specs.declared.bucket_hash.BucketHash.{BucketHash}
use Rattle.worker_loop.specs.Fresh.{AreFresh}
use Rattle.dispatch_loop.specs.Fresh.{IsFreshLane}
use Rattle.dispatch_loop.specs.Terms.{Terms, cores_of, buckets_of}

-- they are of this lane, shelf, pool and meter, and of this core of the run
pub record IsForWorker (core : ℕ) (run : BucketHash) (lane : SharedLane) (shelf : SharedShelf) (pool : SharedPool) (meter : SharedMeter) (taker : AtLane) (seat : AtShelf) (cells : AtPool) (load : AtMeter) : Type 0 where
  pub takes : taker.home ≡ lane.home
  pub seated : seat.home ≡ shelf.home
  pub gives : cells.home ≡ pool.home
  pub notes : load.home ≡ meter.home
  pub fresh : AreFresh core run taker.history seat.history load.history

-- they are of these two lanes and this shelf, pool and meter, for a run on these terms
pub record IsForDispatcher (t : Terms) (first second : SharedLane) (shelf : SharedShelf) (pool : SharedPool) (meter : SharedMeter) (to_first to_second : AtLane) (seat : AtShelf) (cells : AtPool) (load : AtMeter) : Type 0 where
  pub sends_first : to_first.home ≡ first.home
  pub sends_second : to_second.home ≡ second.home
  pub seated : seat.home ≡ shelf.home
  pub gets : cells.home ≡ pool.home
  pub reads : load.home ≡ meter.home
  pub first_fresh : IsFreshLane t to_first.history
  pub second_fresh : IsFreshLane t to_second.history
  pub words : seat.history.buckets ≡ buckets_of t
  pub numbers : cores_of t ≤ load.history.cores
