-- What the parties of a run share as it begins.
use Rattle.std.specs.Prelude.{◌≡◌, ℕ, ◌+◌, ◌<◌, List, map, length, replicate, Some, slice_index_or}
use Rattle.std.specs.List.{range_with_len}
use Rattle.toeplitz.specs.Bucket.{bucket_hash}
use Rattle.toeplitz.specs.declared.key.Key.{Key}
use Rattle.bucket_table.specs.Table.{TableOf, empty_table}
use Rattle.packet_pool.specs.LocalPool.{filled}
use Rattle.core_queue.specs.Local.{LocalState, new_lane}
use Rattle.handover_words.specs.ShelfHistory as shelves
use Rattle.handover_words.specs.LocalShelf.{LocalView}
use Rattle.load_meter.specs.LocalMeter.{at_zero}
use Rattle.worker_loop.specs.WorkerState.{WorkerView}
use Rattle.worker_loop.specs.Fresh.{fresh_worker}
use Rattle.rsspp_run.specs.LocalRun.{LocalRunView, worker_at, lane_at}

-- so many new workers
pub record AreNewWorkers {T : Type 0} (key : Key) (buckets count : ℕ) (workers : List (WorkerView T)) : Type 0 where
  pub wide : length workers ≡ count
  pub each : (c : ℕ) → c < count → slice_index_or workers c (fresh_worker 0 (bucket_hash key 0)) ≡ fresh_worker c (bucket_hash key buckets)

-- so many new lanes
pub record AreNewLanes (key : Key) (buckets room count : ℕ) (lanes : List LocalState) : Type 0 where
  pub wide : length lanes ≡ count
  pub each : (c : ℕ) → c < count → slice_index_or lanes c (new_lane key 0 0) ≡ new_lane key buckets room

-- the shelf as it is made
abbrev pub first_shelf : (S : Type 0) → Key → ℕ → LocalView (TableOf S)
first_shelf S key n = record { words = replicate n 1; homes = map (λ b. Some (empty_table b)) (range_with_len 0 n); history = shelves.fresh key n 1 }

-- all that is made at the opening, for so many buckets, cores and cells
pub record IsNew {S : Type 0} (key : Key) (buckets cores pool : ℕ) (f : LocalRunView (TableOf S)) : Type 0 where
  pub key_is : f.key ≡ key
  pub wide : length f.workers ≡ cores
  pub workers : (c : ℕ) → c < cores → worker_at f c ≡ fresh_worker c (bucket_hash key buckets)
  pub lanes_wide : length f.lanes ≡ cores
  pub lanes : (c : ℕ) → c < cores → lane_at f c ≡ new_lane key buckets (pool + 1)
  pub shelf : f.shelf ≡ first_shelf S key buckets
  pub pool_is : f.pool ≡ filled pool
  pub meter : f.meter ≡ at_zero cores
