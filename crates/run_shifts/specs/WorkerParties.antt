-- What a shift of a core is given and gives back.
use Rattle.std.specs.Prelude.{◌≡◌, ℕ, true, List, Some, slice_get}
use Rattle.bucket_table.specs.Table.{TableOf}
use Rattle.core_queue.specs.RuledLane.{SharedLane}
use Rattle.toeplitz.specs.Bucket.{bucket_hash}
use Rattle.worker_loop.specs.Workload.{Workload}
use Rattle.worker_loop.specs.WorkerState.{WorkerView}
use Rattle.run_shifts.specs.Work.{IsAtWork, IsDone}
use Rattle.run_shifts.specs.Parties.{SharedView}
use Rattle.run_shifts.specs.declared.worker_party.WorkerParty.{WorkerParty}

-- its passes and seats are of these objects, of its core's lane among them; its worker is of the shelf's run, is at work with what they know, and has ended where the party says so
pub record IsWorkerParty {S : Type 0} (j : Workload S) (o : SharedView) (p : WorkerParty (WorkerView (TableOf S)) (TableOf S)) : Type 0 where
  pub core : p.worker.state.core ≡ p.core
  pub run : p.worker.state.run ≡ bucket_hash o.shelf.run.key o.shelf.run.buckets
  pub lane : SharedLane
  pub lane_is : slice_get o.lanes p.core ≡ Some lane
  pub taker : p.taker.home ≡ lane.home
  pub seat : p.seat.home ≡ o.shelf.home
  pub load : p.load.home ≡ o.meter.home
  pub cells : p.cells.home ≡ o.pool.home
  pub work : IsAtWork j p.worker.state p.taker.history p.seat.history p.load.history
  pub done : p.ended ≡ true → IsDone p.worker.state p.taker.history p.seat.history

-- the parties of the cores from 0 on
abbrev pub AreWorkerParties : {S : Type 0} → Workload S → SharedView → List (WorkerParty (WorkerView (TableOf S)) (TableOf S)) → Type 0
AreWorkerParties {S} j o ps = (c : ℕ) (p : WorkerParty (WorkerView (TableOf S)) (TableOf S)) → slice_get ps c ≡ Some p → (p.core ≡ c) × IsWorkerParty j o p

-- each of them has ended
abbrev pub HaveEnded : {K T : Type 0} → List (WorkerParty K T) → Type 0
HaveEnded {K} {T} ps = (c : ℕ) (p : WorkerParty K T) → slice_get ps c ≡ Some p → p.ended ≡ true
