-- A new worker with its first passes and seats.
use Rattle.std.proofs.Common.{◌≡◌, ℕ, ◌<◌, false, List, Some, refl, sym, ap, ◌∙◌, subst}
use Rattle.std.specs.Prelude.{slice_get}
use Rattle.toeplitz.specs.Bucket.{bucket_hash}
use Rattle.toeplitz.specs.declared.key.Key.{Key}
use Rattle.bucket_table.specs.Table.{TableOf}
use Rattle.core_queue.specs.declared.history.LaneHistory.{LaneHistory}
use Rattle.core_queue.specs.NewHistory.{new_history}
use Rattle.core_queue.specs.RuledLane.{AtLane}
use Rattle.packet_pool.specs.RuledPool.{AtPool}
use Rattle.handover_words.specs.declared.history.ShelfHistory.{ShelfHistory}
use Rattle.handover_words.specs.ShelfHistory.{fresh}
use Rattle.handover_words.specs.WordShelf.{AtShelf}
use Rattle.load_meter.specs.declared.history.LoadHistory.{LoadHistory}
use Rattle.load_meter.specs.LoadHistory as loads
use Rattle.load_meter.specs.LoadHistory.{noted_at}
use Rattle.load_meter.specs.Meter.{AtMeter}
use Rattle.worker_loop.specs.WorkerState.{WorkerState, WorkerView}
use Rattle.worker_loop.specs.Fresh.{fresh_worker_state, fresh_worker}
use Rattle.worker_loop.specs.Workload.{Workload}
use Rattle.worker_loop.proofs.CustodyLogs.{fresh_stinted}
use Rattle.worker_loop.proofs.Starts.{tied_new}
use Rattle.run_shifts.specs.Parties.{SharedView}
use Rattle.run_shifts.specs.WorkerParties.{IsWorkerParty}
use Rattle.run_shifts.specs.Work.{IsAtWork}
use Rattle.threaded_run.specs.Opening.{IsNewTaker}
use Rattle.threaded_run.specs.PartyLists.{new_pass, new_passes}
use Rattle.threaded_run.proofs.Lists.{at_map}

module _ {S : Type 0} (j : Workload S) (core : ℕ) (key : Key) (buckets : ℕ) where
  -- before its first turn
  first_work : (load : LoadHistory) → core < load.cores → noted_at core load ≡ 0 → IsAtWork j (fresh_worker_state core (bucket_hash key buckets)) (new_history key buckets) (fresh key buckets 1) load
  first_work load near none = record {
    tied = tied_new j core (bucket_hash key buckets) (new_history key buckets) (fresh key buckets 1) load (record { lane_key = refl; lane_buckets = refl; taken = refl; shelf_key = refl; shelf_buckets = refl; in_range = near; noted = none });
    share = refl;
    held = λ b place h. absurd h;
    logged = λ fine. refl;
    seat = fresh_stinted core (bucket_hash key buckets);
    log = λ fine. fresh_stinted core (bucket_hash key buckets);
    entries = tt;
  }

  pub new_work : (w : WorkerState (TableOf S)) (lane : LaneHistory) (shelf : ShelfHistory) (load : LoadHistory) (cores : ℕ) → w ≡ fresh_worker_state core (bucket_hash key buckets) → lane ≡ new_history key buckets → shelf ≡ fresh key buckets 1 → load ≡ loads.fresh cores → core < cores → IsAtWork j w lane shelf load
  new_work w lane shelf load cores wi li si mi near =
      subst (λ (z : WorkerState (TableOf S) × LaneHistory × ShelfHistory × LoadHistory). IsAtWork j z.0 z.1 z.2 z.3) (λ i. (sym wi i, sym li i, sym si i, sym mi i)) (first_work (loads.fresh cores) near refl)

pub new_worker_party : {S : Type 0} (j : Workload S) (o : SharedView) (core : ℕ) (w : WorkerView (TableOf S)) (t : AtLane) (s : AtShelf) (m : AtMeter) (q : AtPool)
    → w ≡ fresh_worker core (bucket_hash o.shelf.run.key o.shelf.run.buckets) → IsNewTaker o core t → s ≡ record { home = o.shelf.home; history = fresh o.shelf.run.key o.shelf.run.buckets 1 } → m ≡ record { home = o.meter.home; history = loads.fresh o.meter.cores }
    → core < o.meter.cores → q.home ≡ o.pool.home → IsWorkerParty j o (record { core = core; worker = w; taker = t; seat = s; load = m; cells = q; ended = false })
new_worker_party {S} j o core w t s m q wi ti si mi near of_pool = record {
  core = ap (λ (v : WorkerView (TableOf S)). v.state.core) wi;
  run = ap (λ (v : WorkerView (TableOf S)). v.state.run) wi;
  lane = ti.lane;
  lane_is = ti.lane_is;
  taker = ti.home;
  seat = ap (λ (a : AtShelf). a.home) si;
  load = ap (λ (a : AtMeter). a.home) mi;
  cells = of_pool;
  work = new_work j core o.shelf.run.key o.shelf.run.buckets w.state t.history s.history m.history o.meter.cores (ap (λ (v : WorkerView (TableOf S)). v.state) wi) ti.history (ap (λ (a : AtShelf). a.history) si) (ap (λ (a : AtMeter). a.history) mi) near;
  done = λ e. absurd (cc);
}

-- each pass of new lanes is a new one of its core's lane
pub new_takers : (o : SharedView) (key : Key) (buckets : ℕ) (takers : List AtLane) → key ≡ o.shelf.run.key → buckets ≡ o.shelf.run.buckets → takers ≡ new_passes key buckets o.lanes → (c : ℕ) (t : AtLane) → slice_get takers c ≡ Some t → IsNewTaker o c t
new_takers o key buckets takers of_key of_buckets are c t at =
    let h = at_map (new_pass key buckets) o.lanes c t (ap (λ (l : List AtLane). slice_get l c) (sym are) ∙ at) in record {
      lane = h.0;
      lane_is = h.1;
      home = sym (ap (λ (a : AtLane). a.home) h.2);
      history = sym (ap (λ (a : AtLane). a.history) h.2) ∙ (λ i. new_history (of_key i) (of_buckets i));
    }
