-- New workers over new ends, and a new dispatcher, are the first state of a serial run.
use Rattle.std.proofs.Common.{zero, suc, ◌≡◌, ℕ, ◌+◌, ◌<◌, List, [], ◌∷◌, ◌++◌, map, length, length-append, get_or, Some, refl, sym, ap, ◌∙◌, subst, arith}
use Rattle.std.specs.Prelude.{replicate}
use Rattle.std.proofs.lemmas.List.{length-map, length-replicate, get_or-replicate}
use Rattle.toeplitz.specs.Bucket.{bucket_hash}
use Rattle.toeplitz.specs.declared.key.Key.{Key}
use Rattle.bucket_table.specs.Table.{TableOf}
use Rattle.indirection.specs.Story.{Parcel}
use Rattle.handover_core.specs.Runs.{IsMade}
use Rattle.handover_core.proofs.First.{first-sound}
use Rattle.packet_pool.specs.LocalPool.{filled}
use Rattle.core_queue.specs.Local.{LocalState, new_lane}
use Rattle.core_queue.specs.NewHistory.{new_history}
use Rattle.handover_words.specs.ShelfHistory as shelves
use Rattle.handover_words.specs.LocalShelf.{LocalView}
use Rattle.load_meter.specs.LocalMeter.{at_zero}
use Rattle.worker_loop.specs.Workload.{Workload}
use Rattle.worker_loop.specs.WorkerState.{WorkerView}
use Rattle.worker_loop.specs.Fresh.{fresh_worker}
use Rattle.worker_loop.proofs.CustodyLogs.{fresh_stinted}
use Rattle.worker_loop.proofs.FirstShown.{first_shown}
use Rattle.worker_loop.proofs.Starts.{tied_new}
use Rattle.rsspp_run.specs.Serial.{Setting, Side, new_side, side_at, begins}
use Rattle.std.proofs.lemmas.Bool.{le-ltb}
use Rattle.handover_core.specs.State.{blank_bucket}
use Rattle.dispatch_loop.specs.Terms.{Terms, rules_of}
use Rattle.dispatch_loop.specs.Fresh as dispatchers
use Rattle.rsspp_run.specs.DispatcherOf.{IsDispatcherOf, fresh_in}
use Rattle.dispatch_loop.specs.OptionsView.{OptionsView}
use Rattle.rsspp_run.specs.Opening.{first_shelf, IsNew, AreNewWorkers, AreNewLanes}
use Rattle.rsspp_run.specs.LocalRun.{LocalRunView, worker_at, lane_at, IsWorkerBy, AreWorkersAt}

module _ {S : Type 0} (x : Workload S) (j : Setting) (key : Key) (f : LocalRunView (TableOf S)) (new : IsNew key (length j.rules.start) j.rules.cores j.pool f)
    (made : IsMade j.rules.start j.rules.cores (map (λ (p : Parcel). p.bucket) j.parcels) j.pool) where
  n : ℕ
  n = length j.rules.start

  one_begins : (c : ℕ) → c < j.rules.cores → IsWorkerBy x (begins j) c (worker_at f c) (lane_at f c) f.shelf f.meter
  one_begins c near =
      let side : side_at (begins j) c ≡ new_side = get_or-replicate j.rules.cores c new_side new_side near in
      subst (λ (y : WorkerView (TableOf S) × LocalState × LocalView (TableOf S) × Rattle.load_meter.specs.LocalMeter.MeterState). IsWorkerBy x (begins j) c y.0 y.1 y.2 y.3) (λ i. (sym (new.workers c near) i, sym (new.lanes c near) i, sym new.shelf i, sym new.meter i))
      (record {
        tied = tied_new x c (bucket_hash key (length j.rules.start)) (new_history key (length j.rules.start)) (shelves.fresh key (length j.rules.start) 1) (Rattle.load_meter.specs.LoadHistory.fresh j.rules.cores)
            (record { lane_key = refl; lane_buckets = refl; taken = refl; shelf_key = refl; shelf_buckets = refl; in_range = near; noted = refl });
        shows = first_shown j.rules.start (map (λ (p : Parcel). p.bucket) j.parcels) j.rules.cores j.pool (length j.parcels) c key (j.pool + 1) (shelves.fresh key (length j.rules.start) 1) (Rattle.load_meter.specs.LoadHistory.fresh j.rules.cores) (Some (replicate j.rules.cores 0)) near;
        kept = refl;
        line = ap (λ (s : Side). s.line) side;
        log = λ still. ap (λ (s : Side). s.log) side;
        told = record { loads = replicate j.rules.cores 0; is = refl; core = (let l : length (replicate {A = ℕ} j.rules.cores 0) ≡ j.rules.cores = length-replicate j.rules.cores 0 in omega arith); number = get_or-replicate j.rules.cores c 0 0 near };
        sent = refl;
        order = refl;
        spans = λ still. fresh_stinted c (bucket_hash key (length j.rules.start));
        entries = tt;
      })

  pub workers_begin : AreWorkersAt x (begins j) f
  workers_begin =
      let many : length (begins j).machine.cores ≡ j.rules.cores = length-replicate j.rules.cores _ in
      record {
        sound = first-sound j.rules.start j.rules.cores (map (λ (p : Parcel). p.bucket) j.parcels) j.pool (length j.parcels) made;
        workers = new.wide ∙ sym many;
        lanes = new.lanes_wide ∙ sym many;
        sides = length-replicate j.rules.cores new_side ∙ sym many;
        free = ap (λ (p : Rattle.packet_pool.specs.LocalPool.PoolState). p.cells) new.pool_is;
        room = ap (λ (p : Rattle.packet_pool.specs.LocalPool.PoolState). p.room) new.pool_is;
        each = λ c lt. one_begins c (omega arith);
      }

-- nothing is fresh where nothing was sent
none_fresh : (n : ℕ) → fresh_in (replicate n 0) (replicate n 0) ≡ 0
none_fresh zero = refl
none_fresh (suc n) = let ih = none_fresh n in omega arith

owner_first : (owners : List ℕ) (b : ℕ) → b < length owners → (get_or (map (λ o. record { owner = o; start = 0; seen = 0; word = 1; shelf = Some 0 }) owners) b blank_bucket).owner ≡ get_or owners b 0
owner_first [] b lt = absurd (omega arith)
owner_first (o ∷ os) zero lt = refl
owner_first (o ∷ os) (suc b) lt = owner_first os b (omega arith)

start_first : (owners : List ℕ) (b : ℕ) → (get_or (map (λ o. record { owner = o; start = 0; seen = 0; word = 1; shelf = Some 0 }) owners) b blank_bucket).start ≡ 0
start_first [] b = refl
start_first (o ∷ os) zero = refl
start_first (o ∷ os) (suc b) = start_first os b

-- the dispatcher at its start
pub dispatcher_begins : (t : Terms) (pool : ℕ) (ps : List Parcel) → IsDispatcherOf (begins (record { rules = rules_of t; pool = pool; parcels = ps })).machine (dispatchers.fresh_dispatcher_state t)
dispatcher_begins t pool ps =
    let size : length (begins (record { rules = rules_of t; pool = pool; parcels = ps })).machine.buckets ≡ length t.start.owners = length-map t.start.owners _ in
    let zeros : length (replicate {A = ℕ} (length t.start.owners) 0) ≡ length t.start.owners = length-replicate (length t.start.owners) 0 in
    record {
      cores = length-replicate t.start.cores _;
      buckets = size;
      wide_owners = sym size;
      wide_starts = zeros ∙ sym size;
      wide_counts = zeros ∙ sym size;
      sent = refl;
      owners = λ b lt. owner_first t.start.owners b (omega arith);
      starts = λ b lt. start_first t.start.owners b ∙ sym (get_or-replicate (length t.start.owners) b 0 0 (omega arith));
      counts = λ b lt. sym (get_or-replicate (length t.start.owners) b 0 0 (omega arith));
      ends = λ c lt. sym (le-ltb c 0 (omega arith));
      ending = sym (le-ltb 0 0 (omega arith));
      spare = refl;
      moves = let f = none_fresh (length t.start.owners) in let l : length (begins (record { rules = rules_of t; pool = pool; parcels = ps })).machine.packets ≡ length ps = length-map ps _ in omega arith;
    }

-- one more of a list whose items are told one by one
one_more : {A : Type 0} (want : ℕ → A) (xs ys : List A) (x z : A) → ys ≡ xs ++ x ∷ [] → ((c : ℕ) → c < length xs → get_or xs c z ≡ want c) → x ≡ want (length xs) → (c : ℕ) → c < length xs + 1 → get_or ys c z ≡ want c
one_more {A} want xs ys x z is each new c lt = subst (λ (l : List A). get_or l c z ≡ want c) (sym is) (by want xs c each new lt) where
  by : (want : ℕ → A) (xs : List A) (c : ℕ) → ((c : ℕ) → c < length xs → get_or xs c z ≡ want c) → x ≡ want (length xs) → c < length xs + 1 → get_or (xs ++ x ∷ []) c z ≡ want c
  by want [] zero each new lt = new
  by want [] (suc c) each new lt = absurd (omega arith)
  by want (w ∷ ws) zero each new lt = each 0 (omega arith)
  by want (w ∷ ws) (suc c) each new lt = by (λ k. want (suc k)) ws c (λ k l. each (suc k) (omega arith)) new (omega arith)

pub more_workers : {T : Type 0} (key : Key) (buckets count : ℕ) (xs ys : List (WorkerView T)) (x : WorkerView T) → AreNewWorkers key buckets count xs → ys ≡ xs ++ x ∷ [] → x ≡ fresh_worker count (bucket_hash key buckets) → AreNewWorkers key buckets (count + 1) ys
more_workers key buckets count xs ys x h is new =
    let wide = h.wide in record {
      wide = ap length is ∙ (length-append xs (x ∷ []) ∙ ap (λ n. n + 1) h.wide);
      each = λ c lt. one_more (λ k. fresh_worker k (bucket_hash key buckets)) xs ys x (fresh_worker 0 (bucket_hash key 0)) is (λ k l. h.each k (omega arith)) (new ∙ ap (λ k. fresh_worker k (bucket_hash key buckets)) (sym h.wide)) c (omega arith);
    }

pub more_lanes : (key : Key) (buckets room count : ℕ) (xs ys : List LocalState) (x : LocalState) → AreNewLanes key buckets room count xs → ys ≡ xs ++ x ∷ [] → x ≡ new_lane key buckets room → AreNewLanes key buckets room (count + 1) ys
more_lanes key buckets room count xs ys x h is new =
    let wide = h.wide in record {
      wide = ap length is ∙ (length-append xs (x ∷ []) ∙ ap (λ n. n + 1) h.wide);
      each = λ c lt. one_more (λ k. new_lane key buckets room) xs ys x (new_lane key 0 0) is (λ k l. h.each k (omega arith)) new c (omega arith);
    }

-- all of it together, for as many buckets as the table has
pub new_crew : {S : Type 0} (key : Key) (buckets asked cores pool : ℕ) (f : LocalRunView (TableOf S)) → asked ≡ buckets → f.key ≡ key → AreNewWorkers key asked cores f.workers → AreNewLanes key asked (pool + 1) cores f.lanes → f.shelf ≡ first_shelf S key asked → f.pool ≡ filled pool → f.meter ≡ at_zero cores → IsNew key buckets cores pool f
new_crew {S} key buckets asked cores pool f same key_is workers lanes shelf pool_is meter = subst (λ (n : ℕ). IsNew key n cores pool f) same (record {
  key_is = key_is;
  wide = workers.wide;
  workers = λ c lt. ap (λ (z : Key). get_or f.workers c (fresh_worker 0 (bucket_hash z 0))) key_is ∙ workers.each c lt;
  lanes_wide = lanes.wide;
  lanes = λ c lt. ap (λ (z : Key). get_or f.lanes c (new_lane z 0 0)) key_is ∙ lanes.each c lt;
  shelf = shelf;
  pool_is = pool_is;
  meter = meter;
})

pub new_for : {S : Type 0} (o u : OptionsView) (asked : ℕ) (f : LocalRunView (TableOf S)) → o ≡ u → asked ≡ length o.start.owners → f.key ≡ o.key → AreNewWorkers o.key asked o.cores f.workers → AreNewLanes o.key asked (o.pool + 1) o.cores f.lanes → f.shelf ≡ first_shelf S o.key asked → f.pool ≡ filled o.pool → f.meter ≡ at_zero o.cores → IsNew u.key (length u.start.owners) u.cores u.pool f
new_for o u asked f is same key workers lanes shelf pool meter = subst (λ (z : OptionsView). IsNew z.key (length z.start.owners) z.cores z.pool f) is (new_crew o.key (length o.start.owners) asked o.cores o.pool f same key workers lanes shelf pool meter)
