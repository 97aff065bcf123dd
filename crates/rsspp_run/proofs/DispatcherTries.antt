-- What is tried at a bucket, as events of the machine, over what all share.
use Rattle.std.proofs.Common.{◌≡◌, ◌≢◌, ℕ, ◌+◌, ◌*◌, ◌<◌, Bool, true, false, not, eqb, ltb, if◌then◌else◌, [], ◌∷◌, length, get_or, set, Option, Some, None, refl, sym, ap, ◌∙◌, subst, arith, lt-ltb, eq-eqb, ne_eqb, length-set, get_or-set_same}
use Rattle.std.specs.Prelude.{slice_index}
use Rattle.bucket_table.specs.Table.{TableOf}
use Rattle.indirection.specs.declared.outcome.Outcome.TheVariants.{Moved, Placed, Same, InPassage}
use Rattle.indirection.specs.Tries.{Ask, ask_bucket, ask_to}
use Rattle.indirection.specs.Story.{Tries}
use Rattle.handover_core.specs.declared.item.Kind.TheVariants.{Mark}
use Rattle.handover_core.specs.declared.item.Item.TheVariants.{Of}
use Rattle.handover_core.specs.declared.bucket_state.BucketState.{BucketState}
use Rattle.handover_core.specs.declared.event.Event.{Event}
use Rattle.handover_core.specs.declared.event.Event.TheVariants.{Look, Move, Place}
use Rattle.handover_core.specs.State.{MachineView, blank_bucket, bucket_at, sent_of}
use Rattle.handover_core.specs.Machine.{enabled, end_sent, step}
use Rattle.core_queue.specs.declared.item.Seen.TheVariants.{Packet}
use Rattle.core_queue.specs.Cells.{plain}
use Rattle.handover_words.specs.declared.history.ShelfHistory.{ShelfHistory}
use Rattle.handover_words.specs.Stock.{Stock, stock}
use Rattle.load_meter.specs.LocalMeter.{MeterState}
use Rattle.packet_pool.specs.LocalPool.{PoolState}
use Rattle.worker_loop.specs.Workload.{Workload}
use Rattle.handover_core.specs.Machine.{posts_by}
use Rattle.dispatch_loop.specs.DispatcherState.{DispatcherState}
use Rattle.dispatch_loop.specs.Asks.{owner_at, start_at, count_at}
use Rattle.dispatch_loop.specs.Does.{GetsCell, SendsCell, Looks, mark_of}
use Rattle.rsspp_run.specs.Serial.{RunState, Deed, deed, tried}
use Rattle.rsspp_run.specs.LocalRun.{LocalRunView, lane_at, AreWorkersAt, IsDispatched, history_of, now_of}
use Rattle.rsspp_run.specs.DispatcherOf.{IsDispatcherOf, outs_of, IsSending}
use Rattle.rsspp_run.proofs.Lanes.{sent_nothing}
use Rattle.rsspp_run.proofs.Dispatchers.{dispatcher_look, dispatcher_place, dispatcher_move, move_left}
use Rattle.rsspp_run.proofs.DispatcherEvents.{stepped, event_stays}
use Rattle.rsspp_run.proofs.DispatcherTurns.{both_true, cell_sent, same_noted}

abbrev pub stock_or : {T : Type 0} → Option (Stock T) → Stock T
stock_or None = stock [] []
stock_or (Some s) = s

-- what is left where nothing was sent: lanes and pool, words and tables, and what was claimed and noted
pub record IsLooking {T : Type 0} (b word : ℕ) (f f' : LocalRunView T) : Type 0 where
  pub key : f'.key ≡ f.key
  pub workers : f'.workers ≡ f.workers
  pub meter : f'.meter ≡ f.meter
  pub looks : Looks b word f.shelf.history (Some (stock f.shelf.words f.shelf.homes)) f'.shelf.history (Some (stock f'.shelf.words f'.shelf.homes))

module _ {S : Type 0} (x : Workload S) (r : RunState) (d : DispatcherState) (f : LocalRunView (TableOf S)) (are : AreWorkersAt x r f) (dispatcher : IsDispatcherOf r.machine d) where
  -- the word of a bucket is the shelf's
  word_is : (c b : ℕ) → c < length r.machine.cores → b < length r.machine.buckets → (bucket_at r.machine b).word ≡ slice_index f.shelf.words b
  word_is c b near lt = let u = are.each c near in u.shows.words b lt ∙ ap (λ (o : Option (Stock (TableOf S))). slice_index (stock_or o).words b) (sym u.shows.stock_is)

  -- an event that sends nothing, over a local run in which a bucket was looked at, or nothing was done
  pub looking : (e : Event) (f' : LocalRunView (TableOf S)) → posts_by r.machine e ≡ [] → (step r.machine e).free ≡ r.machine.free → f'.key ≡ f.key → f'.workers ≡ f.workers → f'.lanes ≡ f.lanes → f'.pool ≡ f.pool → f'.meter ≡ f.meter
      → f'.shelf.words ≡ f.shelf.words → f'.shelf.homes ≡ f.shelf.homes → f'.shelf.history.held ≡ f.shelf.history.held → f'.shelf.history.key ≡ f.shelf.history.key → f'.shelf.history.buckets ≡ f.shelf.history.buckets → IsDispatched r.machine e f f'
  looking e f' posts free key workers lanes pool meter words homes held k bs = record {
    key = key;
    workers = workers;
    wide = ap length lanes;
    lanes = λ c lt. subst (λ ps. Rattle.rsspp_run.specs.LocalRun.IsLaneSent (Rattle.handover_core.specs.Dispatch.stream c ps) (lane_at f c) (lane_at f' c)) (sym posts)
        (sent_nothing (lane_at f c) (lane_at f' c) (λ i. get_or (lanes i) c (Rattle.core_queue.specs.Local.new_lane (key i) 0 0)));
    claims = record { held = held; key = k; buckets = bs };
    words = words;
    homes = homes;
    loads = ap (λ (l : MeterState). l.loads) meter;
    noted = λ c. same_noted c f.meter f'.meter meter;
    free = ap (λ (p : PoolState). p.cells) pool ∙ (are.free ∙ sym free);
    room = ap (λ (p : PoolState). p.room) pool;
  }

  -- a look at a bucket
  look_stays : (b : ℕ) → b < length r.machine.buckets → AreWorkersAt x (stepped r (Look b)) f
  look_stays b near = event_stays x r (Look b) f f are (λ w. w) (lt-ltb _ _ near) (looking (Look b) f refl refl refl refl refl refl refl refl refl refl refl refl)

  module _ (b to : ℕ) (near : b < length r.machine.buckets) (core : to < length r.machine.cores) where
    looked_at : MachineView
    looked_at = step r.machine (Look b)

    here : bucket_at (step r.machine (Look b)) b ≡ record (bucket_at r.machine b) { seen = (bucket_at r.machine b).word }
    here = get_or-set_same r.machine.buckets b _ blank_bucket near

    -- a bucket that was met with the word of its stint's claim is moved
    pub may_move : to ≢ owner_at d b → start_at d b < count_at d b → (bucket_at r.machine b).word ≡ 2 * start_at d b + 2 → 0 < r.machine.free → 0 < r.machine.moves → end_sent r.machine ≡ false → enabled (step r.machine (Look b)) (Move b to) ≡ true
    may_move ne fresh word free moves ending =
        let wide = length-set r.machine.buckets b (record (bucket_at r.machine b) { seen = (bucket_at r.machine b).word }) in
        let owner = dispatcher.owners b near in let start = dispatcher.starts b near in let count = dispatcher.counts b near in
        both_true _ _ (lt-ltb _ _ (omega arith)) (both_true _ _ (lt-ltb _ _ core)
        (both_true _ _ (ap (λ (s : BucketState). not (eqb to s.owner)) here ∙ ap not (ne_eqb to (bucket_at r.machine b).owner (λ e. ne (e ∙ owner))))
        (both_true _ _ (ap (λ (s : BucketState). ltb s.start (sent_of r.machine b)) here ∙ lt-ltb _ _ (omega arith))
        (both_true _ _ (ap (λ (s : BucketState). eqb s.seen (2 * s.start + 2)) here ∙ eq-eqb _ _ (omega arith))
        (both_true _ _ (lt-ltb 0 r.machine.free free) (both_true _ _ (lt-ltb 0 r.machine.moves moves) (ap not ending)))))))

    pub may_place : to ≢ owner_at d b → count_at d b ≡ 0 → end_sent r.machine ≡ false → enabled r.machine (Place b to) ≡ true
    may_place ne none ending = let count = dispatcher.counts b near in let owner = dispatcher.owners b near in
        both_true _ _ (lt-ltb _ _ near) (both_true _ _ (lt-ltb _ _ core) (both_true _ _ (ap not (ne_eqb to (bucket_at r.machine b).owner (λ e. ne (e ∙ owner))))
        (both_true _ _ (eq-eqb (sent_of r.machine b) 0 (omega arith)) (ap not ending))))

    -- Placed is a Place
    pub placed : (f' : LocalRunView (TableOf S)) → to ≢ owner_at d b → count_at d b ≡ 0 → end_sent r.machine ≡ false → f' ≡ f → AreWorkersAt x (stepped r (Place b to)) f' × IsDispatcherOf (step r.machine (Place b to)) (record d { owners = set d.owners b to })
    placed f' ne none ending same = (
      subst (AreWorkersAt x (stepped r (Place b to))) (sym same) (event_stays x r (Place b to) f f are (λ w. w) (may_place ne none ending) (looking (Place b to) f refl refl refl refl refl refl refl refl refl refl refl refl)),
      dispatcher_place r.machine d dispatcher b to near,
    )

    -- InPassage with a word is a Look
    pub passed : (f' : LocalRunView (TableOf S)) (word : ℕ) → IsLooking b word f f' → f'.lanes ≡ f.lanes → f'.pool ≡ f.pool → AreWorkersAt x (stepped r (Look b)) f' × IsDispatcherOf (step r.machine (Look b)) d × ((bucket_at r.machine b).word ≡ word)
    passed f' word is lanes pool =
        let same : stock f'.shelf.words f'.shelf.homes ≡ stock f.shelf.words f.shelf.homes = ap stock_or is.looks.1.1 in
        let did = looking (Look b) f' refl refl is.key is.workers lanes pool is.meter (ap (λ (k : Stock (TableOf S)). k.words) same) (ap (λ (k : Stock (TableOf S)). k.homes) same)
        (ap (λ (e : ShelfHistory). e.held) is.looks.0) (ap (λ (e : ShelfHistory). e.key) is.looks.0) (ap (λ (e : ShelfHistory). e.buckets) is.looks.0) in
        (event_stays x r (Look b) f f' are (λ w. w) (lt-ltb _ _ near) did, dispatcher_look r.machine d dispatcher b near, word_is to b core near ∙ is.looks.1.0)

    -- Moved is a Look and a Move
    pub moved : (d' : DispatcherState) (f' : LocalRunView (TableOf S)) → to ≢ owner_at d b → start_at d b < count_at d b → end_sent r.machine ≡ false → IsLooking b (2 * start_at d b + 2) f (record f { shelf = f'.shelf }) → SendsCell d.spare (owner_at d b) (mark_of d b) (outs_of f) (outs_of f')
        → owner_at d b < length r.machine.cores → f'.key ≡ f.key → f'.workers ≡ f.workers → f'.meter ≡ f.meter
        → AreWorkersAt x (stepped (stepped r (Look b)) (Move b to)) f' × IsDispatcherOf (step (step r.machine (Look b)) (Move b to)) (record d { owners = set d.owners b to; starts = set d.starts b (count_at d b) }) × (0 < r.machine.free)
    moved d' f' ne fresh ending is sends owned key workers meter =
        let f1 : LocalRunView (TableOf S) = record f { shelf = f'.shelf } in
        let p = passed f1 (2 * start_at d b + 2) is refl refl in
        let cell = subst (λ (t : Bool). GetsCell t (outs_of f).pool (outs_of f).pool_now (outs_of f').pool (outs_of f').pool_now) dispatcher.spare sends.cell in
        let some = cell.1 in let free = are.free in let many : 0 < r.machine.free = omega arith in
        let moves = move_left r.machine d dispatcher b near fresh in
        let r1 = stepped r (Look b) in
        let n = step r.machine (Look b) in
        let wide : length n.buckets ≡ length r.machine.buckets = length-set r.machine.buckets b (record (bucket_at r.machine b) { seen = (bucket_at r.machine b).word }) in
        let near' : b < length n.buckets = omega arith in
        let posts : posts_by n (Move b to) ≡ record { core = owner_at d b; item = plain (Packet (mark_of d b)) } ∷ [] =
        (λ i. record { core = (here i).owner; item = Of Mark b (sent_of r.machine b) } ∷ []) ∙ (λ i. record { core = dispatcher.owners b near i; item = Of Mark b (dispatcher.counts b near i) } ∷ []) in
        let sending : IsSending f1 f' = record { key = key; workers = workers; shelf = refl; meter = meter } in
        let did = cell_sent x r1 d d' f1 f' p.0 p.1 sending (Move b to) (owner_at d b) (Packet (mark_of d b)) posts owned refl sends.pushes cell.2 in
        (event_stays x r1 (Move b to) f1 f' p.0 (λ w. w) (may_move ne fresh p.2 many moves ending) did, dispatcher_move n d p.1 b to (count_at d b) near' (sym (dispatcher.counts b near)) fresh, many)

-- what is tried, by its outcome

abbrev choose : Bool → Bool → Bool → Bool → Bool → Deed → Deed → Deed → Deed → Deed → Deed → Deed
choose same none start claimed free a b c d e f = if same then a else (if none then b else (if start then c else (if claimed then (if free then d else e) else f)))

module _ (m : MachineView) (a : Ask) where
  at : BucketState
  at = bucket_at m (ask_bucket a)

  by_tests : (same none start claimed free : Bool) → eqb (bucket_at m (ask_bucket a)).owner (ask_to a) ≡ same → eqb (sent_of m (ask_bucket a)) 0 ≡ none → eqb (sent_of m (ask_bucket a)) (bucket_at m (ask_bucket a)).start ≡ start
      → eqb (bucket_at m (ask_bucket a)).word (2 * (bucket_at m (ask_bucket a)).start + 2) ≡ claimed → ltb 0 m.free ≡ free
      → tried m a ≡ choose same none start claimed free (deed [] (Tries a Same ∷ [])) (deed (Place (ask_bucket a) (ask_to a) ∷ []) (Tries a Placed ∷ []))
      (deed [] (Tries a (InPassage (bucket_at m (ask_bucket a)).start (sent_of m (ask_bucket a)) None) ∷ []))
      (deed (Look (ask_bucket a) ∷ Move (ask_bucket a) (ask_to a) ∷ []) (Tries a (Moved (sent_of m (ask_bucket a))) ∷ []))
      (deed (Look (ask_bucket a) ∷ []) [])
      (deed (Look (ask_bucket a) ∷ []) (Tries a (InPassage (bucket_at m (ask_bucket a)).start (sent_of m (ask_bucket a)) (Some (bucket_at m (ask_bucket a)).word)) ∷ []))
  by_tests same none start claimed free p q u v w = λ i. choose (p i) (q i) (u i) (v i) (w i) (deed [] (Tries a Same ∷ [])) (deed (Place (ask_bucket a) (ask_to a) ∷ []) (Tries a Placed ∷ []))
      (deed [] (Tries a (InPassage (bucket_at m (ask_bucket a)).start (sent_of m (ask_bucket a)) None) ∷ []))
      (deed (Look (ask_bucket a) ∷ Move (ask_bucket a) (ask_to a) ∷ []) (Tries a (Moved (sent_of m (ask_bucket a))) ∷ []))
      (deed (Look (ask_bucket a) ∷ []) [])
      (deed (Look (ask_bucket a) ∷ []) (Tries a (InPassage (bucket_at m (ask_bucket a)).start (sent_of m (ask_bucket a)) (Some (bucket_at m (ask_bucket a)).word)) ∷ []))

  pub tried_same : (bucket_at m (ask_bucket a)).owner ≡ ask_to a → tried m a ≡ deed [] (Tries a Same ∷ [])
  tried_same p = by_tests true _ _ _ _ (eq-eqb _ _ p) refl refl refl refl

  pub tried_placed : (bucket_at m (ask_bucket a)).owner ≢ ask_to a → sent_of m (ask_bucket a) ≡ 0 → tried m a ≡ deed (Place (ask_bucket a) (ask_to a) ∷ []) (Tries a Placed ∷ [])
  tried_placed p q = by_tests false true _ _ _ (ne_eqb _ _ p) (eq-eqb _ _ q) refl refl refl

  pub tried_stale : (bucket_at m (ask_bucket a)).owner ≢ ask_to a → sent_of m (ask_bucket a) ≢ 0 → sent_of m (ask_bucket a) ≡ (bucket_at m (ask_bucket a)).start → tried m a ≡ deed [] (Tries a (InPassage (bucket_at m (ask_bucket a)).start (sent_of m (ask_bucket a)) None) ∷ [])
  tried_stale p q u = by_tests false false true _ _ (ne_eqb _ _ p) (ne_eqb _ _ q) (eq-eqb _ _ u) refl refl

  module _ (p : (bucket_at m (ask_bucket a)).owner ≢ ask_to a) (q : sent_of m (ask_bucket a) ≢ 0) (u : sent_of m (ask_bucket a) ≢ (bucket_at m (ask_bucket a)).start) where
    pub tried_moved : (bucket_at m (ask_bucket a)).word ≡ 2 * (bucket_at m (ask_bucket a)).start + 2 → 0 < m.free → tried m a ≡ deed (Look (ask_bucket a) ∷ Move (ask_bucket a) (ask_to a) ∷ []) (Tries a (Moved (sent_of m (ask_bucket a))) ∷ [])
    tried_moved v w = by_tests false false false true true (ne_eqb _ _ p) (ne_eqb _ _ q) (ne_eqb _ _ u) (eq-eqb _ _ v) (lt-ltb 0 m.free w)

    pub tried_late : (bucket_at m (ask_bucket a)).word ≡ 2 * (bucket_at m (ask_bucket a)).start + 2 → m.free ≡ 0 → tried m a ≡ deed (Look (ask_bucket a) ∷ []) []
    tried_late v w = by_tests false false false true false (ne_eqb _ _ p) (ne_eqb _ _ q) (ne_eqb _ _ u) (eq-eqb _ _ v) (ap (λ n. ltb 0 n) w)

    pub tried_passing : (bucket_at m (ask_bucket a)).word ≢ 2 * (bucket_at m (ask_bucket a)).start + 2
        → tried m a ≡ deed (Look (ask_bucket a) ∷ []) (Tries a (InPassage (bucket_at m (ask_bucket a)).start (sent_of m (ask_bucket a)) (Some (bucket_at m (ask_bucket a)).word)) ∷ [])
    tried_passing v = by_tests false false false false _ (ne_eqb _ _ p) (ne_eqb _ _ q) (ne_eqb _ _ u) (ne_eqb _ _ v) refl
