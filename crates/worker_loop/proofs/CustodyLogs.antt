-- What a worker's log and its end of a shelf have of the custodies that its turns end.
use Rattle.std.proofs.Common.{◌≡◌, ℕ, ◌<◌, false, List, [], ◌∷◌, ◌++◌, map, reverse, length, get_or, replicate, Option, refl, sym, ap, ◌∙◌, subst, ⊎_elim, arith}
use Rattle.std.proofs.lemmas.List.{append-nil, map-append, reverse-append, get_or-replicate, get_or_past}
use Rattle.std.proofs.lemmas.Bool.{cases_lt}
use Rattle.bucket_table.specs.Table.{TableOf}
use Rattle.bucket_table.specs.declared.custody.Begun.{Begun}
use Rattle.bucket_table.specs.declared.custody.Custody.{Custody}
use Rattle.packet_pool.specs.declared.cell.Facts.{Facts}
use Rattle.core_queue.specs.declared.item.Seen.{Seen}
use Rattle.core_queue.specs.declared.item.Seen.TheVariants.{Packet, Close}
use Rattle.core_queue.specs.Cells.{plain}
use Rattle.parked_queue.specs.Parked.{cells_at, AllEmpty}
use Rattle.handover_words.specs.declared.history.ShelfHistory.{ShelfHistory}
use Rattle.handover_words.specs.declared.history.Stretch.{Stretch}
use Rattle.handover_words.specs.ShelfHistory.{saw, number}
use Rattle.handover_words.specs.Stock.{Stock}
use Rattle.worker_loop.specs.declared.slot.Slot.{Slot}
use Rattle.worker_loop.specs.declared.slot.Slot.TheVariants.{Away, Held, Leaving}
use Rattle.worker_loop.specs.declared.worker_turn.WorkerTurn.{WorkerTurn}
use Rattle.worker_loop.specs.declared.worker_turn.WorkerTurn.TheVariants.{Released, Claimed, Worked, Parked, Marked, EndTaken, Idle, Ended}
use Rattle.toeplitz.specs.declared.bucket_hash.BucketHash.{BucketHash}
use Rattle.worker_loop.specs.Workload.{Workload, custody}
use Rattle.worker_loop.specs.WorkerState.{WorkerState}
use Rattle.worker_loop.specs.Fresh.{fresh_worker_state}
use Rattle.worker_loop.specs.Chains.{cells_of}
use Rattle.worker_loop.specs.Tied.{Tied, slot_at}
use Rattle.worker_loop.specs.WorkerSnapshot.{WorkerSnapshot, AnsweredNotYet, NoneLeaves, NoneHeld, IsLeaving, IsHeld}
use Rattle.worker_loop.specs.Does.{SameLog, IsSame}
use Rattle.worker_loop.specs.Rules.{IsTurn, Acts, IsReleased}
use Rattle.worker_loop.specs.Shows.{from_of}
use Rattle.handover_core.specs.Spans.{Span, Spans, no_spans, last_span, spans_of, spans_in}
use Rattle.worker_loop.specs.Custodies.{cell_spans, ended_spans, in_hand, FitsSpans, AllHaveSpans, ended_at, ends_by, stretch_of, LogHasSpans, SeatHasSpans, AreEntries}
use Rattle.handover_core.specs.Spans.{spans_at}
use Rattle.handover_core.proofs.SpanStints.{stream_spans}
use Rattle.indirection.specs.JournalView.{JournalView}
use Rattle.indirection.specs.Story.{Parcel}
use Rattle.indirection.specs.Stints.{stints}
use Rattle.indirection.specs.Due.{Rules}
use Rattle.indirection.specs.Lawful.{IsLawfulSoFar}
use Rattle.handover_core.specs.Dispatch.{stream, dispatches}
use Rattle.worker_loop.proofs.CellSpans.{spans_plain}
use Rattle.worker_loop.proofs.CustodySteps.{turn_stinted}

-- the log has what the turns end, in their order, unless the worker is short
pub record LogsEnds {S : Type 0} (w w' : WorkerState (TableOf S)) (es : List Stretch) : Type 0 where
  pub was : w.short ≡ false
  pub log : map stretch_of w'.log ≡ map stretch_of w.log ++ es

module _ {S : Type 0} where
  same_log : (w w' : WorkerState (TableOf S)) → SameLog w w' → w'.short ≡ false → LogsEnds w w' []
  same_log w w' h fine = record { was = sym h.short ∙ fine; log = ap (map stretch_of) h.log ∙ sym (append-nil (map stretch_of w.log)) }

  -- refused claims end nothing
  refused_ended : (w : WorkerState (TableOf S)) (now : Option (Stock (TableOf S))) (bs : List ℕ) (e e' : ShelfHistory) → AnsweredNotYet w now bs e e' → e'.ended ≡ e.ended
  refused_ended w now [] e e' h = ap (λ (z : ShelfHistory). z.ended) h
  refused_ended w now (b ∷ bs) e e' h = refused_ended w now bs (saw b h.0 e) e' h.3

module _ {S : Type 0} (j : Workload S) (s t : WorkerSnapshot (TableOf S)) where
  ends_is : (b : ℕ) (r : IsReleased b s t) → ended_at b (slot_at b s.worker) ≡ record { bucket = b; from = r.does.from; to = r.does.table.done } ∷ []
  ends_is b r = ap (ended_at b) r.does.was ∙ ap (λ (o : Option Begun). record { bucket = b; from = from_of o; to = r.does.table.done } ∷ []) r.does.custody_is

  log_released : (b : ℕ) → IsReleased b s t → t.worker.short ≡ false → LogsEnds s.worker t.worker (ended_at b (slot_at b s.worker))
  log_released b r fine = ⊎_elim
      (λ h. record { was = sym h.1 ∙ fine; log = ap (map stretch_of) h.0 ∙ (map-append stretch_of s.worker.log _ ∙ ap (λ (z : List Stretch). map stretch_of s.worker.log ++ z) (sym (ends_is b r))) })
      (λ h. absurd (let e = sym h.1 ∙ fine in cc)) r.does.logs

  acts_log : (turn : WorkerTurn) (x : Seen) → Acts j turn x s t → (t.worker.short ≡ false) → LogsEnds s.worker t.worker []
  acts_log Parked (Packet f) a fine = same_log s.worker t.worker a.0.log fine
  acts_log Worked (Packet f) a fine = same_log s.worker t.worker a.0.log fine
  acts_log Marked (Packet f) a fine = same_log s.worker t.worker a.0.log fine
  acts_log EndTaken Close a fine = same_log s.worker t.worker a.0.log fine
  acts_log (Released b) (Packet f) a fine = absurd a
  acts_log (Claimed b) (Packet f) a fine = absurd a
  acts_log EndTaken (Packet f) a fine = absurd a
  acts_log Idle (Packet f) a fine = absurd a
  acts_log Ended (Packet f) a fine = absurd a
  acts_log (Released b) Close a fine = absurd a
  acts_log (Claimed b) Close a fine = absurd a
  acts_log Worked Close a fine = absurd a
  acts_log Parked Close a fine = absurd a
  acts_log Marked Close a fine = absurd a
  acts_log Idle Close a fine = absurd a
  acts_log Ended Close a fine = absurd a

  pub turn_log : (turn : WorkerTurn) → IsTurn j s turn t → t.worker.short ≡ false → LogsEnds s.worker t.worker (ends_by turn s.worker)
  turn_log (Released b) r fine = log_released b r fine
  turn_log (Claimed b) r fine = same_log s.worker t.worker r.does.log fine
  turn_log Worked r fine = acts_log Worked r.item r.acts fine
  turn_log Parked r fine = acts_log Parked r.item r.acts fine
  turn_log Marked r fine = acts_log Marked r.item r.acts fine
  turn_log EndTaken r fine = acts_log EndTaken r.item r.acts fine
  turn_log Idle r fine = same_log s.worker t.worker r.rests.log fine
  turn_log Ended r fine = same_log s.worker t.worker r.rests.log fine

  -- a seat's ended custodies have the newest first
  pub turn_ended : (turn : WorkerTurn) → IsTurn j s turn t → t.shelf.ended ≡ ends_by turn s.worker ++ s.shelf.ended
  turn_ended (Released b) r = ap (λ (e : ShelfHistory). e.ended) r.does.shelf ∙ (ap (λ (o : Option ℕ). record { bucket = b; from = number o; to = r.does.table.done } ∷ s.shelf.ended) r.does.claim ∙ ap (λ (z : List Stretch). z ++ s.shelf.ended) (sym (ends_is b r)))
  turn_ended (Claimed b) r = ap (λ (e : ShelfHistory). e.ended) r.shelf ∙ refused_ended s.worker s.shelf_now r.first.before s.shelf r.history r.first.refused
  turn_ended Worked r = refused_ended s.worker s.shelf_now s.worker.lot.waiting s.shelf t.shelf r.refused.0
  turn_ended Parked r = refused_ended s.worker s.shelf_now s.worker.lot.waiting s.shelf t.shelf r.refused.0
  turn_ended Marked r = refused_ended s.worker s.shelf_now s.worker.lot.waiting s.shelf t.shelf r.refused.0
  turn_ended EndTaken r = refused_ended s.worker s.shelf_now s.worker.lot.waiting s.shelf t.shelf r.refused.0
  turn_ended Idle r = refused_ended s.worker s.shelf_now s.worker.lot.waiting s.shelf t.shelf r.refused.0
  turn_ended Ended r = refused_ended s.worker s.shelf_now s.worker.lot.waiting s.shelf t.shelf r.refused.0

  one_end : (b : ℕ) (o : Slot (TableOf S)) → reverse (ended_at b o) ≡ ended_at b o
  one_end b Away = refl
  one_end b (Held u) = refl
  one_end b (Leaving u) = refl

  pub few_ends : (turn : WorkerTurn) → reverse (ends_by turn s.worker) ≡ ends_by turn s.worker
  few_ends (Released b) = one_end b (slot_at b s.worker)
  few_ends (Claimed b) = refl
  few_ends Worked = refl
  few_ends Parked = refl
  few_ends Marked = refl
  few_ends EndTaken = refl
  few_ends Idle = refl
  few_ends Ended = refl

  pub log_stinted : (turn : WorkerTurn) → Tied j s.worker s.lane s.shelf s.meter → IsTurn j s turn t → LogHasSpans s.worker s.lane → LogHasSpans t.worker t.lane
  log_stinted turn tied r k fine = let h = turn_log turn r fine in
      subst (λ (z : List Stretch). AllHaveSpans t.worker t.lane.taken z) (sym h.log) (turn_stinted j s t tied (map stretch_of s.worker.log) turn r (k h.was))

  pub seat_stinted : (turn : WorkerTurn) → Tied j s.worker s.lane s.shelf s.meter → IsTurn j s turn t → SeatHasSpans s.worker s.lane s.shelf → SeatHasSpans t.worker t.lane t.shelf
  seat_stinted turn tied r k =
      let is : reverse t.shelf.ended ≡ reverse s.shelf.ended ++ ends_by turn s.worker = ap reverse (turn_ended turn r) ∙ (reverse-append (ends_by turn s.worker) s.shelf.ended ∙ ap (λ (z : List Stretch). reverse s.shelf.ended ++ z) (few_ends turn)) in
      subst (λ (z : List Stretch). AllHaveSpans t.worker t.lane.taken z) (sym is) (turn_stinted j s t tied (reverse s.shelf.ended) turn r k)

none_at : (n b : ℕ) → b < n → get_or (replicate {A = List Facts} n []) b [] ≡ []
none_at n b near = get_or-replicate n b [] [] near

module _ {S : Type 0} where
  -- the equation, in one line
  sits_equal : (o : Slot (TableOf S)) (d : Spans) (h : List Span) → FitsSpans o d h → h ++ in_hand o ≡ spans_of d
  sits_equal Away d h s = append-nil h ∙ s
  sits_equal (Held t) d h s = (λ i. s.0 i ++ last_span (sym s.1 i))
  sits_equal (Leaving t) d h s = s

  pub stinted_equal : (w : WorkerState (TableOf S)) (taken : List Seen) (done : List Stretch) (b : ℕ) → AllHaveSpans w taken done → b < w.run.buckets
      → (over : List Facts) × (cells_of b taken ≡ over ++ cells_at b w.lot) × (ended_spans b done ++ in_hand (slot_at b w) ≡ spans_of (cell_spans no_spans over))
  stinted_equal w taken done b k near = let h = k b near in (h.over, h.split, sits_equal (slot_at b w) (cell_spans no_spans h.over) (ended_spans b done) h.sits)

  away_of : (o : Slot (TableOf S)) (d : Spans) (h : List Span) → ¬ (IsLeaving o) → ¬ (IsHeld o) → FitsSpans o d h → h ≡ spans_of d
  away_of Away d h l g s = s
  away_of (Held t) d h l g s = absurd (g tt)
  away_of (Leaving t) d h l g s = absurd (l tt)

  -- where nothing is parked, held or leaves, the custodies of a bucket are the stretches of all that was taken
  pub over_stinted : (w : WorkerState (TableOf S)) (taken : List Seen) (done : List Stretch) (b : ℕ) → AllHaveSpans w taken done → AllEmpty w.lot → NoneLeaves w → NoneHeld w → b < w.run.buckets → ended_spans b done ≡ spans_in b (map plain taken)
  over_stinted w taken done b k empty leaves held near =
      let h = k b near in
      let all : cells_of b taken ≡ h.over = h.split ∙ (ap (λ xs. h.over ++ xs) (empty b) ∙ append-nil h.over) in
      away_of (slot_at b w) (cell_spans no_spans h.over) (ended_spans b done) (leaves b) (held b) h.sits ∙ (ap (λ fs. spans_of (cell_spans no_spans fs)) (sym all) ∙ sym (ap spans_of (spans_plain b no_spans taken)))

  pub fresh_stinted : (core : ℕ) (run : BucketHash) → AllHaveSpans {S = S} (fresh_worker_state core run) [] []
  fresh_stinted core run b near =
      let slot : slot_at b (fresh_worker_state {T = TableOf S} core run) ≡ Away = get_or-replicate run.buckets b Away Away near in
      record { over = []; split = sym (none_at run.buckets b near); sits = subst (λ (o : Slot (TableOf S)). FitsSpans o no_spans []) (sym slot) refl }

-- entries
entries_snoc : (core n : ℕ) (cs : List Custody) (c : Custody) → AreEntries core n cs → c.core ≡ core → c.bucket < n → AreEntries core n (cs ++ c ∷ [])
entries_snoc core n [] c h is near = (is, near, tt)
entries_snoc core n (x ∷ xs) c h is near = (h.0, h.1, entries_snoc core n xs c h.2 is near)

module _ {S : Type 0} where
  entries_same : (w w' : WorkerState (TableOf S)) → IsSame w w' → SameLog w w' → AreEntries w.core w.run.buckets w.log → AreEntries w'.core w'.run.buckets w'.log
  entries_same w w' same log h = subst (λ (y : ℕ × BucketHash × List Custody). AreEntries y.0 y.1.buckets y.2) (λ i. (sym same.core i, sym same.run i, sym log.log i)) h

  -- a slot that isn't away is in range
  in_range : (slots : List (Slot (TableOf S))) (b : ℕ) (t : TableOf S) → get_or slots b Away ≡ Leaving t → b < length slots
  in_range slots b t is = ⊎_elim (λ (l : b < length slots). l) (λ far. let z : Away ≡ Leaving t = sym (get_or_past slots b Away far) ∙ is in absurd (cc)) (cases_lt b (length slots))

module _ {S : Type 0} (j : Workload S) (s t : WorkerSnapshot (TableOf S)) where
  acts_entries : (turn : WorkerTurn) (x : Seen) → Acts j turn x s t → AreEntries s.worker.core s.worker.run.buckets s.worker.log → AreEntries t.worker.core t.worker.run.buckets t.worker.log
  acts_entries Parked (Packet f) a h = entries_same s.worker t.worker a.0.same a.0.log h
  acts_entries Worked (Packet f) a h = entries_same s.worker t.worker a.0.same a.0.log h
  acts_entries Marked (Packet f) a h = entries_same s.worker t.worker a.0.same a.0.log h
  acts_entries EndTaken Close a h = entries_same s.worker t.worker a.0.same a.0.log h
  acts_entries (Released b) (Packet f) a h = absurd a
  acts_entries (Claimed b) (Packet f) a h = absurd a
  acts_entries EndTaken (Packet f) a h = absurd a
  acts_entries Idle (Packet f) a h = absurd a
  acts_entries Ended (Packet f) a h = absurd a
  acts_entries (Released b) Close a h = absurd a
  acts_entries (Claimed b) Close a h = absurd a
  acts_entries Worked Close a h = absurd a
  acts_entries Parked Close a h = absurd a
  acts_entries Marked Close a h = absurd a
  acts_entries Idle Close a h = absurd a
  acts_entries Ended Close a h = absurd a

  entries_released : (b : ℕ) → length s.worker.slots ≡ s.worker.run.buckets → IsReleased b s t → AreEntries s.worker.core s.worker.run.buckets s.worker.log → AreEntries t.worker.core t.worker.run.buckets t.worker.log
  entries_released b wide r h =
      let d = r.does in let w = s.worker in
      let near : b < w.run.buckets = let l = in_range w.slots b d.table d.was in omega arith in
      ⊎_elim
      (λ g. subst (λ (y : ℕ × BucketHash × List Custody). AreEntries y.0 y.1.buckets y.2) (λ i. (sym d.same.core i, sym d.same.run i, sym g.0 i)) (entries_snoc w.core w.run.buckets w.log (custody b w.core d.from d.table.done) h refl near))
      (λ g. subst (λ (y : ℕ × BucketHash × List Custody). AreEntries y.0 y.1.buckets y.2) (λ i. (sym d.same.core i, sym d.same.run i, sym g.0 i)) h) d.logs

  pub turn_entries : (turn : WorkerTurn) → Tied j s.worker s.lane s.shelf s.meter → IsTurn j s turn t → AreEntries s.worker.core s.worker.run.buckets s.worker.log → AreEntries t.worker.core t.worker.run.buckets t.worker.log
  turn_entries (Released b) tied r h = entries_released b tied.slots r h
  turn_entries (Claimed b) tied r h = entries_same s.worker t.worker r.does.same r.does.log h
  turn_entries Worked tied r h = acts_entries Worked r.item r.acts h
  turn_entries Parked tied r h = acts_entries Parked r.item r.acts h
  turn_entries Marked tied r h = acts_entries Marked r.item r.acts h
  turn_entries EndTaken tied r h = acts_entries EndTaken r.item r.acts h
  turn_entries Idle tied r h = entries_same s.worker t.worker r.rests.same r.rests.log h
  turn_entries Ended tied r h = entries_same s.worker t.worker r.rests.same r.rests.log h

  -- where a worker has ended that took a core's stream, its custodies are the stints that the core has
  pub ended_stints : (rules : Rules) (xs : List Parcel) (jn : JournalView) (cores b c : ℕ) (done : List Stretch) → IsTurn j s Ended t → AllHaveSpans s.worker s.lane.taken done → b < s.worker.run.buckets
      → map plain s.lane.taken ≡ stream c (dispatches cores xs jn) → IsLawfulSoFar rules xs jn → ended_spans b done ≡ spans_at c (stints jn xs b)
  ended_stints rules xs jn cores b c done r k near is lawful = over_stinted s.worker s.lane.taken done b k r.none_parked r.none_leaves r.none_held near ∙ (ap (spans_in b) is ∙ stream_spans rules xs jn cores b c lawful)
