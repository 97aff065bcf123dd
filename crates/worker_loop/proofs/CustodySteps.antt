-- Each turn keeps that the ended custodies are the stretches of the cells that are done with.
use Rattle.std.proofs.Common.{◌≡◌, ◌≢◌, ℕ, ◌+◌, ◌<◌, Bool, true, false, if◌then◌else◌, List, [], ◌∷◌, ◌++◌, length, get_or, set, Option, Some, None, refl, sym, ap, ◌∙◌, subst, ⊎_elim, arith, get_or-set_same, get_or-set_other, append_assoc, eq-eqb, ne_eqb}
use Rattle.std.proofs.lemmas.List.{append-nil}
use mathlib.Core.Logic.{dite}
use native.Mathlib.Decide.{ℕ_discrete}
use Rattle.bucket_table.specs.Table.{TableOf}
use Rattle.packet_pool.specs.declared.cell.Facts.{Facts}
use Rattle.handover_core.specs.declared.item.Kind.TheVariants.{Next, Mark}
use Rattle.handover_core.specs.Legal.{Stand, new}
use Rattle.core_queue.specs.declared.item.Seen.{Seen}
use Rattle.core_queue.specs.declared.item.Seen.TheVariants.{Packet, Close}
use Rattle.core_queue.specs.declared.history.LaneHistory.{LaneHistory}
use Rattle.core_queue.specs.LaneHistory.{took}
use Rattle.parked_queue.specs.Parked.{cells_at, place_of}
use Rattle.handover_words.specs.ShelfHistory.{number}
use Rattle.handover_words.specs.declared.history.ShelfHistory.{ShelfHistory}
use Rattle.handover_words.specs.declared.history.Stretch.{Stretch}
use Rattle.handover_words.specs.Stock.{Stock}
use Rattle.load_meter.specs.declared.history.LoadHistory.{LoadHistory}
use Rattle.worker_loop.specs.declared.slot.Slot.{Slot}
use Rattle.worker_loop.specs.declared.slot.Slot.TheVariants.{Away, Held, Leaving}
use Rattle.worker_loop.specs.declared.worker_turn.WorkerTurn.{WorkerTurn}
use Rattle.worker_loop.specs.declared.worker_turn.WorkerTurn.TheVariants.{Released, Claimed, Worked, Parked, Marked, EndTaken, Idle, Ended}
use Rattle.toeplitz.specs.declared.bucket_hash.BucketHash.{BucketHash}
use Rattle.worker_loop.specs.Workload.{Workload}
use Rattle.worker_loop.specs.WorkerState.{WorkerState}
use Rattle.worker_loop.specs.Chains.{CellsLead, packets_to_mark, has_mark, behind_mark, upto_mark, stand_after, cells_of}
use Rattle.worker_loop.specs.Tied.{Tied, Lies, IsBetween, slot_at, stand_of}
use Rattle.worker_loop.specs.WorkerSnapshot.{WorkerSnapshot, NoneLeaves, IsLeaving}
use Rattle.worker_loop.specs.Does.{Releases, Claims, Parks, TakesEnd, Rests, moved, either, leave}
use Rattle.worker_loop.specs.Rules.{IsTurn, Takes, ActsOn, Acts}
use Rattle.worker_loop.specs.Shows.{from_of}
use Rattle.worker_loop.proofs.Places
use Rattle.handover_core.specs.Spans.{Span, Spans, no_spans, spans_by, last_span, spans_of}
use Rattle.worker_loop.specs.Custodies.{cell_spans, ended_spans, FitsSpans, HasSpans, AllHaveSpans, ended_at, ends_by}
use Rattle.worker_loop.proofs.CellSpans.{Runs, run_first, spans_append, history_append}

-- one custody more
history_here : (b from to : ℕ) (es : List Stretch) → ended_spans b (es ++ record { bucket = b; from = from; to = to } ∷ []) ≡ ended_spans b es ++ (from, to) ∷ []
history_here b from to es = history_append b es (record { bucket = b; from = from; to = to } ∷ []) ∙ ap (λ (t : Bool). ended_spans b es ++ ((if t then (from, to) ∷ [] else []) ++ [])) (eq-eqb b b refl)

history_other : (b c from to : ℕ) (es : List Stretch) → b ≢ c → ended_spans c (es ++ record { bucket = b; from = from; to = to } ∷ []) ≡ ended_spans c es
history_other b c from to es ne = history_append c es (record { bucket = b; from = from; to = to } ∷ []) ∙ (ap (λ (t : Bool). ended_spans c es ++ ((if t then (from, to) ∷ [] else []) ++ [])) (ne_eqb b c ne) ∙ append-nil (ended_spans c es))

module _ {S : Type 0} where
  -- what slots say, after what their buckets' cells did
  sits_released : (t : TableOf S) (d : Spans) (h : List Span) → FitsSpans (Leaving t) d h → FitsSpans {S = S} Away d (h ++ (from_of t.custody, t.done) ∷ [])
  sits_released t d h s = s

  sits_left : (o : Slot (TableOf S)) (d : Spans) (h : List Span) → FitsSpans o d h → FitsSpans (leave o) d h
  sits_left Away d h s = s
  sits_left (Held t) d h s = ap (λ (l : List Span). l ++ (from_of t.custody, t.done) ∷ []) s.0 ∙ sym (ap (λ (o : Option Span). d.closed ++ last_span o) s.1)
  sits_left (Leaving t) d h s = s

  sits_worked : (was t : TableOf S) (d : Spans) (h : List Span) (f : Facts) → FitsSpans (Held was) d h → f.kind ≡ Next → f.place ≡ was.done → t.custody ≡ was.custody → t.done ≡ was.done + 1 → FitsSpans (Held t) (spans_by f.kind f.place d) h
  sits_worked was t d h f s kind place custody done =
      let drawn : spans_by f.kind f.place d ≡ record { closed = d.closed; open_one = Some (from_of was.custody, f.place + 1) } = ap (λ k. spans_by k f.place d) kind ∙ ap (λ (o : Option Span). spans_by Next f.place (record { closed = d.closed; open_one = o })) s.1 in
      let at : f.place + 1 ≡ t.done = omega arith in
      (s.0 ∙ sym (ap (λ (y : Spans). y.closed) drawn), ap (λ (y : Spans). y.open_one) drawn ∙ (λ i. Some (from_of (sym custody i), at i)))

  sits_marked : (t : TableOf S) (d : Spans) (h : List Span) (f : Facts) → FitsSpans (Held t) d h → f.kind ≡ Mark → f.place ≡ t.done → FitsSpans (Leaving t) (spans_by f.kind f.place d) h
  sits_marked t d h f s kind place =
      let drawn : spans_by f.kind f.place d ≡ record { closed = d.closed ++ (from_of t.custody, f.place) ∷ []; open_one = None } = ap (λ k. spans_by k f.place d) kind ∙ ap (λ (o : Option Span). spans_by Mark f.place (record { closed = d.closed; open_one = o })) s.1 in
      (λ i. s.0 i ++ (from_of t.custody, sym place i) ∷ []) ∙ (sym (append-nil (d.closed ++ (from_of t.custody, f.place) ∷ [])) ∙ sym (ap spans_of drawn))

  sits_claimed : (t : TableOf S) (s d : Spans) (h : List Span) (from : ℕ) (fs : List Facts) (mark ended : Bool) → has_mark fs ≡ mark → h ≡ spans_of s → from_of t.custody ≡ from → t.done ≡ from + packets_to_mark fs
      → Runs from from fs (record { closed = spans_of s; open_one = None }) d → FitsSpans (moved (either mark ended) t) d h
  sits_claimed t s d h from fs true ended is e custody done r =
      let g = r.at_mark is in
      (λ i. e i ++ (custody i, done i) ∷ []) ∙ (sym (append-nil (spans_of s ++ (from, from + packets_to_mark fs) ∷ [])) ∙ (λ i. sym g.0 i ++ last_span (sym g.1 i)))
  sits_claimed t s d h from fs false true is e custody done r =
      let g = r.at_end is in
      (λ i. e i ++ (custody i, done i) ∷ []) ∙ (λ i. sym g.0 i ++ last_span (sym g.1 i))
  sits_claimed t s d h from fs false false is e custody done r =
      let g = r.at_end is in
      (e ∙ sym g.0, g.1 ∙ (λ i. Some (sym custody i, sym done i)))

  -- one bucket, where what is said of it is equal
  pub stinted_to : (b : ℕ) (done done' : List Stretch) (taken taken' : List Seen) (o o' : Slot (TableOf S)) (fs fs' : List Facts) → HasSpans b done taken o fs
      → ended_spans b done' ≡ ended_spans b done → cells_of b taken' ≡ cells_of b taken → o' ≡ o → fs' ≡ fs → HasSpans b done' taken' o' fs'
  stinted_to b done done' taken taken' o o' fs fs' k h t e f = record {
    over = k.over;
    split = t ∙ (k.split ∙ ap (λ xs. k.over ++ xs) (sym f));
    sits = subst (λ (y : Slot (TableOf S) × List Span). FitsSpans y.0 (cell_spans no_spans k.over) y.1) (λ i. (sym e i, sym h i)) k.sits;
  }

  -- the slot and the cells of one bucket
  stinted_at : (b : ℕ) (done : List Stretch) (taken : List Seen) (o o' : Slot (TableOf S)) (fs fs' : List Facts) → o' ≡ o → fs' ≡ fs → HasSpans b done taken o fs → HasSpans b done taken o' fs'
  stinted_at b done taken o o' fs fs' e f k = stinted_to b done done taken taken o o' fs fs' k refl refl e f

  pub stinted_same : (w w' : WorkerState (TableOf S)) (done done' : List Stretch) (taken taken' : List Seen) → w'.run ≡ w.run → w'.slots ≡ w.slots → w'.lot ≡ w.lot → done' ≡ done → taken' ≡ taken → AllHaveSpans w taken done → AllHaveSpans w' taken' done'
  stinted_same w w' done done' taken taken' run slots lot same history k b near =
      stinted_to b done done' taken taken' (slot_at b w) (slot_at b w') (cells_at b w.lot) (cells_at b w'.lot) (k b (subst (λ (r : BucketHash). b < r.buckets) run near)) (ap (ended_spans b) same) (ap (cells_of b) history) (ap (λ l. get_or l b Away) slots) (ap (cells_at b) lot)

module _ {S : Type 0} (j : Workload S) (w w' : WorkerState (TableOf S)) (done : List Stretch) (wide : length w.slots ≡ w.run.buckets) (chains : length w.lot.cells ≡ w.run.buckets) where
  pub stinted_released : (b : ℕ) (taken : List Seen) (e e' : ShelfHistory) (n n' : Option (Stock (TableOf S))) → Releases b w w' e e' n n' → AllHaveSpans w taken done → AllHaveSpans w' taken (done ++ ended_at b (slot_at b w))
  stinted_released b taken e e' n n' r k c near' =
      let near : c < w.run.buckets = subst (λ (r : BucketHash). c < r.buckets) r.same.run near' in
      let t = r.table in let from = from_of t.custody in
      let more : List Stretch = record { bucket = b; from = from; to = t.done } ∷ [] in
      let old = k c near in let cells = ap (cells_at c) r.lot in
      subst (λ (z : List Stretch). HasSpans c (done ++ z) taken (slot_at c w') (cells_at c w'.lot)) (sym (ap (ended_at b) r.was)) (dite (ℕ_discrete c b)
      (λ q. let at : b < length w.slots = omega arith in let here : slot_at c w' ≡ Away = ap (λ i. slot_at i w') q ∙ (ap (λ l. get_or l b Away) r.slots ∙ get_or-set_same w.slots b Away Away at) in
      let was : slot_at c w ≡ Leaving t = ap (λ i. slot_at i w) q ∙ r.was in
      let had : FitsSpans (Leaving t) (cell_spans no_spans old.over) (ended_spans c done) = subst (λ o. FitsSpans o (cell_spans no_spans old.over) (ended_spans c done)) was old.sits in
      let longer : ended_spans c (done ++ more) ≡ ended_spans c done ++ (from, t.done) ∷ [] = ap (λ i. ended_spans c (done ++ record { bucket = i; from = from; to = t.done } ∷ [])) (sym q) ∙ history_here c from t.done done in
      stinted_at c (done ++ more) taken Away (slot_at c w') (cells_at c w.lot) (cells_at c w'.lot) here cells (record { over = old.over; split = old.split; sits = subst (λ (h : List Span). h ≡ spans_of (cell_spans no_spans old.over)) (sym longer) had }))
      (λ ne. stinted_to c done (done ++ more) taken taken (slot_at c w) (slot_at c w') (cells_at c w.lot) (cells_at c w'.lot) old (history_other b c from t.done done (λ q. ne (sym q))) refl
      (ap (λ l. get_or l c Away) r.slots ∙ get_or-set_other w.slots b c Away Away ne) cells))

  pub stinted_parked : (f : Facts) (taken taken' : List Seen) → taken' ≡ taken ++ Packet f ∷ [] → Parks f w w' → AllHaveSpans w taken done → AllHaveSpans w' taken' done
  stinted_parked f taken taken' is r k c near' =
      let near : c < w.run.buckets = subst (λ (r : BucketHash). c < r.buckets) r.same.run near' in
      let old = k c near in let slot = ap (λ (l : List (Slot (TableOf S))). get_or l c Away) r.slots in
      let longer = cells_at f.bucket w.lot ++ f ∷ [] in
      dite (ℕ_discrete c f.bucket)
      (λ q. let at : f.bucket < length w.lot.cells = omega arith in let cells : cells_at c w'.lot ≡ cells_at c w.lot ++ f ∷ [] = ap (λ i. cells_at i w'.lot) q ∙ (ap (cells_at f.bucket) r.lot ∙ (get_or-set_same w.lot.cells f.bucket longer [] at ∙ ap (λ i. cells_at i w.lot ++ f ∷ []) (sym q))) in
      stinted_at c done taken' (slot_at c w) (slot_at c w') (cells_at c w.lot ++ f ∷ []) (cells_at c w'.lot) slot cells (record {
        over = old.over;
        split = ap (cells_of c) is ∙ (Places.cells_here c taken f (sym q) ∙ (ap (λ xs. xs ++ f ∷ []) old.split ∙ append_assoc old.over (cells_at c w.lot) (f ∷ [])));
        sits = old.sits;
      }))
      (λ ne. stinted_to c done done taken taken' (slot_at c w) (slot_at c w') (cells_at c w.lot) (cells_at c w'.lot) old refl (ap (cells_of c) is ∙ Places.cells_other c taken f (λ q. ne (sym q))) slot (ap (cells_at c) r.lot ∙ get_or-set_other w.lot.cells f.bucket c longer [] ne))

  -- a cell that is done with at once
  pub stinted_item : (f : Facts) (o o' : Slot (TableOf S)) (taken taken' : List Seen) → taken' ≡ taken ++ Packet f ∷ [] → w'.run ≡ w.run → w'.lot ≡ w.lot → w'.slots ≡ set w.slots f.bucket o' → slot_at f.bucket w ≡ o → (f.bucket < w.run.buckets → cells_at f.bucket w.lot ≡ [])
      → ((d : Spans) (h : List Span) → FitsSpans o d h → FitsSpans o' (spans_by f.kind f.place d) h) → AllHaveSpans w taken done → AllHaveSpans w' taken' done
  stinted_item f o o' taken taken' is run lot slots was none step k c near' =
      let near : c < w.run.buckets = subst (λ (r : BucketHash). c < r.buckets) run near' in
      let old = k c near in let cells = ap (cells_at c) lot in
      dite (ℕ_discrete c f.bucket)
      (λ q. let at : f.bucket < length w.slots = omega arith in let in_run : f.bucket < w.run.buckets = omega arith in let here : slot_at c w' ≡ o' = ap (λ i. slot_at i w') q ∙ (ap (λ l. get_or l f.bucket Away) slots ∙ get_or-set_same w.slots f.bucket o' Away at) in
      let before : slot_at c w ≡ o = ap (λ i. slot_at i w) q ∙ was in
      let empty : cells_at c w.lot ≡ [] = ap (λ i. cells_at i w.lot) q ∙ none in_run in
      let had : FitsSpans o (cell_spans no_spans old.over) (ended_spans c done) = subst (λ z. FitsSpans z (cell_spans no_spans old.over) (ended_spans c done)) before old.sits in
      stinted_at c done taken' o' (slot_at c w') [] (cells_at c w'.lot) here (cells ∙ empty) (record {
        over = old.over ++ f ∷ [];
        split = ap (cells_of c) is ∙ (Places.cells_here c taken f (sym q) ∙ (ap (λ xs. xs ++ f ∷ []) (old.split ∙ (ap (λ xs. old.over ++ xs) empty ∙ append-nil old.over)) ∙ sym (append-nil (old.over ++ f ∷ []))));
        sits = subst (λ (d : Spans). FitsSpans o' d (ended_spans c done)) (sym (spans_append no_spans old.over (f ∷ []))) (step (cell_spans no_spans old.over) (ended_spans c done) had);
      }))
      (λ ne. stinted_to c done done taken taken' (slot_at c w) (slot_at c w') (cells_at c w.lot) (cells_at c w'.lot) old refl (ap (cells_of c) is ∙ Places.cells_other c taken f (λ q. ne (sym q)))
      (ap (λ l. get_or l c Away) slots ∙ get_or-set_other w.slots f.bucket c o' Away ne) cells)

  pub stinted_end : (taken taken' : List Seen) → taken' ≡ taken ++ Close ∷ [] → TakesEnd w w' → AllHaveSpans w taken done → AllHaveSpans w' taken' done
  stinted_end taken taken' is r k c near' =
      let near : c < w.run.buckets = subst (λ (r : BucketHash). c < r.buckets) r.same.run near' in
      let old = k c near in
      stinted_to c done done taken taken' (leave (slot_at c w)) (slot_at c w') (cells_at c w.lot) (cells_at c w'.lot) (record { over = old.over; split = old.split; sits = sits_left (slot_at c w) (cell_spans no_spans old.over) (ended_spans c done) old.sits })
      refl (ap (cells_of c) is ∙ Places.cells_close c taken) (r.slots c) (ap (cells_at c) r.lot)

module _ {S : Type 0} (j : Workload S) where
  -- a bucket that waits has no table
  waits_sits : (r : BucketHash) (core b : ℕ) (v : ShelfHistory) (ended : Bool) (o : Slot (TableOf S)) (s : Stand) (fs : List Facts) (d : Spans) (h : List Span) → Lies j r core b v ended o s fs → ¬ (IsLeaving o) → fs ≢ [] → FitsSpans o d h → h ≡ spans_of d
  waits_sits r core b v ended Away s fs d h lies stays some sits = sits
  waits_sits r core b v ended (Held t) s fs d h lies stays some sits = absurd (some lies.1)
  waits_sits r core b v ended (Leaving t) s fs d h lies stays some sits = absurd (stays tt)

  claim_sits : (r : BucketHash) (b : ℕ) (s0 e : Stand) (t : TableOf S) (s : Spans) (h : List Span) (cs : List Facts) (ended : Bool) → cs ≢ [] → IsBetween s0 → CellsLead j.packets r b s0 cs e → h ≡ spans_of s
      → from_of t.custody ≡ number (place_of cs) → t.done ≡ number (place_of cs) + packets_to_mark cs → FitsSpans (moved (either (has_mark cs) ended) t) (cell_spans s (upto_mark cs)) h
  claim_sits r b s0 e t s h [] ended some between chain is custody done = absurd (some refl)
  claim_sits r b s0 e t s h (f ∷ fs) ended some between chain is custody done =
      sits_claimed t s (cell_spans s (upto_mark (f ∷ fs))) h f.place (f ∷ fs) (has_mark (f ∷ fs)) ended refl is custody done
      (run_first j.packets r b f fs e s0 s (Places.between_first s0 f.kind f.place between chain.1) chain)

module _ {S : Type 0} (j : Workload S) (w w' : WorkerState (TableOf S)) (l : LaneHistory) (v : ShelfHistory) (m : LoadHistory) (t : Tied j w l v m) (done : List Stretch) where
  pub stinted_claimed : (b : ℕ) (given : TableOf S) → NoneLeaves w → cells_at b w.lot ≢ [] → Claims j b given w w' → AllHaveSpans w l.taken done → AllHaveSpans w' l.taken done
  stinted_claimed b given none some r k c near' =
      let near : c < w.run.buckets = subst (λ (r : BucketHash). c < r.buckets) r.same.run near' in
      let wide = t.slots in let chains = t.chains in let old = k c near in
      let o' : Slot (TableOf S) = moved (either (has_mark (cells_at b w.lot)) w.took_end) r.table in
      dite (ℕ_discrete c b)
      (λ q. let at : b < length w.slots = omega arith in let at' : b < length w.lot.cells = omega arith in let near_b : b < w.run.buckets = omega arith in
      let here : slot_at c w' ≡ o' = ap (λ i. slot_at i w') q ∙ (ap (λ l. get_or l b Away) r.slots ∙ get_or-set_same w.slots b o' Away at) in
      let cells : cells_at c w'.lot ≡ behind_mark (cells_at b w.lot) = ap (λ i. cells_at i w'.lot) q ∙ (ap (cells_at b) r.lot ∙ get_or-set_same w.lot.cells b (behind_mark (cells_at b w.lot)) [] at') in
      let ok = t.each b near_b in let had = k b near_b in
      let between = Places.waits_between j w.run w.core b v w.took_end (slot_at b w) (stand_after new ok.over) (cells_at b w.lot) ok.lies (none b) some in
      let is : ended_spans b done ≡ spans_of (cell_spans no_spans had.over) = waits_sits j w.run w.core b v w.took_end (slot_at b w) (stand_after new ok.over) (cells_at b w.lot) (cell_spans no_spans had.over) (ended_spans b done) ok.lies (none b) some had.sits in
      let sits : FitsSpans o' (cell_spans (cell_spans no_spans had.over) (upto_mark (cells_at b w.lot))) (ended_spans b done) =
      claim_sits j w.run b (stand_after new ok.over) (stand_of b l.taken) r.table (cell_spans no_spans had.over) (ended_spans b done) (cells_at b w.lot) w.took_end some between ok.follow is (ap from_of r.custody_is) r.done in
      let now : HasSpans b done l.taken o' (behind_mark (cells_at b w.lot)) = record {
        over = had.over ++ upto_mark (cells_at b w.lot);
        split = Places.over_more had.over (cells_at b w.lot) (cells_of b l.taken) had.split;
        sits = subst (λ (d : Spans). FitsSpans o' d (ended_spans b done)) (sym (spans_append no_spans had.over (upto_mark (cells_at b w.lot)))) sits;
      } in
      subst (λ (y : ℕ × Slot (TableOf S) × List Facts). HasSpans y.0 done l.taken y.1 y.2) (λ i. (sym q i, sym here i, sym cells i)) now)
      (λ ne. stinted_to c done done l.taken l.taken (slot_at c w) (slot_at c w') (cells_at c w.lot) (cells_at c w'.lot) old refl refl
      (ap (λ l. get_or l c Away) r.slots ∙ get_or-set_other w.slots b c o' Away ne)
      (ap (cells_at c) r.lot ∙ get_or-set_other w.lot.cells b c (behind_mark (cells_at b w.lot)) [] ne))

  -- the cells of a bucket whose table is held
  held_none : (b : ℕ) (u : TableOf S) → slot_at b w ≡ Held u → b < w.run.buckets → cells_at b w.lot ≡ []
  held_none b u is near = let ok = t.each b near in (subst (λ o. Lies j w.run w.core b v w.took_end o (stand_after new ok.over) (cells_at b w.lot)) is ok.lies).1

  pub stinted_acts : (turn : WorkerTurn) (f : Facts) (taken' : List Seen) (m m' : LoadHistory) (n n' : Option (List ℕ)) → taken' ≡ l.taken ++ Packet f ∷ [] → ActsOn j turn f w w' m m' n n' → AllHaveSpans w l.taken done → AllHaveSpans w' taken' done
  stinted_acts Parked f taken' m m' n n' is a k = stinted_parked j w w' done t.slots t.chains f l.taken taken' is a.0 k
  stinted_acts Worked f taken' m m' n n' is a k = let r = a.0 in
      stinted_item j w w' done t.slots t.chains f (Held r.was) (Held r.table) l.taken taken' is r.same.run r.lot r.slots r.held (held_none f.bucket r.was r.held)
      (λ d h s. sits_worked r.was r.table d h f s r.is_next r.in_place r.custody_is r.done) k
  stinted_acts Marked f taken' m m' n n' is a k = let r = a.0 in
      stinted_item j w w' done t.slots t.chains f (Held r.table) (Leaving r.table) l.taken taken' is r.same.run r.lot r.slots r.held (held_none f.bucket r.table r.held)
      (λ d h s. sits_marked r.table d h f s r.is_mark r.tail) k
  stinted_acts (Released b) f taken' m m' n n' is a k = absurd a
  stinted_acts (Claimed b) f taken' m m' n n' is a k = absurd a
  stinted_acts EndTaken f taken' m m' n n' is a k = absurd a
  stinted_acts Idle f taken' m m' n n' is a k = absurd a
  stinted_acts Ended f taken' m m' n n' is a k = absurd a

module _ {S : Type 0} (j : Workload S) (s t : WorkerSnapshot (TableOf S)) (tied : Tied j s.worker s.lane s.shelf s.meter) (done : List Stretch) where
  item_stinted : (turn : WorkerTurn) (x : Seen) → t.lane ≡ took x s.lane → Acts j turn x s t → AllHaveSpans s.worker s.lane.taken done → AllHaveSpans t.worker t.lane.taken done
  item_stinted turn (Packet f) is a k = stinted_acts j s.worker t.worker s.lane s.shelf s.meter tied done turn f t.lane.taken s.meter t.meter s.meter_now t.meter_now (ap (λ (e : LaneHistory). e.taken) is) a k
  item_stinted EndTaken Close is a k = stinted_end j s.worker t.worker done tied.slots tied.chains s.lane.taken t.lane.taken (ap (λ (e : LaneHistory). e.taken) is) a.0 k
  item_stinted (Released b) Close is a k = absurd a
  item_stinted (Claimed b) Close is a k = absurd a
  item_stinted Worked Close is a k = absurd a
  item_stinted Parked Close is a k = absurd a
  item_stinted Marked Close is a k = absurd a
  item_stinted Idle Close is a k = absurd a
  item_stinted Ended Close is a k = absurd a

  none_more : AllHaveSpans t.worker t.lane.taken done → AllHaveSpans t.worker t.lane.taken (done ++ [])
  none_more h = subst (λ (z : List Stretch). AllHaveSpans t.worker t.lane.taken z) (sym (append-nil done)) h

  takes_stinted : (turn : WorkerTurn) → Takes j turn s t → AllHaveSpans s.worker s.lane.taken done → AllHaveSpans t.worker t.lane.taken (done ++ [])
  takes_stinted turn r k = none_more (item_stinted turn r.item r.lane r.acts k)

  rests_stinted : Rests s.worker t.worker → t.lane.taken ≡ s.lane.taken → AllHaveSpans s.worker s.lane.taken done → AllHaveSpans t.worker t.lane.taken (done ++ [])
  rests_stinted r is k = none_more (stinted_same s.worker t.worker done done s.lane.taken t.lane.taken r.same.run r.slots r.lot refl is k)

  -- the law: the custodies that a turn ends go on the list
  pub turn_stinted : (turn : WorkerTurn) → IsTurn j s turn t → AllHaveSpans s.worker s.lane.taken done → AllHaveSpans t.worker t.lane.taken (done ++ ends_by turn s.worker)
  turn_stinted (Released b) r k = subst (λ (z : List Seen). AllHaveSpans t.worker z (done ++ ended_at b (slot_at b s.worker))) (sym (ap (λ (e : LaneHistory). e.taken) r.lane.0))
      (stinted_released j s.worker t.worker done tied.slots tied.chains b s.lane.taken s.shelf t.shelf s.shelf_now t.shelf_now r.does k)
  turn_stinted (Claimed b) r k = none_more (subst (λ (z : List Seen). AllHaveSpans t.worker z done) (sym (ap (λ (e : LaneHistory). e.taken) r.lane.0))
      (stinted_claimed j s.worker t.worker s.lane s.shelf s.meter tied done b r.given r.none_leaves r.waits r.does k))
  turn_stinted Worked r k = takes_stinted Worked r k
  turn_stinted Parked r k = takes_stinted Parked r k
  turn_stinted Marked r k = takes_stinted Marked r k
  turn_stinted EndTaken r k = takes_stinted EndTaken r k
  turn_stinted Idle r k = rests_stinted r.rests (⊎_elim (λ h. ap (λ (e : LaneHistory). e.taken) h.2.0) (λ h. ap (λ (e : LaneHistory). e.taken) h.1) r.idles) k
  turn_stinted Ended r k = rests_stinted r.rests (ap (λ (e : LaneHistory). e.taken) r.lane.0) k
