-- The packets of a run that go on behind a turn of the dispatcher went on before it.
use Rattle.std.proofs.Common.{◌++◌, ◌≡◌, ℕ, ◌<◌, false, List, length, Option, Some, refl, sym, ap, ◌∙◌, subst, ⊎_elim, inl, inr, arith}
use Rattle.bucket_table.specs.Table.{TableOf}
use Rattle.packet_fields.specs.declared.packet.PacketInfo.{PacketInfo}
use Rattle.pcap_reader.specs.Reading.{Reading}
use Rattle.indirection.specs.declared.outcome.Outcome.{Outcome}
use Rattle.indirection.specs.Tries as asks
use Rattle.indirection.specs.Tries.{Ask, Proposed, ask_bucket, ask_to}
use Rattle.handover_words.specs.declared.history.ShelfHistory.{ShelfHistory}
use Rattle.handover_words.specs.Stock.{Stock}
use Rattle.worker_loop.specs.Workload.{Workload}
use Rattle.dispatch_loop.specs.declared.dispatcher_turn.DispatcherTurn.{DispatcherTurn}
use Rattle.dispatch_loop.specs.declared.dispatcher_turn.DispatcherTurn.TheVariants.{Sent, Round, Ordered, EndSent, NoCell, LaneFull, Finished}
use Rattle.dispatch_loop.specs.Does.{bucket_for, noted, decided}
use Rattle.dispatch_loop.specs.DispatcherState.{DispatcherState}
use Rattle.dispatch_loop.specs.Past.{Past, held_list, parcels, story}
use Rattle.dispatch_loop.specs.DispatcherSnapshot as dispatchers
use Rattle.dispatch_loop.specs.DispatcherSnapshot.{Outs}
use Rattle.dispatch_loop.specs.Rules as turns
use Rattle.dispatch_loop.specs.Rules.{IsAsked, IsNext, IsPacketTurn, IsEndTurn, Fetches, ReadsNext, HasRead, Passes, Acts, Grows, SendsPacket, SendsEnd}
use Rattle.dispatch_loop.specs.Terms.{Terms, buckets_of}
use Rattle.dispatch_loop.specs.Tied.{TiedIn}
use Rattle.dispatch_loop.proofs.Acted.{held-open}
use Rattle.dispatch_loop.proofs.Carrying.{bucket-below}
use Rattle.dispatch_loop.proofs.Tells.{sent-next, refused-tied}
use Rattle.dispatch_loop.proofs.Ties.{sent-is, open-ends}
use Rattle.rsspp_run.specs.Serial.{Setting, RunState, dispatcher_turn}
use Rattle.rsspp_run.specs.LocalRun.{LocalRunView}
use Rattle.rsspp_run.specs.DispatcherOf.{dispatcher_snapshot_over}
use Rattle.rsspp_run.specs.At.{IsAt, HaveRoom}
use Rattle.rsspp_run.specs.Goes.{HasPacketsLeft, IsRunOf}
use Rattle.rsspp_run.proofs.Ready.{ready_of, goes_on, before_sent, before_read, same_rest}
use Rattle.rsspp_run.proofs.StepsThen.{run_then}

-- nothing was sent, and what was read stays
stays_on : (all sent ps : List PacketInfo) (e e' : DispatcherState) → ps ≡ sent → e'.held ≡ e.held → e'.end ≡ e.end → HasPacketsLeft all ps e' → HasPacketsLeft all sent e
stays_on all sent ps e e' same held end c = same_rest all sent e e' held end (subst (λ (z : List PacketInfo). HasPacketsLeft all z e') same c)

module _ (packets : Option (List PacketInfo)) (p : Past) (all : List PacketInfo) where
  packet_goes : {T : Type 0} (s m t : dispatchers.DispatcherSnapshot T) → TiedIn packets p s → Fetches s m → (turn : DispatcherTurn) → (ps : List PacketInfo) → Grows turn p.packets ps s.outs.lanes t.outs.lanes → (q : PacketInfo) → IsPacketTurn turn q m t → HasPacketsLeft all ps t.dispatcher → HasPacketsLeft all p.packets m.dispatcher
  packet_goes s m t tied fetch Sent ps g q h c = before_sent all p.packets q m.dispatcher t.dispatcher h.held (ap (λ (e : DispatcherState). e.held) h.sends.dispatcher) (ap (λ (e : DispatcherState). e.end) h.sends.dispatcher) (subst (λ (z : List PacketInfo). HasPacketsLeft all z t.dispatcher) (sent-next packets p s m t tied fetch q ps g h) c)
  packet_goes s m t tied fetch NoCell ps g q h c = stays_on all p.packets ps m.dispatcher t.dispatcher g (ap (λ (e : DispatcherState). e.held) h.sends.dispatcher) (ap (λ (e : DispatcherState). e.end) h.sends.dispatcher) c
  packet_goes s m t tied fetch (LaneFull k) ps g q h c = stays_on all p.packets ps m.dispatcher t.dispatcher g (ap (λ (e : DispatcherState). e.held) h.sends.dispatcher) (ap (λ (e : DispatcherState). e.end) h.sends.dispatcher) c
  packet_goes s m t tied fetch Ordered ps g q h c = absurd h.sends
  packet_goes s m t tied fetch Round ps g q h c = absurd h.sends
  packet_goes s m t tied fetch EndSent ps g q h c = absurd h.sends
  packet_goes s m t tied fetch (Finished e) ps g q h c = absurd h.sends

  end_goes : {T : Type 0} (s m t : dispatchers.DispatcherSnapshot T) → (turn : DispatcherTurn) → (ps : List PacketInfo) → Grows turn p.packets ps s.outs.lanes t.outs.lanes → IsEndTurn turn m t → HasPacketsLeft all ps t.dispatcher → HasPacketsLeft all p.packets m.dispatcher
  end_goes s m t EndSent ps g h c = stays_on all p.packets ps m.dispatcher t.dispatcher g (ap (λ (e : DispatcherState). e.held) h.sends.dispatcher) (ap (λ (e : DispatcherState). e.end) h.sends.dispatcher) c
  end_goes s m t (LaneFull k) ps g h c = stays_on all p.packets ps m.dispatcher t.dispatcher g (ap (λ (e : DispatcherState). e.held) h.sends.dispatcher) (ap (λ (e : DispatcherState). e.end) h.sends.dispatcher) c
  end_goes s m t (Finished e) ps g h c = stays_on all p.packets ps m.dispatcher t.dispatcher g (ap (λ (e : DispatcherState). e.held) h.sends.dispatcher) (ap (λ (e : DispatcherState). e.end) h.sends.dispatcher) c
  end_goes s m t Sent ps g h c = absurd h.sends
  end_goes s m t NoCell ps g h c = absurd h.sends
  end_goes s m t Round ps g h c = absurd h.sends
  end_goes s m t Ordered ps g h c = absurd h.sends

  pub next_goes : {T : Type 0} (s m t : dispatchers.DispatcherSnapshot T) → TiedIn packets p s → Fetches s m → (turn : DispatcherTurn) → (ps : List PacketInfo) → Grows turn p.packets ps s.outs.lanes t.outs.lanes → IsNext turn m t → HasPacketsLeft all ps t.dispatcher → HasPacketsLeft all p.packets m.dispatcher
  next_goes s m t tied fetch turn ps g (inl k) c = packet_goes s m t tied fetch turn ps g k.0 k.1 c
  next_goes s m t tied fetch turn ps g (inr k) c = end_goes s m t turn ps g k c

  fetch_goes : {T : Type 0} (s m : dispatchers.DispatcherSnapshot T) → Fetches s m → HasPacketsLeft all p.packets m.dispatcher → HasPacketsLeft all p.packets s.dispatcher
  fetch_goes s m fetch c = ⊎_elim
      (λ (k : ReadsNext s.dispatcher m.dispatcher s.faults m.faults). before_read all p.packets s.dispatcher m.dispatcher k.none_held k.goes_on c)
      (λ (k : HasRead s.dispatcher m.dispatcher s.reader m.reader s.left m.left s.faults m.faults). subst (λ (z : DispatcherState). HasPacketsLeft all p.packets z) k.dispatcher c) fetch.reads

  noted_held : (f : DispatcherState) (a : Ask) (o : Outcome) → (noted (decided f (ask_bucket a) (ask_to a) o) a o).held ≡ f.held
  noted_held f (Proposed at q) o = refl
  noted_held f (asks.Ordered q) o = refl

  noted_end : (f : DispatcherState) (a : Ask) (o : Outcome) → (noted (decided f (ask_bucket a) (ask_to a) o) a o).end ≡ f.end
  noted_end f (Proposed at q) o = refl
  noted_end f (asks.Ordered q) o = refl

  tries_go : {T : Type 0} (a : Ask) (f f' : DispatcherState) (os : Outs) (v : ShelfHistory) (n : Option (Stock T)) (os' : Outs) (v' : ShelfHistory) (n' : Option (Stock T)) (turn : DispatcherTurn) (ps : List PacketInfo) → Grows turn p.packets ps os.lanes os'.lanes → turns.Tries turn a f f' os v n os' v' n' → HasPacketsLeft all ps f' → HasPacketsLeft all p.packets f
  tries_go a f f' os v n os' v' n' Ordered ps g h c = stays_on all p.packets ps f f' g (ap (λ (e : DispatcherState). e.held) h.dispatcher ∙ noted_held f a h.outcome) (ap (λ (e : DispatcherState). e.end) h.dispatcher ∙ noted_end f a h.outcome) c
  tries_go a f f' os v n os' v' n' NoCell ps g h c = stays_on all p.packets ps f f' g (ap (λ (e : DispatcherState). e.held) h.dispatcher) (ap (λ (e : DispatcherState). e.end) h.dispatcher) c
  tries_go a f f' os v n os' v' n' (LaneFull k) ps g h c = stays_on all p.packets ps f f' g (ap (λ (e : DispatcherState). e.held) h.dispatcher) (ap (λ (e : DispatcherState). e.end) h.dispatcher) c
  tries_go a f f' os v n os' v' n' Sent ps g h c = absurd h
  tries_go a f f' os v n os' v' n' Round ps g h c = absurd h
  tries_go a f f' os v n os' v' n' EndSent ps g h c = absurd h
  tries_go a f f' os v n os' v' n' (Finished e) ps g h c = absurd h

  acts_go : {T : Type 0} (s t : dispatchers.DispatcherSnapshot T) → TiedIn packets p s → (turn : DispatcherTurn) → (ps : List PacketInfo) → Grows turn p.packets ps s.outs.lanes t.outs.lanes → Acts turn s t → HasPacketsLeft all ps t.dispatcher → HasPacketsLeft all p.packets s.dispatcher
  acts_go s t tied turn ps g (inl k) c = tries_go k.ask s.dispatcher t.dispatcher s.outs s.shelf s.shelf_now t.outs t.shelf t.shelf_now turn ps g k.tries c
  acts_go s t tied turn ps g (inr k) c = fetch_goes s k.0 k.1 (next_goes s k.0 t tied k.1 turn ps g k.2 c)

  passes_go : {T : Type 0} (s m t : dispatchers.DispatcherSnapshot T) → TiedIn packets p s → Passes s m → (turn : DispatcherTurn) → (ps : List PacketInfo) → Grows turn p.packets ps s.outs.lanes t.outs.lanes → Acts turn m t → HasPacketsLeft all ps t.dispatcher → HasPacketsLeft all p.packets s.dispatcher
  passes_go {T} s m t tied (inl k) turn ps g h c = acts_go s t tied turn ps g (subst (λ (z : dispatchers.DispatcherSnapshot T). Acts turn z t) k.1 h) c
  passes_go {T} s m t tied (inr k) turn ps g h c = stays_on all p.packets p.packets s.dispatcher m.dispatcher refl (ap (λ (e : DispatcherState). e.held) k.dispatcher) (ap (λ (e : DispatcherState). e.end) k.dispatcher)
      (acts_go m t (refused-tied packets p s m tied k) turn ps (subst (λ (o : Outs). Grows turn p.packets ps o.lanes t.outs.lanes) (sym k.outs) g) h c)

  -- before a turn the run went on, too
  pub before_turn : {T : Type 0} (s t : dispatchers.DispatcherSnapshot T) → TiedIn packets p s → (turn : DispatcherTurn) → (ps : List PacketInfo) → Grows turn p.packets ps s.outs.lanes t.outs.lanes → turns.IsTurn s turn t → HasPacketsLeft all ps t.dispatcher → HasPacketsLeft all p.packets s.dispatcher
  before_turn s t tied Round ps g h c = stays_on all p.packets ps s.dispatcher t.dispatcher g (ap (λ (e : DispatcherState). e.held) h.dispatcher) (ap (λ (e : DispatcherState). e.end) h.dispatcher) c
  before_turn s t tied Sent ps g h c = passes_go s h.0 t tied h.1 Sent ps g h.2 c
  before_turn s t tied Ordered ps g h c = passes_go s h.0 t tied h.1 Ordered ps g h.2 c
  before_turn s t tied EndSent ps g h c = passes_go s h.0 t tied h.1 EndSent ps g h.2 c
  before_turn s t tied NoCell ps g h c = passes_go s h.0 t tied h.1 NoCell ps g h.2 c
  before_turn s t tied (LaneFull k) ps g h c = passes_go s h.0 t tied h.1 (LaneFull k) ps g h.2 c
  before_turn s t tied (Finished e) ps g h c = passes_go s h.0 t tied h.1 (Finished e) ps g h.2 c

  -- while a packet is held no End was sent
  pub none_ended : {T : Type 0} (s m : dispatchers.DispatcherSnapshot T) → TiedIn packets p s → Fetches s m → (q : PacketInfo) → m.dispatcher.held ≡ Some q → m.dispatcher.ends ≡ 0
  none_ended s m tied fetch q held = ⊎_elim
      (λ (k : ReadsNext s.dispatcher m.dispatcher s.faults m.faults). ap (λ (e : DispatcherState). e.ends) k.dispatcher ∙ open-ends packets p s.dispatcher s.outs.lanes s.shelf s.meter s.reader s.left tied k.goes_on)
      (λ (k : HasRead s.dispatcher m.dispatcher s.reader m.reader s.left m.left s.faults m.faults). ap (λ (e : DispatcherState). e.ends) k.dispatcher
      ∙ open-ends packets p s.dispatcher s.outs.lanes s.shelf s.meter s.reader s.left tied (held-open packets p s.dispatcher s.outs.lanes s.shelf s.meter s.reader s.left tied q (sym (ap (λ (e : DispatcherState). e.held) k.dispatcher) ∙ held))) fetch.reads

  pub same_terms : {T : Type 0} (s m : dispatchers.DispatcherSnapshot T) → Fetches s m → (m.dispatcher.terms ≡ s.dispatcher.terms) × (m.dispatcher.sent ≡ s.dispatcher.sent)
  same_terms s m fetch = ⊎_elim
      (λ (k : ReadsNext s.dispatcher m.dispatcher s.faults m.faults). (ap (λ (e : DispatcherState). e.terms) k.dispatcher, ap (λ (e : DispatcherState). e.sent) k.dispatcher))
      (λ (k : HasRead s.dispatcher m.dispatcher s.reader m.reader s.left m.left s.faults m.faults). (ap (λ (e : DispatcherState). e.terms) k.dispatcher, ap (λ (e : DispatcherState). e.sent) k.dispatcher)) fetch.reads

  -- a turn of a dispatcher that isn't short of memory is the run's turn, whatever packets the run goes on with
  pub turn_of_run : {S : Type 0} (x : Workload S) (j : Setting) (r : RunState) (d d' : DispatcherState) (f f' : LocalRunView (TableOf S)) (reader reader' : Reading) (left left' : Option (List ℕ)) (faults faults' : ℕ)
      → IsAt x r d f → HaveRoom r f → f'.key ≡ f.key → f'.workers ≡ f.workers → d'.short ≡ false → TiedIn packets p (dispatcher_snapshot_over d f reader left faults) → IsRunOf all j r d.terms → x.cost ≡ d.terms.cost → r.steps ≡ story d p.packets
      → (turn : DispatcherTurn) → turns.IsTurn (dispatcher_snapshot_over d f reader left faults) turn (dispatcher_snapshot_over d' f' reader' left' faults')
      → (ps : List PacketInfo) → Grows turn p.packets ps (dispatcher_snapshot_over d f reader left faults).outs.lanes (dispatcher_snapshot_over d' f' reader' left' faults').outs.lanes → HasPacketsLeft all ps d'
      → IsAt x (dispatcher_turn j r) d' f' × ((dispatcher_turn j r).steps ≡ story d' ps)
  turn_of_run {S} x j r d d' f f' reader reader' left left' faults faults' at rooms key workers still tied is cost told turn rule ps grows c =
      let before = before_turn (dispatcher_snapshot_over d f reader left faults) (dispatcher_snapshot_over d' f' reader' left' faults') tied turn ps grows rule c in
      let ready = ready_of r.machine packets p d (dispatcher_snapshot_over d f reader left faults).outs.lanes f.shelf.history f.meter.history reader left tied at.dispatcher in
      run_then x j r d d' f f' reader reader' left left' faults faults' at rooms ready key workers still packets p tied is.rules told all is.parcels_are (held_list d.held ++ before.rest) before.is cost turn rule
      (λ m fetch next.
      let same = same_terms (dispatcher_snapshot_over d f reader left faults) m fetch in let n = same.1 in
      let sent : r.machine.sent ≡ length p.packets = (let e = at.dispatcher.sent in let q = sent-is d p.packets tied.dealt in omega arith) in (
        goes_on r.machine j.parcels all p.packets m.dispatcher is.packets_are (is.parcels_are ∙ ap (λ (z : Terms). parcels z all) (sym same.0)) sent
            (next_goes (dispatcher_snapshot_over d f reader left faults) m (dispatcher_snapshot_over d' f' reader' left' faults') tied fetch turn ps grows next c)
            (none_ended (dispatcher_snapshot_over d f reader left faults) m tied fetch),
        λ q. bucket_of_run m.dispatcher d (same.0) q (let b = bucket-below d.terms.key (buckets_of d.terms) q (let some = tied.sound.table.some_bucket in omega arith) in let wide = at.dispatcher.buckets in omega arith),
      )) ps grows where
        bucket_of_run : (e d : DispatcherState) → e.terms ≡ d.terms → (q : PacketInfo) → bucket_for d q < length r.machine.buckets → bucket_for e q < length r.machine.buckets
        bucket_of_run e d same q h = subst (λ z. Rattle.toeplitz.specs.Bucket.bucket_of z.key (buckets_of z) q < length r.machine.buckets) (sym same) h
