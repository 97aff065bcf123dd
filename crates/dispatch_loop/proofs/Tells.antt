-- Behind a turn the story goes on with the steps of its rule.
use Rattle.std.proofs.Common.{◌≡◌, ℕ, zero, suc, ◌<◌, List, [], ◌∷◌, ◌++◌, length, get_or, sym, ap, ◌∙◌, subst, arith, Option, ⊎_elim, inl, inr, length-append}
use Rattle.std.proofs.lemmas.List.{append-nil}
use Rattle.std.proofs.Math.Seq.{get_or-append_seam}
use Rattle.packet_fields.specs.declared.packet.PacketInfo.{PacketInfo}
use Rattle.indirection.specs.Tries.{Ask, Proposed, ask_bucket, ask_to}
use Rattle.indirection.specs.declared.outcome.Outcome.{Outcome}
use Rattle.indirection.specs.Story as story_as
use Rattle.indirection.specs.Story.{Step, Rounds, Sends}
use Rattle.indirection.specs.Due.{TryDue}
use Rattle.core_queue.specs.declared.history.LaneHistory.{LaneHistory}
use Rattle.core_queue.specs.declared.item.Seen.{Seen}
use Rattle.core_queue.specs.declared.item.Seen.TheVariants.{Packet, Close}
use Rattle.core_queue.specs.LaneHistory.{sent_on}
use Rattle.handover_words.specs.declared.history.ShelfHistory.{ShelfHistory}
use Rattle.handover_words.specs.Stock.{Stock}
use Rattle.load_meter.specs.declared.history.LoadHistory.{LoadHistory}
use Rattle.pcap_reader.specs.Reading.{Reading}
use Rattle.dispatch_loop.specs.declared.dispatcher_turn.DispatcherTurn.{DispatcherTurn}
use Rattle.dispatch_loop.specs.declared.dispatcher_turn.DispatcherTurn.TheVariants as turn
use Rattle.dispatch_loop.specs.Terms.{cores_of, buckets_of}
use Rattle.dispatch_loop.specs.DispatcherState.{DispatcherState}
use Rattle.dispatch_loop.specs.Asks.{due_now, rest_of}
use Rattle.dispatch_loop.specs.Lanes.{changed_at}
use Rattle.dispatch_loop.specs.Past.{Past, parcel_of, story}
use Rattle.dispatch_loop.specs.DispatcherSnapshot.{Outs, DispatcherSnapshot}
use Rattle.dispatch_loop.specs.Does.{noted, decided, cell_of, bucket_for, owner_for, without_round, loads_of, read_from}
use Rattle.dispatch_loop.specs.Rules.{IsTurn, Acts, IsNext, IsPacketTurn, Fetches, ReadsNext, HasRead, SendsPacket, SendsEnd, Passes, IsRoundRefused, Tries, Grows}
use Rattle.dispatch_loop.specs.Tied.{Tied, TiedIn}
use Rattle.dispatch_loop.specs.Steps.{round_by, tried_steps, packet_steps, next_steps, act_steps, turn_steps, next_packets, act_packets, turn_packets}
use Rattle.dispatch_loop.proofs.Acted.{round-here}
use Rattle.dispatch_loop.proofs.Carrying.{bucket-below}
use Rattle.dispatch_loop.proofs.Dues.{asked, IsProposed, IsOrdered}
use Rattle.dispatch_loop.proofs.Lawfuls.{next-proposal}
use Rattle.dispatch_loop.proofs.StorySteps.{told-packet, told-round, told-order, told-outcome}
use Rattle.dispatch_loop.proofs.Ties.{sent-is, tied-refused}

-- what was sent on a lane is known by the lanes

abbrev sent_of : List LaneHistory → List Seen
sent_of [] = []
sent_of (e ∷ es) = e.sent

last-same : (xs : List Seen) (x y : Seen) → xs ++ x ∷ [] ≡ xs ++ y ∷ [] → x ≡ y
last-same xs x y e = sym (get_or-append_seam xs x [] x) ∙ (ap (λ (z : List Seen). get_or z (length xs) x) e ∙ get_or-append_seam xs y [] x)

longer : (xs : List Seen) (x : Seen) → xs ≡ xs ++ x ∷ [] → ⊥
longer xs x e = let n = ap (λ (z : List Seen). length z) e in let l = length-append xs (x ∷ []) in absurd (omega arith)

pub sent-same : (c d : ℕ) (x y : Seen) (l : List LaneHistory) → d < length l → changed_at c (sent_on x) l ≡ changed_at d (sent_on y) l → x ≡ y
sent-same c d x y [] h e = absurd (omega arith)
sent-same zero zero x y (k ∷ l) h e = last-same k.sent x y (ap sent_of e)
sent-same (suc c) zero x y (k ∷ l) h e = absurd (longer k.sent y (ap sent_of e))
sent-same zero (suc d) x y (k ∷ l) h e = absurd (longer k.sent x (sym (ap sent_of e)))
sent-same (suc c) (suc d) x y (k ∷ l) h e = sent-same c d x y l (omega arith) (ap (λ (z : List LaneHistory). rest_of z) e)

abbrev info_or : PacketInfo → Seen → PacketInfo
info_or z (Packet f) = f.info
info_or z Close = z

module _ (packets : Option (List PacketInfo)) (p : Past) where
  -- a try
  module _ (f : DispatcherState) (lanes : List LaneHistory) (v : ShelfHistory) (m : LoadHistory) (r : Reading) (l : Option (List ℕ)) (t : Tied packets p f lanes v m r l) where
    sent : f.sent ≡ length p.packets
    sent = sent-is f p.packets t.dealt

    tells-tried : (a : Ask) (o : Outcome) → due_now f ≡ TryDue a → story (noted (decided f (ask_bucket a) (ask_to a) o) a o) p.packets ≡ story f p.packets ++ story_as.Tries a o ∷ []
    tells-tried a o d = ⊎_elim
        (λ (w : IsProposed f a).
        let here = round-here packets p f lanes v m r l t a w in
        subst (λ (b : Ask). story (noted (decided f (ask_bucket b) (ask_to b) o) b o) p.packets ≡ story f p.packets ++ story_as.Tries b o ∷ []) (sym w.ask)
        (told-outcome f.terms p.packets f.journal.entries here.front here.round w.proposal o t.within here.entries (here.at ∙ sent) (next-proposal f here w.proposal w.rest w.are)
        ∙ ap (λ (n : ℕ). story f p.packets ++ story_as.Tries (Proposed n w.proposal) o ∷ []) here.at))
        (λ (w : IsOrdered f a).
        subst (λ (b : Ask). story (noted (decided f (ask_bucket b) (ask_to b) o) b o) p.packets ≡ story f p.packets ++ story_as.Tries b o ∷ []) (sym w.ask)
        (told-order f.terms p.packets f.journal.entries w.order o t.within (w.at ∙ sent)))
        (asked f a t.orders.ahead d)

    tells-tries : {T : Type 0} (a : Ask) (f' : DispatcherState) (os : Outs) (n : Option (Stock T)) (os' : Outs) (v' : ShelfHistory) (n' : Option (Stock T)) → due_now f ≡ TryDue a → (answer : DispatcherTurn) → (ps : List PacketInfo) → Grows answer p.packets ps os.lanes os'.lanes → (h : Tries answer a f f' os v n os' v' n')
        → story f' ps ≡ story f p.packets ++ tried_steps answer a f f' os v n os' v' n' h
    tells-tries a f' os n os' v' n' d turn.Ordered ps g h = (λ i. story (h.dispatcher i) (g i)) ∙ tells-tried a h.outcome d
    tells-tries a f' os n os' v' n' d turn.NoCell ps g h = (λ i. story (h.dispatcher i) (g i)) ∙ sym (append-nil (story f p.packets))
    tells-tries a f' os n os' v' n' d (turn.LaneFull c) ps g h = (λ i. story (h.dispatcher i) (g i)) ∙ sym (append-nil (story f p.packets))
    tells-tries a f' os n os' v' n' d turn.Sent ps g h = absurd h
    tells-tries a f' os n os' v' n' d turn.Round ps g h = absurd h
    tells-tries a f' os n os' v' n' d turn.EndSent ps g h = absurd h
    tells-tries a f' os n os' v' n' d (turn.Finished e) ps g h = absurd h

    -- the packet that was fetched
    tells-packet : (f1 f' : DispatcherState) (os os' : Outs) (info : PacketInfo) → os.lanes ≡ lanes → story f1 p.packets ≡ story f p.packets → f1.terms ≡ f.terms → f1.journal ≡ f.journal → owner_for f1 info < cores_of f.terms → (answer : DispatcherTurn) → (ps : List PacketInfo) → Grows answer p.packets ps os.lanes os'.lanes → SendsPacket answer info f1 f' os os'
        → story f' ps ≡ story f p.packets ++ packet_steps answer f1.terms info
    tells-packet f1 f' os os' info at same terms journal inside turn.Sent ps g h =
        let w = t.sent.wide in let k = ap (λ (z : List LaneHistory). length z) at in
        let cell : Packet g.2.1 ≡ Packet (cell_of f1 info) = sent-same g.2.0 (owner_for f1 info) (Packet g.2.1) (Packet (cell_of f1 info)) os.lanes (omega arith) (sym g.2.3 ∙ h.sends.pushes.0) in
        let is : g.0 ≡ info = sym g.2.2 ∙ ap (info_or info) cell in
        let list : ps ≡ p.packets ++ info ∷ [] = g.1 ∙ ap (λ (z : PacketInfo). p.packets ++ z ∷ []) is in
        (λ i. story (h.dispatcher i) (list i))
        ∙ ((λ i. story (record f1 { terms = terms i; journal = journal i }) (p.packets ++ info ∷ []))
        ∙ (told-packet f.terms p.packets f.journal.entries info t.within
        ∙ ap (λ z. story f p.packets ++ Sends (parcel_of z info) ∷ []) (sym terms)))
    tells-packet f1 f' os os' info at same terms journal inside turn.NoCell ps g h = (λ i. story (h.dispatcher i) (g i)) ∙ (same ∙ sym (append-nil (story f p.packets)))
    tells-packet f1 f' os os' info at same terms journal inside (turn.LaneFull c) ps g h = (λ i. story (h.dispatcher i) (g i)) ∙ (same ∙ sym (append-nil (story f p.packets)))
    tells-packet f1 f' os os' info at same terms journal inside turn.Ordered ps g h = absurd h
    tells-packet f1 f' os os' info at same terms journal inside turn.Round ps g h = absurd h
    tells-packet f1 f' os os' info at same terms journal inside turn.EndSent ps g h = absurd h
    tells-packet f1 f' os os' info at same terms journal inside (turn.Finished e) ps g h = absurd h

    tells-end : (f1 f' : DispatcherState) (os os' : Outs) → story f1 p.packets ≡ story f p.packets → (answer : DispatcherTurn) → (ps : List PacketInfo) → Grows answer p.packets ps os.lanes os'.lanes → SendsEnd answer f1 f' os.lanes os.lanes_now os'.lanes os'.lanes_now
        → story f' ps ≡ story f p.packets ++ []
    tells-end f1 f' os os' same turn.EndSent ps g h = (λ i. story (h.dispatcher i) (g i)) ∙ (same ∙ sym (append-nil (story f p.packets)))
    tells-end f1 f' os os' same (turn.LaneFull c) ps g h = (λ i. story (h.dispatcher i) (g i)) ∙ (same ∙ sym (append-nil (story f p.packets)))
    tells-end f1 f' os os' same (turn.Finished e) ps g h = (λ i. story (h.dispatcher i) (g i)) ∙ (same ∙ sym (append-nil (story f p.packets)))
    tells-end f1 f' os os' same turn.Sent ps g h = absurd h
    tells-end f1 f' os os' same turn.NoCell ps g h = absurd h
    tells-end f1 f' os os' same turn.Round ps g h = absurd h
    tells-end f1 f' os os' same turn.Ordered ps g h = absurd h

  -- what a fetch leaves
  record IsKept (f f1 : DispatcherState) : Type 0 where
    terms : f1.terms ≡ f.terms
    journal : f1.journal ≡ f.journal
    owners : f1.owners ≡ f.owners

  kept : {T : Type 0} (s m : DispatcherSnapshot T) → Fetches s m → IsKept s.dispatcher m.dispatcher
  kept s m k = ⊎_elim
      (λ (z : ReadsNext s.dispatcher m.dispatcher s.faults m.faults). record { terms = ap (λ (e : DispatcherState). e.terms) z.dispatcher; journal = ap (λ (e : DispatcherState). e.journal) z.dispatcher; owners = ap (λ (e : DispatcherState). e.owners) z.dispatcher })
      (λ (z : HasRead s.dispatcher m.dispatcher s.reader m.reader s.left m.left s.faults m.faults). record { terms = ap (λ (e : DispatcherState). e.terms) z.dispatcher; journal = ap (λ (e : DispatcherState). e.journal) z.dispatcher; owners = ap (λ (e : DispatcherState). e.owners) z.dispatcher }) k.reads

  tells-next : {T : Type 0} (s m t : DispatcherSnapshot T) → TiedIn packets p s → Fetches s m → (answer : DispatcherTurn) → (ps : List PacketInfo) → Grows answer p.packets ps s.outs.lanes t.outs.lanes → (h : IsNext answer m t) → story t.dispatcher ps ≡ story s.dispatcher p.packets ++ next_steps answer m t h
  tells-next s m t tied fetch answer ps g (inl k) =
      let keeps = kept s m fetch in let f = s.dispatcher in let info = k.0 in
      let some : bucket_for m.dispatcher info < buckets_of f.terms = bucket-same m.dispatcher f keeps.terms info (bucket-below f.terms.key (buckets_of f.terms) info (let s = tied.sound.table.some_bucket in omega arith)) in
      tells-packet f s.outs.lanes s.shelf s.meter s.reader s.left tied m.dispatcher t.dispatcher m.outs t.outs info (ap (λ (o : Outs). o.lanes) fetch.outs) (λ i. story (record m.dispatcher { terms = keeps.terms i; journal = keeps.journal i }) p.packets) keeps.terms keeps.journal
      (subst (λ (os : List ℕ). get_or os (bucket_for m.dispatcher info) 0 < cores_of f.terms) (sym keeps.owners) (tied.dealt.inside (bucket_for m.dispatcher info) some))
      answer ps (subst (λ (o : Outs). Grows answer p.packets ps o.lanes t.outs.lanes) (sym fetch.outs) g) k.1.sends where
        bucket-same : (f1 f : DispatcherState) → f1.terms ≡ f.terms → (info : PacketInfo) → bucket_for f info < buckets_of f.terms → bucket_for f1 info < buckets_of f.terms
        bucket-same f1 f e info h = subst (λ z. Rattle.toeplitz.specs.Bucket.bucket_of z.key (buckets_of z) info < buckets_of f.terms) (sym e) h
  tells-next s m t tied fetch answer ps g (inr k) =
      let keeps = kept s m fetch in
      tells-end s.dispatcher s.outs.lanes s.shelf s.meter s.reader s.left tied m.dispatcher t.dispatcher m.outs t.outs (λ i. story (record m.dispatcher { terms = keeps.terms i; journal = keeps.journal i }) p.packets) answer ps (subst (λ (o : Outs). Grows answer p.packets ps o.lanes t.outs.lanes) (sym fetch.outs) g) k.sends

  tells-acts : {T : Type 0} (s t : DispatcherSnapshot T) → TiedIn packets p s → (answer : DispatcherTurn) → (ps : List PacketInfo) → Grows answer p.packets ps s.outs.lanes t.outs.lanes → (h : Acts answer s t) → story t.dispatcher ps ≡ story s.dispatcher p.packets ++ act_steps answer s t h
  tells-acts s t tied answer ps g (inl k) = tells-tries s.dispatcher s.outs.lanes s.shelf s.meter s.reader s.left tied k.ask t.dispatcher s.outs s.shelf_now t.outs t.shelf t.shelf_now k.due answer ps g k.tries
  tells-acts s t tied answer ps g (inr k) = tells-next s k.0 t tied k.1 answer ps g k.2

  -- memory that was refused to a round leaves the story
  pub refused-tied : {T : Type 0} (s m : DispatcherSnapshot T) → TiedIn packets p s → IsRoundRefused s m → TiedIn packets p m
  refused-tied s m t k =
      subst (λ (z : DispatcherState). Tied packets p z m.outs.lanes m.shelf m.meter m.reader m.left) (sym k.dispatcher)
      (subst (λ (z : Outs). Tied packets p (without_round s.dispatcher) z.lanes m.shelf m.meter m.reader m.left) (sym k.outs)
      (subst (λ (z : ShelfHistory). Tied packets p (without_round s.dispatcher) s.outs.lanes z m.meter m.reader m.left) (sym k.shelf.0)
      (subst (λ (z : LoadHistory). Tied packets p (without_round s.dispatcher) s.outs.lanes s.shelf z m.reader m.left) (sym k.reads.history)
      (subst (λ (z : Reading). Tied packets p (without_round s.dispatcher) s.outs.lanes s.shelf (read_from 0 k.readings s.meter) z m.left) (sym k.reader.0)
      (subst (λ (z : Option (List ℕ)). Tied packets p (without_round s.dispatcher) s.outs.lanes s.shelf (read_from 0 k.readings s.meter) s.reader z) (sym k.reader.1)
      (tied-refused packets p s.dispatcher s.outs.lanes s.shelf s.meter s.reader s.left t k.due k.readings))))))

  tells-passed : {T : Type 0} (s m t : DispatcherSnapshot T) → TiedIn packets p s → Passes s m → (answer : DispatcherTurn) → (ps : List PacketInfo) → Grows answer p.packets ps s.outs.lanes t.outs.lanes → (h : Acts answer m t) → story t.dispatcher ps ≡ story s.dispatcher p.packets ++ act_steps answer m t h
  tells-passed {T} s m t tied (inl w) answer ps g = subst (λ (z : DispatcherSnapshot T). (h : Acts answer z t) → story t.dispatcher ps ≡ story s.dispatcher p.packets ++ act_steps answer z t h) (sym w.1) (tells-acts s t tied answer ps g)
  tells-passed {T} s m t tied (inr k) answer ps g = λ h.
      tells-acts m t (refused-tied s m tied k) answer ps (subst (λ (o : Outs). Grows answer p.packets ps o.lanes t.outs.lanes) (sym k.outs) g) h
      ∙ (λ i. story (k.dispatcher i) p.packets ++ act_steps answer m t h)

  pub tells-on : {T : Type 0} (s t : DispatcherSnapshot T) → TiedIn packets p s → (answer : DispatcherTurn) → (ps : List PacketInfo) → Grows answer p.packets ps s.outs.lanes t.outs.lanes → (rule : IsTurn s answer t) → story t.dispatcher ps ≡ story s.dispatcher p.packets ++ turn_steps s answer t rule
  tells-on s t tied turn.Round ps g h = (λ i. story (h.dispatcher i) (g i)) ∙ told-round s.dispatcher.terms p.packets s.dispatcher.journal.entries s.dispatcher.sent (loads_of s.dispatcher h.readings) (round_by s.dispatcher h.readings).proposals tied.within (sent-is s.dispatcher p.packets tied.dealt)
  tells-on s t tied turn.Sent ps g h = tells-passed s h.0 t tied h.1 turn.Sent ps g h.2
  tells-on s t tied turn.Ordered ps g h = tells-passed s h.0 t tied h.1 turn.Ordered ps g h.2
  tells-on s t tied turn.EndSent ps g h = tells-passed s h.0 t tied h.1 turn.EndSent ps g h.2
  tells-on s t tied turn.NoCell ps g h = tells-passed s h.0 t tied h.1 turn.NoCell ps g h.2
  tells-on s t tied (turn.LaneFull c) ps g h = tells-passed s h.0 t tied h.1 (turn.LaneFull c) ps g h.2
  tells-on s t tied (turn.Finished e) ps g h = tells-passed s h.0 t tied h.1 (turn.Finished e) ps g h.2

  -- what was sent is the packet that was held
  pub sent-next : {T : Type 0} (s m t : DispatcherSnapshot T) → TiedIn packets p s → Fetches s m → (info : PacketInfo) → (ps : List PacketInfo) → Grows turn.Sent p.packets ps s.outs.lanes t.outs.lanes → IsPacketTurn turn.Sent info m t → ps ≡ p.packets ++ info ∷ []
  sent-next s m t tied fetch info ps g k =
      let keeps = kept s m fetch in let f = s.dispatcher in
      let some : bucket_for m.dispatcher info < buckets_of f.terms = bucket-same m.dispatcher f keeps.terms info (bucket-below f.terms.key (buckets_of f.terms) info (let s = tied.sound.table.some_bucket in omega arith)) in
      let inside : owner_for m.dispatcher info < cores_of f.terms = subst (λ (os : List ℕ). get_or os (bucket_for m.dispatcher info) 0 < cores_of f.terms) (sym keeps.owners) (tied.dealt.inside (bucket_for m.dispatcher info) some) in
      let w = tied.sent.wide in let n = ap (λ (o : Outs). length o.lanes) fetch.outs in
      let cell : Packet g.2.1 ≡ Packet (cell_of m.dispatcher info) = sent-same g.2.0 (owner_for m.dispatcher info) (Packet g.2.1) (Packet (cell_of m.dispatcher info)) m.outs.lanes (omega arith) (ap (λ (o : Outs). changed_at g.2.0 (sent_on (Packet g.2.1)) o.lanes) fetch.outs ∙ (sym g.2.3 ∙ k.sends.sends.pushes.0)) in
      let is : g.0 ≡ info = sym g.2.2 ∙ ap (info_or info) cell in
      g.1 ∙ ap (λ (z : PacketInfo). p.packets ++ z ∷ []) is where
        bucket-same : (f1 f : DispatcherState) → f1.terms ≡ f.terms → (info : PacketInfo) → bucket_for f info < buckets_of f.terms → bucket_for f1 info < buckets_of f.terms
        bucket-same f1 f e info h = subst (λ z. Rattle.toeplitz.specs.Bucket.bucket_of z.key (buckets_of z) info < buckets_of f.terms) (sym e) h

  -- the packets of the rule are those that were sent
  packets-acts : {T : Type 0} (s t : DispatcherSnapshot T) → TiedIn packets p s → (ps : List PacketInfo) → Grows turn.Sent p.packets ps s.outs.lanes t.outs.lanes → (h : Acts turn.Sent s t) → ps ≡ p.packets ++ act_packets s t h
  packets-acts {T} s t tied ps g (inl k) = absurd k.tries
  packets-acts {T} s t tied ps g (inr k) = packets-next k.0 k.1 k.2
    where
      packets-next : (m : DispatcherSnapshot T) → Fetches s m → (h : IsNext turn.Sent m t) → ps ≡ p.packets ++ next_packets m t h
      packets-next m fetch (inl w) = sent-next s m t tied fetch w.0 ps g w.1
      packets-next m fetch (inr w) = absurd w.sends

  packets-passed : {T : Type 0} (s m t : DispatcherSnapshot T) → TiedIn packets p s → Passes s m → (ps : List PacketInfo) → Grows turn.Sent p.packets ps s.outs.lanes t.outs.lanes → (h : Acts turn.Sent m t) → ps ≡ p.packets ++ act_packets m t h
  packets-passed {T} s m t tied (inl w) ps g = subst (λ (z : DispatcherSnapshot T). (h : Acts turn.Sent z t) → ps ≡ p.packets ++ act_packets z t h) (sym w.1) (packets-acts s t tied ps g)
  packets-passed {T} s m t tied (inr k) ps g = λ h. packets-acts m t (refused-tied s m tied k) ps (subst (λ (o : Outs). Grows turn.Sent p.packets ps o.lanes t.outs.lanes) (sym k.outs) g) h

  pub packets-on : {T : Type 0} (s t : DispatcherSnapshot T) → TiedIn packets p s → (answer : DispatcherTurn) → (ps : List PacketInfo) → Grows answer p.packets ps s.outs.lanes t.outs.lanes → (rule : IsTurn s answer t) → ps ≡ p.packets ++ turn_packets s answer t rule
  packets-on s t tied turn.Sent ps g h = packets-passed s h.0 t tied h.1 ps g h.2
  packets-on s t tied turn.Round ps g h = g ∙ sym (append-nil p.packets)
  packets-on s t tied turn.Ordered ps g h = g ∙ sym (append-nil p.packets)
  packets-on s t tied turn.EndSent ps g h = g ∙ sym (append-nil p.packets)
  packets-on s t tied turn.NoCell ps g h = g ∙ sym (append-nil p.packets)
  packets-on s t tied (turn.LaneFull c) ps g h = g ∙ sym (append-nil p.packets)
  packets-on s t tied (turn.Finished e) ps g h = g ∙ sym (append-nil p.packets)
