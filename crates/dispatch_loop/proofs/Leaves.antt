-- What a turn of the dispatcher leaves: its terms, and the tie of a read fault to the count of failed reads.
use Rattle.std.proofs.Common.{◌≡◌, ℕ, refl, sym, ap, ◌∙◌, subst, inl, inr, ⊎_elim, Option}
use Rattle.packet_fields.specs.declared.packet.PacketInfo.{PacketInfo}
use Rattle.indirection.specs.declared.outcome.Outcome.{Outcome}
use Rattle.indirection.specs.Tries.{Ask, Proposed, ask_bucket, ask_to}
use Rattle.indirection.specs.Tries as asks
use Rattle.handover_words.specs.declared.history.ShelfHistory.{ShelfHistory}
use Rattle.handover_words.specs.Stock.{Stock}
use Rattle.dispatch_loop.specs.declared.dispatcher_turn.DispatcherTurn.{DispatcherTurn}
use Rattle.dispatch_loop.specs.declared.dispatcher_turn.DispatcherTurn.TheVariants.{Sent, Round, Ordered, EndSent, NoCell, LaneFull, Finished}
use Rattle.dispatch_loop.specs.DispatcherState.{DispatcherState}
use Rattle.dispatch_loop.specs.Does.{noted, decided}
use Rattle.dispatch_loop.specs.DispatcherSnapshot.{Outs, DispatcherSnapshot}
use Rattle.dispatch_loop.specs.Rules as turns
use Rattle.dispatch_loop.specs.Rules.{Acts, Fetches, ReadsNext, HasRead, IsNext, IsRoundMade, IsRoundRefused, IsPacketTurn, IsEndTurn, SendsPacket, SendsEnd, Passes, BlamesRead}
use Rattle.dispatch_loop.specs.declared.dispatcher_end.DispatcherEnd.{DispatcherEnd}

packet_terms : (turn : DispatcherTurn) (p : PacketInfo) (f f' : DispatcherState) (o o' : Outs) → SendsPacket turn p f f' o o' → f'.terms ≡ f.terms
packet_terms Sent p f f' o o' h = ap (λ (z : DispatcherState). z.terms) h.dispatcher
packet_terms NoCell p f f' o o' h = ap (λ (z : DispatcherState). z.terms) h.dispatcher
packet_terms (LaneFull c) p f f' o o' h = ap (λ (z : DispatcherState). z.terms) h.dispatcher
packet_terms Ordered p f f' o o' h = absurd h
packet_terms Round p f f' o o' h = absurd h
packet_terms EndSent p f f' o o' h = absurd h
packet_terms (Finished e) p f f' o o' h = absurd h

packet_end : (turn : DispatcherTurn) (p : PacketInfo) (f f' : DispatcherState) (o o' : Outs) → SendsPacket turn p f f' o o' → f'.end ≡ f.end
packet_end Sent p f f' o o' h = ap (λ (z : DispatcherState). z.end) h.dispatcher
packet_end NoCell p f f' o o' h = ap (λ (z : DispatcherState). z.end) h.dispatcher
packet_end (LaneFull c) p f f' o o' h = ap (λ (z : DispatcherState). z.end) h.dispatcher
packet_end Ordered p f f' o o' h = absurd h
packet_end Round p f f' o o' h = absurd h
packet_end EndSent p f f' o o' h = absurd h
packet_end (Finished e) p f f' o o' h = absurd h

noted_terms : (f : DispatcherState) (a : Ask) (o : Outcome) → (noted (decided f (ask_bucket a) (ask_to a) o) a o).terms ≡ f.terms
noted_terms f (Proposed at q) o = refl
noted_terms f (asks.Ordered q) o = refl

noted_end : (f : DispatcherState) (a : Ask) (o : Outcome) → (noted (decided f (ask_bucket a) (ask_to a) o) a o).end ≡ f.end
noted_end f (Proposed at q) o = refl
noted_end f (asks.Ordered q) o = refl

module _ {T : Type 0} where
  -- a turn leaves the terms
  tries_terms : (turn : DispatcherTurn) (a : Ask) (f f' : DispatcherState) (os : Outs) (v : ShelfHistory) (n : Option (Stock T)) (os' : Outs) (v' : ShelfHistory) (n' : Option (Stock T)) → turns.Tries turn a f f' os v n os' v' n' → f'.terms ≡ f.terms
  tries_terms Ordered a f f' os v n os' v' n' h = ap (λ (z : DispatcherState). z.terms) h.dispatcher ∙ noted_terms f a h.outcome
  tries_terms NoCell a f f' os v n os' v' n' h = ap (λ (z : DispatcherState). z.terms) h.dispatcher
  tries_terms (LaneFull c) a f f' os v n os' v' n' h = ap (λ (z : DispatcherState). z.terms) h.dispatcher
  tries_terms Sent a f f' os v n os' v' n' h = absurd h
  tries_terms Round a f f' os v n os' v' n' h = absurd h
  tries_terms EndSent a f f' os v n os' v' n' h = absurd h
  tries_terms (Finished e) a f f' os v n os' v' n' h = absurd h

  end_terms : (turn : DispatcherTurn) (s t : DispatcherSnapshot T) → IsEndTurn turn s t → t.dispatcher.terms ≡ s.dispatcher.terms
  end_terms turn s t h = by turn h.sends where
    by : (turn : DispatcherTurn) → SendsEnd turn s.dispatcher t.dispatcher s.outs.lanes s.outs.lanes_now t.outs.lanes t.outs.lanes_now → t.dispatcher.terms ≡ s.dispatcher.terms
    by EndSent k = ap (λ (z : DispatcherState). z.terms) k.dispatcher
    by (LaneFull c) k = ap (λ (z : DispatcherState). z.terms) k.dispatcher
    by (Finished e) k = ap (λ (z : DispatcherState). z.terms) k.dispatcher
    by Sent k = absurd k
    by NoCell k = absurd k
    by Round k = absurd k
    by Ordered k = absurd k

  fetch_terms : (s m : DispatcherSnapshot T) → Fetches s m → m.dispatcher.terms ≡ s.dispatcher.terms
  fetch_terms s m fetch = ⊎_elim
      (λ (k : ReadsNext s.dispatcher m.dispatcher s.faults m.faults). ap (λ (z : DispatcherState). z.terms) k.dispatcher)
      (λ (k : HasRead s.dispatcher m.dispatcher s.reader m.reader s.left m.left s.faults m.faults). ap (λ (z : DispatcherState). z.terms) k.dispatcher) fetch.reads

  acts_terms : (turn : DispatcherTurn) (s t : DispatcherSnapshot T) → Acts turn s t → t.dispatcher.terms ≡ s.dispatcher.terms
  acts_terms turn s t (inl k) = tries_terms turn k.ask s.dispatcher t.dispatcher s.outs s.shelf s.shelf_now t.outs t.shelf t.shelf_now k.tries
  acts_terms turn s t (inr (m, fetch, inl k)) = packet_terms turn k.0 m.dispatcher t.dispatcher m.outs t.outs k.1.sends ∙ fetch_terms s m fetch
  acts_terms turn s t (inr (m, fetch, inr k)) = end_terms turn m t k ∙ fetch_terms s m fetch

  passes_terms : (s m : DispatcherSnapshot T) → Passes s m → m.dispatcher.terms ≡ s.dispatcher.terms
  passes_terms s m (inl k) = ap (λ (z : DispatcherSnapshot T). z.dispatcher.terms) k.1
  passes_terms s m (inr k) = ap (λ (z : DispatcherState). z.terms) k.dispatcher

  pub turn_terms : (s t : DispatcherSnapshot T) (turn : DispatcherTurn) → turns.IsTurn s turn t → t.dispatcher.terms ≡ s.dispatcher.terms
  turn_terms s t Round h = ap (λ (z : DispatcherState). z.terms) h.dispatcher
  turn_terms s t Sent h = acts_terms Sent h.0 t h.2 ∙ passes_terms s h.0 h.1
  turn_terms s t Ordered h = acts_terms Ordered h.0 t h.2 ∙ passes_terms s h.0 h.1
  turn_terms s t EndSent h = acts_terms EndSent h.0 t h.2 ∙ passes_terms s h.0 h.1
  turn_terms s t NoCell h = acts_terms NoCell h.0 t h.2 ∙ passes_terms s h.0 h.1
  turn_terms s t (LaneFull c) h = acts_terms (LaneFull c) h.0 t h.2 ∙ passes_terms s h.0 h.1
  turn_terms s t (Finished e) h = acts_terms (Finished e) h.0 t h.2 ∙ passes_terms s h.0 h.1

  -- blames: a read that failed ended the stream with a read fault, and nothing else is behind one
  tries_end : (turn : DispatcherTurn) (a : Ask) (f f' : DispatcherState) (os : Outs) (v : ShelfHistory) (n : Option (Stock T)) (os' : Outs) (v' : ShelfHistory) (n' : Option (Stock T)) → turns.Tries turn a f f' os v n os' v' n' → f'.end ≡ f.end
  tries_end Ordered a f f' os v n os' v' n' h = ap (λ (z : DispatcherState). z.end) h.dispatcher ∙ noted_end f a h.outcome
  tries_end NoCell a f f' os v n os' v' n' h = ap (λ (z : DispatcherState). z.end) h.dispatcher
  tries_end (LaneFull c) a f f' os v n os' v' n' h = ap (λ (z : DispatcherState). z.end) h.dispatcher
  tries_end Sent a f f' os v n os' v' n' h = absurd h
  tries_end Round a f f' os v n os' v' n' h = absurd h
  tries_end EndSent a f f' os v n os' v' n' h = absurd h
  tries_end (Finished e) a f f' os v n os' v' n' h = absurd h

  end_end : (turn : DispatcherTurn) (s t : DispatcherSnapshot T) → IsEndTurn turn s t → t.dispatcher.end ≡ s.dispatcher.end
  end_end turn s t h = by turn h.sends where
    by : (turn : DispatcherTurn) → SendsEnd turn s.dispatcher t.dispatcher s.outs.lanes s.outs.lanes_now t.outs.lanes t.outs.lanes_now → t.dispatcher.end ≡ s.dispatcher.end
    by EndSent k = ap (λ (z : DispatcherState). z.end) k.dispatcher
    by (LaneFull c) k = ap (λ (z : DispatcherState). z.end) k.dispatcher
    by (Finished e) k = ap (λ (z : DispatcherState). z.end) k.dispatcher
    by Sent k = absurd k
    by NoCell k = absurd k
    by Round k = absurd k
    by Ordered k = absurd k

  Blamed : ℕ → DispatcherSnapshot T → Type 0
  Blamed n s = BlamesRead s.dispatcher.end n s.faults

  fetch_blames : (n : ℕ) (s m : DispatcherSnapshot T) → Fetches s m → Blamed n s → Blamed n m
  unfolding Blamed
  fetch_blames n s m fetch b = ⊎_elim
      (λ (k : ReadsNext s.dispatcher m.dispatcher s.faults m.faults).
      let quiet : s.faults ≡ n = subst (λ (e : Option DispatcherEnd). BlamesRead e n s.faults) k.goes_on b in
      subst (λ (z : DispatcherState). BlamesRead z.end n m.faults) (sym k.dispatcher) (subst (λ (z : ℕ). BlamesRead k.end z m.faults) quiet k.blames))
      (λ (k : HasRead s.dispatcher m.dispatcher s.reader m.reader s.left m.left s.faults m.faults). subst (λ (z : DispatcherState). BlamesRead z.end n m.faults) (sym k.dispatcher) (subst (λ (z : ℕ). BlamesRead s.dispatcher.end n z) (sym k.faults_are) b)) fetch.reads

  same_blames : (n : ℕ) (s m : DispatcherSnapshot T) → m.dispatcher.end ≡ s.dispatcher.end → m.faults ≡ s.faults → Blamed n s → Blamed n m
  unfolding Blamed
  same_blames n s m e q b = subst (λ (z : Option DispatcherEnd). BlamesRead z n m.faults) (sym e) (subst (λ (z : ℕ). BlamesRead s.dispatcher.end n z) (sym q) b)

  acts_blame : (n : ℕ) (turn : DispatcherTurn) (s t : DispatcherSnapshot T) → Acts turn s t → Blamed n s → Blamed n t
  acts_blame n turn s t (inl k) b = same_blames n s t (tries_end turn k.ask s.dispatcher t.dispatcher s.outs s.shelf s.shelf_now t.outs t.shelf t.shelf_now k.tries) k.reader.2 b
  acts_blame n turn s t (inr (m, fetch, inl k)) b = same_blames n m t (packet_end turn k.0 m.dispatcher t.dispatcher m.outs t.outs k.1.sends) k.1.reader.2 (fetch_blames n s m fetch b)
  acts_blame n turn s t (inr (m, fetch, inr k)) b = same_blames n m t (end_end turn m t k) k.reader.2 (fetch_blames n s m fetch b)

  passes_blame : (n : ℕ) (s m : DispatcherSnapshot T) → Passes s m → Blamed n s → Blamed n m
  passes_blame n s m (inl k) b = same_blames n s m (ap (λ (z : DispatcherSnapshot T). z.dispatcher.end) k.1) (ap (λ (z : DispatcherSnapshot T). z.faults) k.1) b
  passes_blame n s m (inr k) b = same_blames n s m (ap (λ (z : DispatcherState). z.end) k.dispatcher) k.reader.2 b

  pub turn_blames : (n : ℕ) (s t : DispatcherSnapshot T) (turn : DispatcherTurn) → turns.IsTurn s turn t → BlamesRead s.dispatcher.end n s.faults → BlamesRead t.dispatcher.end n t.faults
  unfolding Blamed
  turn_blames n s t Round h b = same_blames n s t (ap (λ (z : DispatcherState). z.end) h.dispatcher) h.reader.2 b
  turn_blames n s t Sent h b = acts_blame n Sent h.0 t h.2 (passes_blame n s h.0 h.1 b)
  turn_blames n s t Ordered h b = acts_blame n Ordered h.0 t h.2 (passes_blame n s h.0 h.1 b)
  turn_blames n s t EndSent h b = acts_blame n EndSent h.0 t h.2 (passes_blame n s h.0 h.1 b)
  turn_blames n s t NoCell h b = acts_blame n NoCell h.0 t h.2 (passes_blame n s h.0 h.1 b)
  turn_blames n s t (LaneFull c) h b = acts_blame n (LaneFull c) h.0 t h.2 (passes_blame n s h.0 h.1 b)
  turn_blames n s t (Finished e) h b = acts_blame n (Finished e) h.0 t h.2 (passes_blame n s h.0 h.1 b)
