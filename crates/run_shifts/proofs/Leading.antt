-- A dispatcher's turns, one after the other.
use Rattle.std.proofs.Common.{◌≡◌, ℕ, suc, List, [], ◌∷◌, map, Option, None, ⊎_elim, refl, sym, ap, ◌∙◌, subst, length}
use Rattle.packet_fields.specs.declared.packet.PacketInfo.{PacketInfo}
use Rattle.handover_words.specs.declared.history.ShelfHistory.{ShelfHistory}
use Rattle.core_queue.specs.RuledLane.{AtLane}
use Rattle.dispatch_loop.specs.declared.dispatcher_end.DispatcherEnd.{DispatcherEnd}
use Rattle.dispatch_loop.specs.declared.dispatcher_turn.DispatcherTurn.{DispatcherTurn}
use Rattle.dispatch_loop.specs.declared.dispatcher_turn.DispatcherTurn.TheVariants.{Finished}
use Rattle.dispatch_loop.specs.DispatcherState.{DispatcherState}
use Rattle.dispatch_loop.specs.Past.{past}
use Rattle.dispatch_loop.specs.DispatcherSnapshot.{DispatcherSnapshot, outs, dispatcher_snapshot}
use Rattle.dispatch_loop.specs.Stays.{StaysTied, IsTied}
use Rattle.dispatch_loop.specs.Rules.{OnlyMeets, IsTurn, IsAsked, Fetches, IsNext, IsPacketTurn, IsEndTurn}
use Rattle.dispatch_loop.proofs.Leaves.{turn_terms, turn_blames}
use Rattle.run_shifts.specs.Parties.{DispatcherPartyState, party_snapshot, SameEnds}
use Rattle.run_shifts.specs.DispatcherTurns.{Leads, HasFinished}

meets_none : (e : ShelfHistory) → OnlyMeets e e
meets_none e = record { key = refl; buckets = refl; shares = refl; held = refl; ended = refl }

meets_on : (e e' e'' : ShelfHistory) → OnlyMeets e e' → OnlyMeets e' e'' → OnlyMeets e e''
meets_on e e' e'' a b = record { key = b.key ∙ a.key; buckets = b.buckets ∙ a.buckets; shares = b.shares ∙ a.shares; held = b.held ∙ a.held; ended = b.ended ∙ a.ended }

module _ {T : Type 0} where
  pub leads : (packets : Option (List PacketInfo)) (turn : DispatcherTurn) (s t : DispatcherSnapshot T) → StaysTied packets turn s t → IsTurn s turn t → OnlyMeets s.shelf t.shelf → Leads packets s t
  leads packets turn s t tied is meets = record {
    goes_on = λ p at. let h = tied.stays p at in (h.0, h.2);
    terms = turn_terms s t turn is;
    shelf = meets;
    blames = λ n b. turn_blames n s t turn is b;
  }

  pub leads_on : (packets : Option (List PacketInfo)) (s m t : DispatcherSnapshot T) → Leads packets s m → Leads packets m t → Leads packets s t
  leads_on packets s m t a b = record {
    goes_on = λ p at. let h = a.goes_on p at in let k = b.goes_on (past p.bytes h.0) h.1 in (k.0, k.1);
    terms = b.terms ∙ a.terms;
    shelf = meets_on s.shelf m.shelf t.shelf a.shelf b.shelf;
    blames = λ n h. b.blames n (a.blames n h);
  }

  pub leads_none : (packets : Option (List PacketInfo)) (s : DispatcherSnapshot T) → Leads packets s s
  leads_none packets s = record { goes_on = λ p at. (p.packets, at); terms = refl; shelf = meets_none s.shelf; blames = λ n b. b }

  pub stays_tied : (packets : Option (List PacketInfo)) (s t : DispatcherSnapshot T) → Leads packets s t → IsTied packets s → IsTied packets t
  stays_tied packets s t a at = let h = a.goes_on at.0 at.1 in (past at.0.bytes h.0, h.1)

  finished_end : (end : DispatcherEnd) (s t : DispatcherSnapshot T) → IsEndTurn (Finished end) s t → HasFinished end t.dispatcher
  finished_end end s t k = subst (λ (f : DispatcherState). HasFinished end f) (sym k.sends.dispatcher) (record { ended = k.sends.ended; all = k.sends.all })

  ended_turn : (end : DispatcherEnd) (s t : DispatcherSnapshot T) → IsTurn s (Finished end) t → HasFinished end t.dispatcher
  ended_turn end s t h = ⊎_elim (λ (k : IsAsked (Finished end) h.0 t). absurd k.tries)
      (λ (k : (m : DispatcherSnapshot T) × Fetches h.0 m × IsNext (Finished end) m t). ⊎_elim (λ (q : (p : PacketInfo) × IsPacketTurn (Finished end) p k.0 t). absurd q.1.sends) (λ (q : IsEndTurn (Finished end) k.0 t). finished_end end k.0 t q) k.2) h.2

  pub has_finished : (packets : Option (List PacketInfo)) (end : DispatcherEnd) (turn : DispatcherTurn) (s t : DispatcherSnapshot T) → StaysTied packets turn s t → turn ≡ Finished end → IsTurn s turn t → HasFinished end t.dispatcher
  has_finished packets end turn s t tied is h = ended_turn end s t (subst (λ (x : DispatcherTurn). IsTurn s x t) is h)

  -- a party's lanes are the slice that was lent
  pub leads_from : (packets : Option (List PacketInfo)) (d d' : DispatcherPartyState) (lanes : List AtLane) (left : Option (List ℕ)) (faults : ℕ) (t : DispatcherSnapshot T) → d ≡ d' → lanes ≡ d.lanes
      → Leads packets (dispatcher_snapshot d.state (outs (map (λ (e : AtLane). e.history) lanes) (map (λ (e : AtLane). None) lanes) d.pool.history None) d.shelf.history None d.meter.history None d.reader left faults) t → Leads packets (party_snapshot d' left faults) t
  leads_from packets d d' lanes left faults t is same h = subst (λ (x : DispatcherPartyState). Leads packets (party_snapshot x left faults) t) is
      (subst (λ (l : List AtLane). Leads packets (dispatcher_snapshot d.state (outs (map (λ (e : AtLane). e.history) l) (map (λ (e : AtLane). None) l) d.pool.history None) d.shelf.history None d.meter.history None d.reader left faults) t) same h)

  pub leads_to : (packets : Option (List PacketInfo)) (s : DispatcherSnapshot T) (d : DispatcherPartyState) (lanes : List AtLane) (left : Option (List ℕ)) (faults : ℕ) → lanes ≡ d.lanes
      → Leads packets s (dispatcher_snapshot d.state (outs (map (λ (e : AtLane). e.history) lanes) (map (λ (e : AtLane). None) lanes) d.pool.history None) d.shelf.history None d.meter.history None d.reader left faults) → Leads packets s (party_snapshot d left faults)
  leads_to packets s d lanes left faults same h =
      subst (λ (l : List AtLane). Leads packets s (dispatcher_snapshot d.state (outs (map (λ (e : AtLane). e.history) l) (map (λ (e : AtLane). None) l) d.pool.history None) d.shelf.history None d.meter.history None d.reader left faults)) same h

module _ {T X : Type 0} where
  -- what a dispatcher's party and a source came to is what they are given back as
  pub leads_given : (packets : Option (List PacketInfo)) (s : DispatcherSnapshot T) (d d' : DispatcherPartyState) (x x' : X) (left : X → Option (List ℕ)) (faults : X → ℕ) → d ≡ d' → x ≡ x'
      → Leads packets s (party_snapshot d (left x) (faults x)) → Leads packets s (party_snapshot d' (left x') (faults x'))
  leads_given packets s d d' x x' left faults dispatcher_party source h = subst (λ (k : DispatcherPartyState × X). Leads packets s (party_snapshot k.0 (left k.1) (faults k.1))) (λ i. (dispatcher_party i, source i)) h

map_long : {A B : Type 0} (f : A → B) (xs : List A) → length (map f xs) ≡ length xs
map_long f [] = refl
map_long f (x ∷ xs) = ap suc (map_long f xs)

pub same_length : {A B : Type 0} (f : A → B) (xs ys : List A) → map f xs ≡ map f ys → length xs ≡ length ys
same_length f xs ys e = sym (map_long f xs) ∙ (ap length e ∙ map_long f ys)

pub ends_on : (a b c : DispatcherPartyState) → SameEnds a b → SameEnds b c → SameEnds a c
ends_on a b c x y = record { lanes = y.lanes ∙ x.lanes; shelf = y.shelf ∙ x.shelf; pool = y.pool ∙ x.pool; meter = y.meter ∙ x.meter }
