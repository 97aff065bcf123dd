-- The dispatcher with its ends before its first turn, and what it leaves behind its last one.
use Rattle.std.proofs.Common.{◌≡◌, ℕ, List, [], ◌∷◌, length, map, Option, Some, refl, sym, ap, ◌∙◌, subst, arith}
use Rattle.std.specs.Prelude.{◌≤◌, slice_get}
use Rattle.std.proofs.lemmas.List.{length-map}
use Rattle.toeplitz.specs.declared.key.Key.{Key}
use Rattle.bucket_table.specs.Table.{TableOf}
use Rattle.packet_fields.specs.declared.packet.PacketInfo.{PacketInfo}
use Rattle.packet_pool.specs.RuledPool.{AtPool}
use Rattle.pcap_reader.specs.Reading.{Reading, still}
use Rattle.pcap_reader.specs.Stream.{TakesHeader}
use Rattle.pcap_reader.specs.declared.reader.Progress.TheVariants.{Going}
use Rattle.pcap_reader.proofs.SoFar.{SoFar-start}
use Rattle.core_queue.specs.declared.history.LaneHistory.{LaneHistory}
use Rattle.core_queue.specs.NewHistory.{new_history}
use Rattle.core_queue.specs.RuledLane.{SharedLane, AtLane}
use Rattle.handover_words.specs.WordShelf.{AtShelf}
use Rattle.load_meter.specs.Meter.{AtMeter}
use Rattle.worker_loop.specs.WorkerState.{WorkerView}
use Rattle.worker_loop.specs.Workload.{Workload}
use Rattle.dispatch_loop.specs.declared.dispatcher_end.DispatcherEnd.{DispatcherEnd}
use Rattle.flow_work.specs.declared.work.TheConstants.{MOST_COST}
use Rattle.dispatch_loop.specs.Accepted.{IsAccepted}
use Rattle.dispatch_loop.specs.DispatcherState.{DispatcherState}
use Rattle.dispatch_loop.specs.Fresh.{fresh_dispatcher_state, AreFresh}
use Rattle.dispatch_loop.specs.OptionsView.{OptionsView}
use Rattle.dispatch_loop.specs.Past.{AreNamed, past}
use Rattle.dispatch_loop.specs.Terms.{Terms, terms_of, buckets_of}
use Rattle.dispatch_loop.specs.Tied.{Tied}
use Rattle.dispatch_loop.proofs.Starts.{sound, tied-fresh}
use Rattle.dispatch_loop.specs.Rules.{BlamesRead}
use Rattle.run_shifts.specs.DispatcherTurns.{Leads, HasFinished}
use Rattle.run_shifts.specs.Parties.{SharedView, DispatcherPartyState, party_snapshot, SameEnds}
use Rattle.run_shifts.specs.declared.worker_party.WorkerParty.{WorkerParty}
use Rattle.threaded_run.specs.Parties.{AreParties, IsBack, HasRun}
use Rattle.threaded_run.specs.PartyLists.{new_pass, new_passes, IsFreeSeat, AreOfLanes}
use Rattle.threaded_run.proofs.Lists.{at_map, map_twice}

module _ {S : Type 0} (j : Workload S) (packets : Option (List PacketInfo)) (o : OptionsView) (accepted : IsAccepted o) (cheap : (p : PacketInfo) → j.cost p ≤ MOST_COST) (place : SharedView) (dispatcher : DispatcherState) (senders : List AtLane) (seat : AtShelf) (load : AtMeter) (cells : AtPool) (worker_parties : List (WorkerParty (WorkerView (TableOf S)) (TableOf S)))
    (parties : AreParties j (terms_of j.cost o) place dispatcher senders seat load cells worker_parties) (bytes left : Option (List ℕ)) (reader : Reading) (named : AreNamed packets o.packets bytes)
    (header : TakesHeader bytes (still reader left) reader.form) (first : (reader.given ≡ 0) × (reader.progress ≡ Going)) where
  abbrev t : Terms
  t = terms_of j.cost o

  first_lanes : (c : ℕ) (e : LaneHistory) → slice_get (map (λ (a : AtLane). a.history) senders) c ≡ Some e → e ≡ new_history o.key (buckets_of (terms_of j.cost o))
  first_lanes c e at =
      let a = at_map (λ (a : AtLane). a.history) senders c e at in
      let l = at_map (new_pass o.key (buckets_of (terms_of j.cost o))) place.lanes c a.0 (ap (λ (z : List AtLane). slice_get z c) (sym parties.senders_are) ∙ a.1) in
      sym a.2 ∙ sym (ap (λ (z : AtLane). z.history) l.2)

  are_fresh : AreFresh packets bytes (terms_of j.cost o) (map (λ (a : AtLane). a.history) senders) seat.history load.history reader left
  are_fresh = record {
    named = named;
    wide = length-map senders (λ (a : AtLane). a.history) ∙ (ap length parties.senders_are ∙ (length-map place.lanes (new_pass o.key (buckets_of (terms_of j.cost o))) ∙ parties.lanes));
    each = λ c e at. let l = first_lanes c e at in record { key = ap (λ (z : LaneHistory). z.key) l; buckets = ap (λ (z : LaneHistory). z.buckets) l; sent = ap (λ (z : LaneHistory). z.sent) l };
    words = parties.seat_is.buckets ∙ ap (λ z. z.buckets) parties.run;
    numbers = let c = parties.load_cores in omega arith;
    given = first.0;
    going = first.1;
    so_far = SoFar-start bytes (still reader left) reader.form header;
  }

  pub first_tied : Tied packets (past bytes []) dispatcher (map (λ (a : AtLane). a.history) senders) seat.history load.history reader left
  first_tied = subst (λ (f : DispatcherState). Tied packets (past bytes []) f (map (λ (a : AtLane). a.history) senders) seat.history load.history reader left) (sym parties.fresh) (tied-fresh packets bytes (terms_of j.cost o) (map (λ (a : AtLane). a.history) senders) seat.history load.history reader left (sound j.cost o cheap accepted) are_fresh)

some_homes : (xs ys : List AtLane) → map (λ (e : AtLane). Some e.home) xs ≡ map (λ (e : AtLane). Some e.home) ys → map (λ (e : AtLane). e.home) xs ≡ map (λ (e : AtLane). e.home) ys
some_homes [] [] same = refl
some_homes [] (y ∷ ys) same = absurd (cc)
some_homes (x ∷ xs) [] same = absurd (cc)
some_homes (x ∷ xs) (y ∷ ys) same =
    let head : Some x.home ≡ Some y.home = cc in let here : x.home ≡ y.home = cc in
    let rest : map (λ (e : AtLane). Some e.home) xs ≡ map (λ (e : AtLane). Some e.home) ys = cc in
    (λ i. here i ∷ some_homes xs ys rest i)

-- the ends come back with the homes that they had
pub back : (place : SharedView) (key : Key) (buckets : ℕ) (d d' : DispatcherPartyState) → d.lanes ≡ new_passes key buckets place.lanes → IsFreeSeat place.shelf d.shelf → {T : Type 0} (packets : Option (List PacketInfo)) (left left' : Option (List ℕ)) (faults faults' : ℕ)
    → Leads {T = T} packets (party_snapshot d left faults) (party_snapshot d' left' faults') → SameEnds d d' → IsBack place d.lanes d.shelf d'.lanes d'.shelf
back place key buckets d d' are seat {T} packets left left' faults faults' leads ends =
    let homes = some_homes d'.lanes d.lanes ends.lanes in
    record {
      many = sym (length-map d'.lanes (λ (e : AtLane). e.home)) ∙ (ap length homes ∙ length-map d.lanes (λ (e : AtLane). e.home));
      lanes = homes ∙ (ap (map (λ (e : AtLane). e.home)) are ∙ map_twice (λ (e : AtLane). e.home) (new_pass key buckets) place.lanes);
      seat_is = record {
        home = ends.shelf ∙ seat.home;
        key = leads.shelf.key ∙ seat.key;
        buckets = leads.shelf.buckets ∙ seat.buckets;
        held = leads.shelf.held ∙ seat.held;
        ended = leads.shelf.ended ∙ seat.ended;
      };
      share = leads.shelf.shares;
    }

-- what the dispatcher's turns led to
pub has_run : {T : Type 0} (packets : Option (List PacketInfo)) (t : Terms) (bytes : Option (List ℕ)) (end : DispatcherEnd) (d d' : DispatcherPartyState) (left left' : Option (List ℕ)) (faults faults' : ℕ)
    → d.state.terms ≡ t → Tied packets (past bytes []) d.state (map (λ (a : AtLane). a.history) d.lanes) d.shelf.history d.meter.history d.reader left
    → Leads {T = T} packets (party_snapshot d left faults) (party_snapshot d' left' faults') → HasFinished end d'.state → HasRun packets t bytes end d'.state (map (λ (a : AtLane). a.history) d'.lanes) left'
has_run {T} packets t bytes end d d' left left' faults faults' terms tied leads finished =
    let on = leads.goes_on (past bytes []) tied in record {
      terms = leads.terms ∙ terms;
      finished = finished;
      sent = on.0;
      shelf = d'.shelf.history;
      meter = d'.meter.history;
      reader = d'.reader;
      tied = on.1;
    }

-- a read fault of the dispatcher's stream is blamed on a read that failed since its reader was started
pub has_blamed : {T : Type 0} (packets : Option (List PacketInfo)) (t : Terms) (end : DispatcherEnd) (d d' : DispatcherPartyState) (left left' : Option (List ℕ)) (before faults faults' : ℕ)
    → d.state ≡ fresh_dispatcher_state t → faults ≡ before → Leads {T = T} packets (party_snapshot d left faults) (party_snapshot d' left' faults') → HasFinished end d'.state → BlamesRead (Some end) before faults'
has_blamed packets t end d d' left left' before faults faults' fresh same leads finished =
    let begun = subst (λ (f : DispatcherState). BlamesRead f.end before faults) (sym fresh) same in
    subst (λ (o : Option DispatcherEnd). BlamesRead o before faults') finished.ended (leads.blames before begun)

-- the passes of new lanes are of these lanes
pub first_homes : (key : Key) (buckets : ℕ) (lanes : List SharedLane) (senders : List AtLane) → senders ≡ new_passes key buckets lanes → AreOfLanes lanes senders
first_homes key buckets lanes senders are = ap (map (λ (e : AtLane). e.home)) are ∙ map_twice (λ (e : AtLane). e.home) (new_pass key buckets) lanes
