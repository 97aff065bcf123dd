-- A dispatcher stays tied beside the turn of a worker.
use Rattle.std.proofs.Common.{zero, suc, ◌≡◌, ℕ, ◌<◌, ◌≤◌, List, [], ◌∷◌, map, length, get_or, Option, Some, refl, sym, ap, ◌∙◌, subst, ◌⊎◌, inl, inr, arith, length-set, get_or-set_same, get_or-set_other}
use Rattle.std.proofs.lemmas.List.{length-map}
use mathlib.Core.Logic.{dite}
use native.Mathlib.Decide.{ℕ_discrete}
use Rattle.std.specs.Prelude.{slice_get}
use Rattle.bucket_table.specs.Table.{TableOf}
use Rattle.packet_fields.specs.declared.packet.PacketInfo.{PacketInfo}
use Rattle.pcap_reader.specs.Reading.{Reading}
use Rattle.core_queue.specs.declared.item.Seen.{Seen}
use Rattle.core_queue.specs.declared.item.Seen.TheVariants.{Packet, Close}
use Rattle.core_queue.specs.declared.history.LaneHistory.{LaneHistory}
use Rattle.core_queue.specs.Local.{LocalState, new_lane}
use Rattle.indirection.specs.Story.{Step, parcels_of}
use Rattle.dispatch_loop.specs.Costs.{HaveCosts}
use Rattle.load_meter.specs.declared.history.LoadHistory.{LoadHistory}
use Rattle.load_meter.specs.LoadHistory.{known_at, noting}
use Rattle.worker_loop.specs.declared.worker_turn.WorkerTurn.{WorkerTurn}
use Rattle.worker_loop.specs.declared.worker_turn.WorkerTurn.TheVariants.{Released, Claimed, Worked, Parked, Marked, EndTaken, Idle, Ended}
use Rattle.worker_loop.specs.Workload.{Workload}
use Rattle.worker_loop.specs.Rules as work
use Rattle.worker_loop.specs.WorkerSnapshot as workers_as
use Rattle.worker_loop.specs.Turned.{SameSent}
use Rattle.worker_loop.proofs.Turned.{Left, turn_left}
use Rattle.dispatch_loop.specs.DispatcherState.{DispatcherState}
use Rattle.dispatch_loop.specs.Past.{Past, story}
use Rattle.dispatch_loop.specs.Tied.{Tied, IsLaneOf, IsLawfulStill}
use Rattle.rsspp_run.specs.LocalRun.{LocalRunView, history_of, lane_at, worker_snapshot_at, over, IsWorkerTurn}
use Rattle.core_queue.specs.Cells.{plain, AreCarried}

-- a worker's turn notes a number in the meter, or leaves it
Notes : LoadHistory → LoadHistory → Type 0
Notes e e' = (e' ≡ e) ⊎ ((c : ℕ) × (n : ℕ) × (e' ≡ noting c n e))

module _ {S : Type 0} (x : Workload S) (s t : workers_as.WorkerSnapshot (TableOf S)) where
  acts_note : (turn : WorkerTurn) (item : Seen) → work.Acts x turn item s t → Notes s.meter t.meter
  unfolding Notes
  acts_note Parked (Packet f) h = inl h.1
  acts_note Worked (Packet f) h = inr (_, _, h.1.meter)
  acts_note Marked (Packet f) h = inl h.1
  acts_note (Released b) (Packet f) h = absurd h
  acts_note (Claimed b) (Packet f) h = absurd h
  acts_note EndTaken (Packet f) h = absurd h
  acts_note Idle (Packet f) h = absurd h
  acts_note Ended (Packet f) h = absurd h
  acts_note EndTaken Close h = inl h.1.0
  acts_note (Released b) Close h = absurd h
  acts_note (Claimed b) Close h = absurd h
  acts_note Parked Close h = absurd h
  acts_note Worked Close h = absurd h
  acts_note Marked Close h = absurd h
  acts_note Idle Close h = absurd h
  acts_note Ended Close h = absurd h

  turn_notes : (turn : WorkerTurn) → work.IsTurn x s turn t → Notes s.meter t.meter
  unfolding Notes
  turn_notes (Released b) h = inl h.meter.0
  turn_notes (Claimed b) h = inr (_, _, h.meter.meter)
  turn_notes Ended h = inl h.meter.0
  turn_notes Parked h = acts_note Parked h.item h.acts
  turn_notes Worked h = acts_note Worked h.item h.acts
  turn_notes Marked h = acts_note Marked h.item h.acts
  turn_notes EndTaken h = acts_note EndTaken h.item h.acts
  turn_notes Idle h = inl h.meter.0

-- no number that is known falls
known_more : (e e' : LoadHistory) → Notes e e' → (c : ℕ) → known_at c e ≤ known_at c e'
unfolding Notes
known_more e e' (inl k) c = let q = ap (known_at c) k in omega arith
known_more e e' (inr k) c = let q = ap (known_at c) k.2 in omega arith

-- lanes
pub lane_of : (ls : List LocalState) (d : ℕ) (z : LocalState) (e : LaneHistory) → slice_get (map history_of ls) d ≡ Some e → (d < length ls) × (e ≡ (get_or ls d z).history)
lane_of [] zero z e h = absurd (cc)
lane_of [] (suc d) z e h = absurd (cc)
lane_of (l ∷ ls) zero z e h = (omega arith, cc)
lane_of (l ∷ ls) (suc d) z e h = let k = lane_of ls d z e h in let n = k.0 in (omega arith, k.1)

pub lane_is : (ls : List LocalState) (d : ℕ) (z : LocalState) → d < length ls → slice_get (map history_of ls) d ≡ Some ((get_or ls d z).history)
lane_is [] d z lt = absurd (omega arith)
lane_is (l ∷ ls) zero z lt = refl
lane_is (l ∷ ls) (suc d) z lt = lane_is ls d z (omega arith)

carried_by : (packets : Option (List PacketInfo)) (e e' : LaneHistory) → SameSent e e' → AreCarried packets e.key e.buckets e.sent → AreCarried packets e'.key e'.buckets e'.sent
carried_by packets e e' same h = rw same.key (rw same.buckets (rw same.sent h))

same_lane : (packets : Option (List PacketInfo)) (d : DispatcherState) (steps : List Step) (c : ℕ) (e e' : LaneHistory) → SameSent e e' → IsLaneOf packets d steps c e → IsLaneOf packets d steps c e'
same_lane packets d steps c e e' same h = record {
  key = same.key ∙ h.key;
  buckets = same.buckets ∙ h.buckets;
  sent = ap (map plain) same.sent ∙ h.sent;
  carried = carried_by packets e e' same h.carried;
  costs = subst (λ (z : List Seen). HaveCosts d.terms.cost (parcels_of steps) z) (sym same.sent) h.costs;
}

module _ {S : Type 0} (x : Workload S) (c : ℕ) (turn : WorkerTurn) (f f' : LocalRunView (TableOf S)) (near : c < length f.lanes) (h : IsWorkerTurn x c turn f f') where
  left_by : Left x (worker_snapshot_at f c) (over h.worker h.lane f'.shelf f'.meter)
  left_by = turn_left x (worker_snapshot_at f c) (over h.worker h.lane f'.shelf f'.meter) turn h.rule

  each_same : (d : ℕ) → d < length f.lanes → SameSent (lane_at f d).history (lane_at f' d).history
  each_same d lt = dite (ℕ_discrete d c)
      (λ e. subst (λ (k : ℕ). SameSent (lane_at f k).history (lane_at f' k).history) (sym e)
      (subst (λ (l : LocalState). SameSent (lane_at f c).history l.history) (sym ((λ i. get_or (h.lanes i) c (new_lane (h.key i) 0 0)) ∙ get_or-set_same f.lanes c h.lane (new_lane f.key 0 0) near)) left_by.lane))
      (λ ne. subst (λ (l : LocalState). SameSent (lane_at f d).history l.history) (sym ((λ i. get_or (h.lanes i) d (new_lane (h.key i) 0 0)) ∙ get_or-set_other f.lanes c d h.lane (new_lane f.key 0 0) ne))
      (record { sent = refl; key = refl; buckets = refl }))

  wide_same : length f'.lanes ≡ length f.lanes
  wide_same = ap length h.lanes ∙ length-set f.lanes c h.lane

  pub tied_beside : (packets : Option (List PacketInfo)) (p : Past) (d : DispatcherState) (reader : Reading) (left : Option (List ℕ)) → Tied packets p d (map history_of f.lanes) f.shelf.history f.meter.history reader left → Tied packets p d (map history_of f'.lanes) f'.shelf.history f'.meter.history reader left
  tied_beside packets p d reader left t = record {
    sound = t.sound;
    named = t.named;
    start = t.start;
    few = t.few;
    within = t.within;
    dealt = t.dealt;
    sent = record {
      wide = length-map f'.lanes history_of ∙ (wide_same ∙ (sym (length-map f.lanes history_of) ∙ t.sent.wide));
      each = λ k e is.
          let l = lane_of f'.lanes k (new_lane f'.key 0 0) e is in
          let lt : k < length f.lanes = (let a = l.0 in let b = wide_same in omega arith) in
          subst (λ (z : LaneHistory). IsLaneOf packets d (story d p.packets) k z) (sym l.1)
          (same_lane packets d (story d p.packets) k (lane_at f k).history (lane_at f' k).history (each_same k lt) (t.sent.each k (lane_at f k).history (lane_is f.lanes k (new_lane f.key 0 0) lt)));
    };
    orders = t.orders;
    loads = t.loads;
    lawful = λ calm. lawful_by (t.lawful calm);
    fed = t.fed;
    ends_few = t.ends_few;
    ends_last = t.ends_last;
    none_due = t.none_due;
    words = left_by.shelf.buckets ∙ t.words;
    numbers = let n = t.numbers in let k = left_by.meter.cores in omega arith;
  } where
    more : (k : ℕ) → known_at k f.meter.history ≤ known_at k f'.meter.history
    more k = known_more f.meter.history f'.meter.history (turn_notes x (worker_snapshot_at f c) (over h.worker h.lane f'.shelf f'.meter) turn h.rule) k

    lawful_by : IsLawfulStill d p.packets f.meter.history → IsLawfulStill d p.packets f'.meter.history
    lawful_by w = record {
      lawful = w.lawful;
      due_is = w.due_is;
      asks = w.asks;
      rounds = w.rounds;
      none_here = w.none_here;
      since = w.since;
      since_most = w.since_most;
      loads = w.loads;
      worked = λ k lt. let a = w.worked k lt in let b = more k in omega arith;
    }
