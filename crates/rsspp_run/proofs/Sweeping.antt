-- The turns of a sweep, one by one.
use Rattle.std.proofs.Common.{◌≡◌, ◌≢◌, ℕ, ◌+◌, ◌/◌, ◌%◌, ◌<◌, ◌≤◌, ◌&&◌, Bool, true, false, List, [], ◌++◌, length, get_or, Option, Some, None, refl, sym, ap, ◌∙◌, subst, ◌⊎◌, inl, inr, ⊎_elim, arith, get_or-set_same, get_or-set_other, add-one}
use Rattle.std.proofs.lemmas.List.{append-nil, length-map}
use mathlib.Core.Logic.{dite}
use native.Mathlib.Decide.{ℕ_discrete}
use Rattle.bucket_table.specs.Table.{TableOf}
use Rattle.packet_fields.specs.declared.packet.PacketInfo.{PacketInfo}
use Rattle.pcap_reader.specs.Reading.{Reading}
use Rattle.indirection.specs.Due.{Due, Rules, due}
use Rattle.handover_core.specs.declared.event.Event.{Event}
use Rattle.handover_core.specs.Machine.{step, steps_left}
use Rattle.handover_core.specs.Promises.{IsFinished, IsOfWorker, counts}
use Rattle.worker_loop.specs.declared.worker_turn.WorkerTurn.{WorkerTurn}
use Rattle.worker_loop.specs.WorkerState.{WorkerView}
use Rattle.parked_queue.specs.Parked as lots
use Rattle.worker_loop.specs.Fresh.{fresh_worker}
use Rattle.toeplitz.specs.Bucket.{bucket_hash}
use Rattle.worker_loop.specs.Workload.{Workload}
use Rattle.worker_loop.specs.Promises.{IsOver}
use Rattle.worker_loop.specs.Rules as work
use Rattle.worker_loop.specs.WorkerSnapshot as workers_as
use Rattle.worker_loop.specs.Schedule.{event_due}
use Rattle.worker_loop.proofs.Promises.{ended_exactly}
use Rattle.dispatch_loop.specs.declared.dispatcher_end.DispatcherEnd.{DispatcherEnd}
use Rattle.dispatch_loop.specs.declared.dispatcher_turn.DispatcherTurn.{DispatcherTurn}
use Rattle.dispatch_loop.specs.Asks.{due_now}
use Rattle.dispatch_loop.specs.DispatcherState.{DispatcherState}
use Rattle.dispatch_loop.specs.Past.{past, parcel_of, held_list}
use Rattle.dispatch_loop.specs.Rules as turns
use Rattle.dispatch_loop.specs.Rules.{Grows}
use Rattle.dispatch_loop.specs.Stays.{StaysTied}
use Rattle.dispatch_loop.specs.Terms.{Terms, cores_of}
use Rattle.dispatch_loop.proofs.Ties.{sent-is}
use Rattle.rsspp_run.specs.declared.limits.TheConstants.{MOST_SWEEPS}
use Rattle.rsspp_run.specs.Serial.{Setting, RunState, side_at, does, deed_due, dispatcher_turn, worker_turn, turn, turns, party, number_after, sweep, sweeps}
use Rattle.rsspp_run.specs.Lines.{AreIdle, weight}
use Rattle.rsspp_run.specs.LocalRun.{LocalRunView, worker_at, worker_snapshot_at, over, AreWorkersAt, IsWorkerTurn}
use Rattle.rsspp_run.specs.DispatcherOf.{dispatcher_snapshot_over}
use Rattle.rsspp_run.specs.Goes.{HasPacketsLeft}
use Rattle.rsspp_run.specs.Sweeps.{setting_of, to_try, to_do, finish_of, finished_in, is_ended, IsTiedTo, IsSweeping, IsCalm, StandsIn, IsInSweep, HasEnded, Sweeps, RunInputs, party_at}
use Rattle.rsspp_run.proofs.AnyTurn.{any_turn, as_many}
use Rattle.rsspp_run.proofs.AtEnd.{finished_by}
use Rattle.rsspp_run.proofs.BesideWorkers.{tied_beside}
use Rattle.rsspp_run.proofs.DispatchersBeside.{dispatcher_stays, due_works}
use Rattle.rsspp_run.proofs.Finals.{rests, deed_is_of, worker_is_of}
use Rattle.rsspp_run.proofs.Finishes.{open_before, none_held, ends_all, turn_finishes, finished_tells}
use Rattle.rsspp_run.proofs.Goes.{before_turn, turn_of_run}
use Rattle.rsspp_run.proofs.Idle.{some_weight}
use Rattle.dispatch_loop.proofs.Leaves.{turn_terms}
use Rattle.rsspp_run.proofs.Lined.{lined_at}
use Rattle.rsspp_run.proofs.Overs.{worker_over}
use Rattle.rsspp_run.proofs.Parties.{each_has, only_one}
use Rattle.rsspp_run.proofs.Quiet.{deed_quiet}
use Rattle.rsspp_run.proofs.RefusedRounds.{DoesSome}
use Rattle.rsspp_run.proofs.RoomsStay.{dispatcher_keeps, worker_keeps, rooms_then}
use Rattle.rsspp_run.proofs.WorkerTurns.{counted, workers_then, worker_falls}
use Rattle.rsspp_run.proofs.SweepFacts.{not_more, less_yet, less_now, down, down_yet, down_now, paid, some_or_none, earlier, never_below, at_most_itself, below_by, before_next, itself_next, next_same, no_next, next_most, none_most, one_zero, held_goes_on, held_few, sent_few, looked_at, Looked, still_finished, same_due, looked_on, over_after, ended_is, both_of, finishes_some}

module _ {S : Type 0} (packets : Option (List PacketInfo)) (x : Workload S) (t : Terms) (pool number k : ℕ) (bytes : Option (List ℕ)) where
  abbrev pub y : ℕ
  y = number_after k number

  abbrev pub cores : ℕ
  cores = cores_of t

  -- the first turn is to come
  pub first_in : (d : DispatcherState) (f : LocalRunView (TableOf S)) (reader : Reading) (left : Option (List ℕ)) → IsSweeping packets x t pool number k bytes d f reader left → IsInSweep packets x t pool number k 0 bytes true None d f reader left
  first_in d f reader left h = record {
    sent = h.sent;
    tied = h.tied;
    runs = λ xs goes few. let s = h.runs xs goes few in record {
      begun = s.state;
      dispatcher = d;
      local = f;
      first = h.sent;
      stood = s.by;
      few = s.few;
      was = s.is;
      state = s.state;
      by = s.by;
      is = λ still. refl;
      no_more = at_most_itself (to_do s.state d);
      gains = inr (record {
        before = λ no. refl;
        looked = inl refl;
        workers = λ n c lt is. never_below n lt;
        dispatcher = λ n lt is. never_below n lt;
        is_over = λ fin. refl;
        has_end = λ n lt is fin. never_below n lt;
      });
    };
    overs = λ ov n c lt is. never_below n lt;
    ends = λ e is. absurd (cc);
  }

  -- a worker's turn
  module _ (i : ℕ) (ov : Bool) (end : Option DispatcherEnd) (d : DispatcherState) (f g : LocalRunView (TableOf S)) (c : ℕ) (turn' : WorkerTurn) (near : c < cores) (here : party cores y i ≡ c + 1) (did : IsWorkerTurn x c turn' f g) where
    module _ (xs sent : List PacketInfo) (terms : d.terms ≡ t) (s : StandsIn x t pool number k i xs sent ov end d f) where
      core : c < length s.state.machine.cores
      core = below_by c (cores_of t) (length s.state.machine.cores) near (s.by.at.dispatcher.cores ∙ ap cores_of terms)

      lane : c < length f.lanes
      lane = below_by c (length s.state.machine.cores) (length f.lanes) core s.by.at.workers.lanes

      abbrev next : RunState
      next = worker_turn s.state c

      fallen : steps_left next.machine + counted (event_due s.state.machine c (side_at s.state c).line) ≡ steps_left s.state.machine
      fallen = worker_falls x s.state f g c turn' s.by.at.workers core did

      calm_then : event_due s.state.machine c (side_at s.state c).line ≡ None → IsCalm (setting_of t pool xs) y i s.begun s.state ov end → IsCalm (setting_of t pool xs) y (i + 1) s.begun next (ov && is_ended turn') end
      calm_then none calm =
          let same : next ≡ s.state = rests s.state c none in record {
            before = λ no. same ∙ calm.before (λ n lt. no n (before_next n i lt));
            looked = looked_on s.begun s.state next same calm.looked;
            workers = λ n c' lt is. ⊎_elim (λ (l : n < i). calm.workers n c' l is)
                (λ (e : n ≡ i). let q : c ≡ c' = next_same (party cores y i) c c' here (sym (ap (party cores y) e) ∙ is) in
                subst (λ (v : ℕ). event_due s.begun.machine v (side_at s.begun v).line ≡ None) q (sym (same_due s.begun s.state calm.looked c) ∙ none)) (earlier n i lt);
            dispatcher = λ n lt is. ⊎_elim (λ (l : n < i). calm.dispatcher n l is) (λ (e : n ≡ i). no_next (party cores y n) c is (ap (party cores y) e ∙ here)) (earlier n i lt);
            is_over = λ fin.
                let done = (ended_exactly x (worker_snapshot_at f c) (over did.worker did.lane g.shelf g.meter) turn' did.rule).1 (worker_over x s.state f s.by.at.workers (still_finished s.begun s.state calm.looked fin) c core) in
                (λ j. calm.is_over fin j && is_ended (done j));
            has_end = λ n lt is fin. ⊎_elim (λ (l : n < i). calm.has_end n l is fin) (λ (e : n ≡ i). no_next (party cores y n) c is (ap (party cores y) e ∙ here)) (earlier n i lt);
          }

      worker_stands : StandsIn x t pool number k (i + 1) xs sent (ov && is_ended turn') end d g
      worker_stands =
          let are = workers_then x s.state f g c turn' s.by.at.workers core did in record {
            begun = s.begun;
            dispatcher = s.dispatcher;
            local = s.local;
            first = s.first;
            stood = s.stood;
            few = s.few;
            was = s.was;
            state = next;
            by = record {
              at = record { workers = are; dispatcher = dispatcher_stays s.state c d s.by.at.dispatcher };
              rooms = rooms_then x s.state next f g s.by.at.workers are (worker_keeps x c turn' f g lane did) s.by.rooms;
              is_of = worker_is_of xs (setting_of t pool xs) s.state d.terms c s.by.is_of;
              cost = s.by.cost;
              told = s.by.told;
            };
            is = λ still. ap (λ (z : RunState). worker_turn z c) (s.is still)
                ∙ (sym (ap (turn (setting_of t pool xs) (turns (setting_of t pool xs) y i s.begun)) (here ∙ add-one c)) ∙ sym (ap (λ (n : ℕ). turns (setting_of t pool xs) y n s.begun) (add-one i)));
            no_more = not_more (steps_left next.machine) (counted (event_due s.state.machine c (side_at s.state c).line)) (steps_left s.state.machine) (to_try d) (to_do s.begun s.dispatcher) fallen s.no_more;
            gains = by_gain s.gains;
          } where
            by_gain : (to_do s.state d + 1 ≤ to_do s.begun s.dispatcher) ⊎ IsCalm (setting_of t pool xs) y i s.begun s.state ov end → (to_do next d + 1 ≤ to_do s.begun s.dispatcher) ⊎ IsCalm (setting_of t pool xs) y (i + 1) s.begun next (ov && is_ended turn') end
            by_gain (inl g) = inl (less_yet (steps_left next.machine) (counted (event_due s.state.machine c (side_at s.state c).line)) (steps_left s.state.machine) (to_try d) (to_do s.begun s.dispatcher) fallen g)
            by_gain (inr calm) = ⊎_elim (λ (none : event_due s.state.machine c (side_at s.state c).line ≡ None). inr (calm_then none calm))
                (λ (k : (e : Event) × (event_due s.state.machine c (side_at s.state c).line ≡ Some e) × IsOfWorker e × (counts e ≡ 1)).
                inl (less_now (steps_left next.machine) (counted (event_due s.state.machine c (side_at s.state c).line)) (steps_left s.state.machine) (to_try d) (to_do s.begun s.dispatcher) fallen (ap counted k.1 ∙ k.3) s.no_more))
                (due_works s.state.machine c (side_at s.state c).line)

    pub worker_in : (reader : Reading) (left : Option (List ℕ)) → IsInSweep packets x t pool number k i bytes ov end d f reader left → IsInSweep packets x t pool number k (i + 1) bytes (ov && is_ended turn') end d g reader left
    worker_in reader left h =
        let now = h.runs (h.sent ++ held_list d.held) (held_goes_on h.sent d) (held_few packets t bytes h.sent d f reader left h.tied) in
        let lane_near = lane (h.sent ++ held_list d.held) h.sent h.tied.terms now in
        let worker_near : c < length f.workers = below_by c (length now.state.machine.cores) (length f.workers) (core (h.sent ++ held_list d.held) h.sent h.tied.terms now) now.by.at.workers.workers in
        record {
          sent = h.sent;
          tied = record { terms = h.tied.terms; tied = tied_beside x c turn' f g lane_near did packets (past bytes h.sent) d reader left h.tied.tied };
          runs = λ xs goes few. worker_stands xs h.sent h.tied.terms (h.runs xs goes few);
          overs = λ all n c' lt is.
              let b = both_of ov (is_ended turn') all in
              let e = ended_is turn' b.1 in
              dite (ℕ_discrete c' c)
              (λ q. subst (λ (v : ℕ). IsOver (worker_at g v).state) (sym q)
              (subst (λ (w : WorkerView (TableOf S)). IsOver w.state) (sym ((λ j. get_or (did.workers j) c (fresh_worker 0 (bucket_hash (did.key j) 0))) ∙ get_or-set_same f.workers c did.worker (fresh_worker 0 (bucket_hash f.key 0)) worker_near))
              (over_after (worker_snapshot_at f c) (over did.worker did.lane g.shelf g.meter) (subst (λ (v : WorkerTurn). work.IsTurn x (worker_snapshot_at f c) v (over did.worker did.lane g.shelf g.meter)) e did.rule))))
              (λ ne. subst (λ (w : WorkerView (TableOf S)). IsOver w.state) (sym ((λ j. get_or (did.workers j) c' (fresh_worker 0 (bucket_hash (did.key j) 0))) ∙ get_or-set_other f.workers c c' did.worker (fresh_worker 0 (bucket_hash f.key 0)) ne))
              (⊎_elim (λ (l : n < i). h.overs b.0 n c' l is) (λ (q : n ≡ i). absurd (ne (next_same (party cores y n) c' c is (ap (party cores y) q ∙ here)))) (earlier n i lt)));
          ends = h.ends;
        }

  -- the dispatcher's turn
  module _ (i : ℕ) (ov : Bool) (end : Option DispatcherEnd) (d e : DispatcherState) (f g : LocalRunView (TableOf S)) (reader reader' : Reading) (left left' : Option (List ℕ)) (faults faults' : ℕ) (turn' : DispatcherTurn) (most : i < cores + 1) (here : party cores y i ≡ 0)
      (key : g.key ≡ f.key) (workers_are : g.workers ≡ f.workers) (rule : turns.IsTurn (dispatcher_snapshot_over d f reader left faults) turn' (dispatcher_snapshot_over e g reader' left' faults')) where
    module _ (xs sent ps : List PacketInfo) (tied : IsTiedTo packets t bytes sent d f reader left) (tied' : IsTiedTo packets t bytes ps e g reader' left')
        (grows : Grows turn' sent ps (dispatcher_snapshot_over d f reader left faults).outs.lanes (dispatcher_snapshot_over e g reader' left' faults').outs.lanes) (goes : HasPacketsLeft xs ps e) (s : StandsIn x t pool number k i xs sent ov end d f) where
      j : Setting
      j = setting_of t pool xs

      some : DoesSome x (setting_of t pool xs) s.state d e f g reader reader' left left' faults faults' s.by.at s.by.rooms key workers_are packets (past bytes sent) tied.tied
      some = any_turn packets (past bytes sent) xs x (setting_of t pool xs) s.state d e f g reader reader' left left' faults faults' s.by.at s.by.rooms key workers_are tied.tied s.by.is_of turn' rule ps grows goes (sent_few packets t bytes ps e g reader' left' tied')

      abbrev following : RunState
      following = does s.state (deed_due (setting_of t pool xs) s.state some.due)

      was_open : e.short ≡ false → d.short ≡ false
      was_open still = open_before (dispatcher_snapshot_over d f reader left faults) (dispatcher_snapshot_over e g reader' left' faults') still turn' rule

      is_turn : e.short ≡ false → following ≡ dispatcher_turn (setting_of t pool xs) s.state
      is_turn still =
          let due_is : due (setting_of t pool xs).rules s.state.steps ≡ due_now d = (λ n. due (s.by.is_of.rules n) (s.by.told (was_open still) n)) ∙ (tied.tied.lawful (was_open still)).due_is in
          ap (λ (z : Due). does s.state (deed_due (setting_of t pool xs) s.state z)) (some.is_due still ∙ sym due_is)

      dispatcher_calm : weight (deed_due (setting_of t pool xs) s.state some.due) ≡ 0 → IsCalm (setting_of t pool xs) y i s.begun s.state ov end → IsCalm (setting_of t pool xs) y (i + 1) s.begun following ov (finish_of turn')
      dispatcher_calm none calm =
          let same : s.state ≡ s.begun = calm.before (λ n lt is. only_one cores y n i lt most is here) in record {
            before = λ no. absurd (no i (itself_next i) here);
            looked = quiet same (deed_quiet (setting_of t pool xs) s.state some.due none);
            workers = λ n c lt is. ⊎_elim (λ (l : n < i). calm.workers n c l is) (λ (q : n ≡ i). no_next (party cores y i) c here (sym (ap (party cores y) q) ∙ is)) (earlier n i lt);
            dispatcher = λ n lt is. (some.due, subst (λ (z : RunState). weight (deed_due (setting_of t pool xs) z some.due) ≡ 0) same none);
            is_over = calm.is_over;
            has_end = λ n lt is fin no.
                let fin' : IsFinished s.state.machine = subst (λ (z : RunState). IsFinished z.machine) (sym same) fin in
                let got = turn_finishes packets (past bytes sent) (dispatcher_snapshot_over d f reader left faults) (dispatcher_snapshot_over e g reader' left' faults') tied.tied (ends_all s.state.machine d s.by.at.dispatcher fin' tied.tied.sound.table.some_core tied.tied.ends_few) turn' rule in
                let z : Some got.0 ≡ None = sym (ap finish_of got.1) ∙ no in absurd (cc);
          } where
            quiet : s.state ≡ s.begun → (following ≡ s.state) ⊎ ((b : ℕ) × (following ≡ looked_at s.state b)) → Looked s.begun following
            quiet same (inl q) = inl (q ∙ same)
            quiet same (inr q) = inr (q.0, q.1 ∙ ap (λ (z : RunState). looked_at z q.0) same)

      dispatcher_stands : StandsIn x t pool number k (i + 1) xs ps ov (finish_of turn') e g
      dispatcher_stands = record {
        begun = s.begun;
        dispatcher = s.dispatcher;
        local = s.local;
        first = s.first;
        stood = s.stood;
        few = s.few;
        was = λ still. s.was (was_open still);
        state = following;
        by = record {
          at = some.stands;
          rooms = rooms_then x s.state following f g s.by.at.workers some.stands.workers (dispatcher_keeps d e f g reader reader' left left' faults faults' turn' rule) s.by.rooms;
          is_of = deed_is_of xs (setting_of t pool xs) s.state some.due d.terms e.terms (turn_terms (dispatcher_snapshot_over d f reader left faults) (dispatcher_snapshot_over e g reader' left' faults') turn' rule) s.by.is_of;
          cost = s.by.cost ∙ sym (ap (λ (z : Terms). z.cost) (turn_terms (dispatcher_snapshot_over d f reader left faults) (dispatcher_snapshot_over e g reader' left' faults') turn' rule));
          told = λ still. ap (λ (z : RunState). z.steps) (is_turn still)
              ∙ (turn_of_run packets (past bytes sent) xs x (setting_of t pool xs) s.state d e f g reader reader' left left' faults faults' s.by.at s.by.rooms key workers_are still tied.tied s.by.is_of s.by.cost (s.by.told (was_open still)) turn' rule ps grows goes).1;
        };
        is = λ still. is_turn still ∙ (ap (λ (z : RunState). dispatcher_turn (setting_of t pool xs) z) (s.is (was_open still))
            ∙ (sym (ap (turn (setting_of t pool xs) (turns (setting_of t pool xs) y i s.begun)) here) ∙ sym (ap (λ (n : ℕ). turns (setting_of t pool xs) y n s.begun) (add-one i))));
        no_more = down (to_do following e) (weight (deed_due (setting_of t pool xs) s.state some.due)) (to_do s.state d) (to_do s.begun s.dispatcher) some.less s.no_more;
        gains = by_gain s.gains;
      } where
        by_gain : (to_do s.state d + 1 ≤ to_do s.begun s.dispatcher) ⊎ IsCalm (setting_of t pool xs) y i s.begun s.state ov end → (to_do following e + 1 ≤ to_do s.begun s.dispatcher) ⊎ IsCalm (setting_of t pool xs) y (i + 1) s.begun following ov (finish_of turn')
        by_gain (inl q) = inl (down_yet (to_do following e) (weight (deed_due (setting_of t pool xs) s.state some.due)) (to_do s.state d) (to_do s.begun s.dispatcher) some.less q)
        by_gain (inr calm) = ⊎_elim (λ (none : weight (deed_due (setting_of t pool xs) s.state some.due) ≡ 0). inr (dispatcher_calm none calm))
            (λ (one : 1 ≤ weight (deed_due (setting_of t pool xs) s.state some.due)). inl (down_now (to_do following e) (weight (deed_due (setting_of t pool xs) s.state some.due)) (to_do s.state d) (to_do s.begun s.dispatcher) some.less one s.no_more))
            (some_or_none (weight (deed_due (setting_of t pool xs) s.state some.due)))

    pub dispatcher_in : StaysTied packets turn' (dispatcher_snapshot_over d f reader left faults) (dispatcher_snapshot_over e g reader' left' faults') → IsInSweep packets x t pool number k i bytes ov end d f reader left → IsInSweep packets x t pool number k (i + 1) bytes ov (finish_of turn') e g reader' left'
    dispatcher_in stays h =
        let got = stays.stays (past bytes h.sent) h.tied.tied in
        let same = turn_terms (dispatcher_snapshot_over d f reader left faults) (dispatcher_snapshot_over e g reader' left' faults') turn' rule in
        let tied' : IsTiedTo packets t bytes got.0 e g reader' left' = record { terms = same ∙ h.tied.terms; tied = got.2 } in
        record {
          sent = got.0;
          tied = tied';
          runs = λ xs goes few. dispatcher_stands xs h.sent got.0 h.tied tied' got.1 goes (h.runs xs (before_turn packets (past bytes h.sent) xs (dispatcher_snapshot_over d f reader left faults) (dispatcher_snapshot_over e g reader' left' faults') h.tied.tied turn' got.0 got.1 rule goes) few);
          overs = λ all n c lt is. subst (λ (w : WorkerView (TableOf S)). IsOver w.state) (sym (λ q. get_or (workers_are q) c (fresh_worker 0 (bucket_hash (key q) 0))))
              (⊎_elim (λ (l : n < i). h.overs all n c l is) (λ (q : n ≡ i). no_next (party cores y i) c here (sym (ap (party cores y) q) ∙ is)) (earlier n i lt));
          ends = λ how is. let tells = finished_tells (dispatcher_snapshot_over d f reader left faults) (dispatcher_snapshot_over e g reader' left' faults') how (subst (λ (v : DispatcherTurn). turns.IsTurn (dispatcher_snapshot_over d f reader left faults) v (dispatcher_snapshot_over e g reader' left' faults')) (finishes_some turn' how is) rule) in
              (tells.0, tells.1 ∙ ap cores_of (same ∙ h.tied.terms));
        }

  -- the last turn was
  module _ (d : DispatcherState) (f : LocalRunView (TableOf S)) (reader : Reading) (left : Option (List ℕ)) where
    -- a calm sweep is that of a finished run
    calm_ends : (xs sent : List PacketInfo) (ov : Bool) (end : Option DispatcherEnd) → (s : StandsIn x t pool number k (cores + 1) xs sent ov end d f) → d.terms ≡ t → IsCalm (setting_of t pool xs) y (cores + 1) s.begun s.state ov end → (ov ≡ true → end ≢ None → ⊥) → ⊥
    calm_ends xs sent ov end s terms calm never =
        let none = each_has cores y 0 (none_most cores) in
        let dispatcher = calm.dispatcher none.0 none.1 none.2 in
        let idle : AreIdle s.begun = (λ c near. let lt : c + 1 ≤ cores = begun_near c near in let has = each_has cores y (c + 1) lt in (calm.workers has.0 c has.1 has.2, lined_at x s.begun s.local s.stood.at.workers c near)) in
        let weighs = some_weight (setting_of t pool xs) s.begun s.stood.at.workers.sound idle (λ fin. never (calm.is_over fin) (calm.has_end none.0 none.1 none.2 fin)) (as_many xs (setting_of t pool xs) s.begun s.dispatcher.terms s.stood.is_of) dispatcher.0 in
        one_zero (weight (deed_due (setting_of t pool xs) s.begun dispatcher.0)) dispatcher.1 weighs
      where
        begun_near : (c : ℕ) → c < length s.begun.machine.cores → c + 1 ≤ cores
        begun_near c near = next_most c (length s.begun.machine.cores) cores near (s.stood.at.dispatcher.cores ∙ sym (ap (λ (z : Rules). z.cores) s.stood.is_of.rules))

    goes_on : (ov : Bool) (end : Option DispatcherEnd) → IsInSweep packets x t pool number k (cores + 1) bytes ov end d f reader left → (ov ≡ true → end ≢ None → ⊥) → IsSweeping packets x t pool number (k + 1) bytes d f reader left
    goes_on ov end h never = record {
      sent = h.sent;
      tied = h.tied;
      runs = λ xs goes few. let s = h.runs xs goes few in record {
        state = s.state;
        by = s.by;
        is = λ still. s.is still ∙ (ap (λ (z : RunState). sweep (setting_of t pool xs) y z) (s.was still) ∙ sym (ap (sweeps (setting_of t pool xs) number) (add-one k)));
        few = paid k (to_do s.state d) (to_do s.begun s.dispatcher) MOST_SWEEPS (⊎_elim (λ (q : to_do s.state d + 1 ≤ to_do s.begun s.dispatcher). q)
            (λ (calm : IsCalm (setting_of t pool xs) y (cores + 1) s.begun s.state ov end). absurd (calm_ends xs h.sent ov end s h.tied.terms calm never)) s.gains) s.few;
      };
    }

    all_over : (e : DispatcherEnd) → IsInSweep packets x t pool number k (cores + 1) bytes true (Some e) d f reader left → HasEnded packets x t pool number bytes e d f reader left
    all_over e h =
        let told = h.ends e refl in
        let ended : d.end ≢ None = (λ z. let q : Some e ≡ None = sym told.0 ∙ z in absurd (cc)) in
        let held = none_held d.terms.packets (past bytes h.sent) d.held d.end reader left h.tied.tied.fed ended in
        let goes : HasPacketsLeft h.sent h.sent d = record { rest = []; is = sym (ap (λ (z : Option PacketInfo). h.sent ++ (held_list z ++ [])) held ∙ append-nil h.sent); whole = λ ne. refl } in
        let few : length h.sent ≤ t.packets = subst (λ (z : Terms). length h.sent ≤ z.packets) h.tied.terms h.tied.tied.few in
        let s = h.runs h.sent goes few in
        let all : s.state.machine.sent ≡ length s.state.machine.packets = (
        s.by.at.dispatcher.sent ∙ (sent-is d h.sent h.tied.tied.dealt ∙ (sym (length-map h.sent (parcel_of t)) ∙ sym (as_many h.sent (setting_of t pool h.sent) s.state d.terms s.by.is_of)))
        ) in
        record {
          sent = h.sent;
          tied = h.tied;
          end_is = told.0;
          ends = told.1;
          count = k + 1;
          state = s.state;
          by = s.by;
          is = λ still. s.is still ∙ (ap (λ (z : RunState). sweep (setting_of t pool h.sent) y z) (s.was still) ∙ sym (ap (sweeps (setting_of t pool h.sent) number) (add-one k)));
          finished = finished_by x s.state d f s.by.at (told.1 ∙ sym (ap cores_of h.tied.terms)) all
              (λ c near. let has = each_has cores y (c + 1) (next_most c (length s.state.machine.cores) cores near (s.by.at.dispatcher.cores ∙ ap cores_of h.tied.terms)) in h.overs refl has.0 c has.1 has.2);
        }

    pub swept : (ov : Bool) (end : Option DispatcherEnd) → IsInSweep packets x t pool number k (cores + 1) bytes ov end d f reader left → Sweeps packets x t pool number k bytes (finished_in ov end) d f reader left
    swept true (Some e) h = all_over e h
    swept true None h = goes_on true None h (λ e ne. ne refl)
    swept false end h = goes_on false end h (λ e ne. let z : false ≡ true = e in absurd (cc))

  -- where the run stands with the packets that were sent and the one that is held
  pub workers_in : (i : ℕ) (ov : Bool) (end : Option DispatcherEnd) (d : DispatcherState) (f : LocalRunView (TableOf S)) (reader : Reading) (left : Option (List ℕ)) → IsInSweep packets x t pool number k i bytes ov end d f reader left
      → (r : RunState) × AreWorkersAt x r f × (length r.machine.cores ≡ cores_of t)
  workers_in i ov end d f reader left h =
      let now = h.runs (h.sent ++ held_list d.held) (held_goes_on h.sent d) (held_few packets t bytes h.sent d f reader left h.tied) in
      (now.state, now.by.at.workers, now.by.at.dispatcher.cores ∙ ap cores_of h.tied.terms)

  pub workers_are : (d : DispatcherState) (f : LocalRunView (TableOf S)) (reader : Reading) (left : Option (List ℕ)) → IsSweeping packets x t pool number k bytes d f reader left → length f.workers ≡ cores_of t
  workers_are d f reader left h =
      let now = h.runs (h.sent ++ held_list d.held) (held_goes_on h.sent d) (held_few packets t bytes h.sent d f reader left h.tied) in
      now.by.at.workers.workers ∙ (now.by.at.dispatcher.cores ∙ ap cores_of h.tied.terms)

  pub few_sweeps : (d : DispatcherState) (f : LocalRunView (TableOf S)) (reader : Reading) (left : Option (List ℕ)) → IsSweeping packets x t pool number k bytes d f reader left → k < MOST_SWEEPS
  few_sweeps d f reader left h =
      let now = h.runs (h.sent ++ held_list d.held) (held_goes_on h.sent d) (held_few packets t bytes h.sent d f reader left h.tied) in
      below_all k (to_do now.state d) MOST_SWEEPS now.few
    where
      below_all : (k a most : ℕ) → k + a < most → k < most
      below_all k a most h = omega arith

-- the party that the code gives a turn is the run's
pub party_there : (run : RunInputs) (first step parties number workers : ℕ) → first ≡ number / 65536 → number ≡ number_after run.swept run.number → parties ≡ workers + 1 → workers ≡ cores_of run.terms → (first + step) % parties ≡ party_at run step
party_there run first step parties number workers e is p w = (λ i. ((e ∙ ap (λ (z : ℕ). z / 65536) is) i + step) % (p ∙ ap (λ (z : ℕ). z + 1) w) i)

pub turns_below : (run : RunInputs) (step parties workers : ℕ) → step < parties → parties ≡ workers + 1 → workers ≡ cores_of run.terms → step < cores_of run.terms + 1
turns_below run step parties workers lt p w = below_by step parties (cores_of run.terms + 1) lt (sym (p ∙ ap (λ (z : ℕ). z + 1) w))
