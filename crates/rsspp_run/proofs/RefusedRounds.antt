-- A turn of the dispatcher, also one whose round is refused memory: some deed of the run.
use Rattle.std.proofs.Common.{◌≡◌, ℕ, ◌+◌, ◌<◌, ◌≤◌, true, false, List, length, Option, refl, sym, ap, ◌∙◌, subst, inl, inr, arith}
use Rattle.bucket_table.specs.Table.{TableOf}
use Rattle.packet_fields.specs.declared.packet.PacketInfo.{PacketInfo}
use Rattle.pcap_reader.specs.Reading.{Reading}
use Rattle.indirection.specs.Due.{Due}
use Rattle.worker_loop.specs.Workload.{Workload}
use Rattle.dispatch_loop.specs.declared.dispatcher_turn.DispatcherTurn.{DispatcherTurn}
use Rattle.dispatch_loop.specs.declared.dispatcher_turn.DispatcherTurn.TheVariants.{Sent, Round, Ordered, EndSent, NoCell, LaneFull, Finished}
use Rattle.dispatch_loop.specs.Asks.{due_now}
use Rattle.dispatch_loop.specs.Does.{bucket_for}
use Rattle.dispatch_loop.specs.DispatcherState.{DispatcherState}
use Rattle.dispatch_loop.specs.Past.{Past}
use Rattle.dispatch_loop.specs.DispatcherSnapshot as dispatchers
use Rattle.dispatch_loop.specs.Rules as turns
use Rattle.dispatch_loop.specs.Rules.{IsRoundMade, IsRoundRefused, Passes, Acts, IsNext, Fetches}
use Rattle.dispatch_loop.specs.Tied.{TiedIn}
use Rattle.dispatch_loop.proofs.Tells.{refused-tied}
use Rattle.rsspp_run.specs.Serial.{Setting, RunState, Deed, deed_due, does}
use Rattle.rsspp_run.specs.LocalRun.{LocalRunView}
use Rattle.rsspp_run.specs.DispatcherOf.{dispatcher_snapshot_over, IsReady, HoldsNext}
use Rattle.rsspp_run.specs.At.{IsAt, HaveRoom}
use Rattle.rsspp_run.proofs.Dispatchers.{dispatcher_same}
use Rattle.rsspp_run.proofs.DispatcherThen.{acts_short, asked_then, packet_then, end_then, round_then}
use Rattle.rsspp_run.proofs.Ready.{ready_of}
use Rattle.rsspp_run.proofs.Falls.{Fallen, due_falls}
use Rattle.rsspp_run.proofs.Budget.{acts_less, round_less, refused_less}
use Rattle.rsspp_run.proofs.StepsThen.{asked_steps, next_told}
use Rattle.rsspp_run.specs.Sweeps.{to_try, to_do}
use Rattle.rsspp_run.specs.Lines.{weight}
use Rattle.indirection.specs.Story.{Step}
use Rattle.dispatch_loop.specs.Asks.{RiseFrom}
use Rattle.dispatch_loop.specs.Steps.{act_steps}
use Rattle.rsspp_run.proofs.Rounds.{reads_stay}

-- what the rules behind a round do
acts_any : {S : Type 0} (x : Workload S) (j : Setting) (r : RunState) (d d' : DispatcherState) (f f' : LocalRunView (TableOf S)) (reader reader' : Reading) (left left' : Option (List ℕ)) (faults faults' : ℕ)
    → IsAt x r d f → HaveRoom r f → IsReady r.machine d → f'.key ≡ f.key → f'.workers ≡ f.workers → (turn : DispatcherTurn)
    → ((n : dispatchers.DispatcherSnapshot (TableOf S)) → Fetches (dispatcher_snapshot_over d f reader left faults) n → IsNext turn n (dispatcher_snapshot_over d' f' reader' left' faults') → HoldsNext r.machine j.parcels n.dispatcher × ((q : PacketInfo) → bucket_for n.dispatcher q < length r.machine.buckets))
    → Acts turn (dispatcher_snapshot_over d f reader left faults) (dispatcher_snapshot_over d' f' reader' left' faults') → IsAt x (does r (deed_due j r (due_now d))) d' f'
acts_any x j r d d' f f' reader reader' left left' faults faults' at rooms ready key workers turn on (inl k) = asked_then x j r d d' f f' reader reader' left left' faults faults' at rooms ready key workers turn k
acts_any x j r d d' f f' reader reader' left left' faults faults' at rooms ready key workers turn on (inr (n, fetch, inl k)) = let o = on n fetch (inl k) in packet_then x j r d d' f f' reader reader' left left' faults faults' at rooms ready key workers turn n fetch o.0 o.1 turn k.0 k.1
acts_any x j r d d' f f' reader reader' left left' faults faults' at rooms ready key workers turn on (inr (n, fetch, inr k)) = let o = on n fetch (inr k) in end_then x j r d d' f f' reader reader' left left' faults faults' at rooms ready key workers turn n fetch o.0 o.1 turn k

-- they take what they weigh off what is left to do
falls_by : (r : RunState) (d d' : DispatcherState) (e : Deed) → Fallen r.machine e.events → to_try d' + length e.steps ≤ to_try d → to_do (does r e) d' + weight e ≤ to_do r d
unfolding Fallen
falls_by r d d' e fallen less = omega arith

acts_weigh : {S : Type 0} (x : Workload S) (j : Setting) (r : RunState) (d d' : DispatcherState) (f f' : LocalRunView (TableOf S)) (reader reader' : Reading) (left left' : Option (List ℕ)) (faults faults' : ℕ)
    → IsAt x r d f → HaveRoom r f → IsReady r.machine d → f'.key ≡ f.key → f'.workers ≡ f.workers → length r.machine.packets ≡ length j.parcels → d'.sent ≤ d'.terms.packets → (turn : DispatcherTurn)
    → ((n : dispatchers.DispatcherSnapshot (TableOf S)) → Fetches (dispatcher_snapshot_over d f reader left faults) n → IsNext turn n (dispatcher_snapshot_over d' f' reader' left' faults') → HoldsNext r.machine j.parcels n.dispatcher × ((q : PacketInfo) → bucket_for n.dispatcher q < length r.machine.buckets))
    → RiseFrom d.sent d.orders → Acts turn (dispatcher_snapshot_over d f reader left faults) (dispatcher_snapshot_over d' f' reader' left' faults') → to_do (does r (deed_due j r (due_now d))) d' + weight (deed_due j r (due_now d)) ≤ to_do r d
acts_weigh {S} x j r d d' f f' reader reader' left left' faults faults' at rooms ready key workers count few turn on rise h =
    falls_by r d d' (deed_due j r (due_now d)) (due_falls x j r d f at count ready)
    (subst (λ (n : ℕ). to_try d' + n ≤ to_try d) (sym (ap (λ (z : List Step). length z) (told h))) (acts_less turn (dispatcher_snapshot_over d f reader left faults) (dispatcher_snapshot_over d' f' reader' left' faults') rise few h))
  where
    told : (h : Acts turn (dispatcher_snapshot_over d f reader left faults) (dispatcher_snapshot_over d' f' reader' left' faults')) → (deed_due j r (due_now d)).steps ≡ act_steps turn (dispatcher_snapshot_over d f reader left faults) (dispatcher_snapshot_over d' f' reader' left' faults') h
    told (inl k) = asked_steps x j r d d' f f' reader reader' left left' faults faults' at rooms ready key workers turn k
    told (inr k) = let o = on k.0 k.1 k.2 in next_told x j r d d' f f' reader reader' left left' faults faults' at rooms ready key workers turn k.0 k.1 o.0 o.1 turn k.2

round_weighs : {S : Type 0} (x : Workload S) (j : Setting) (r : RunState) (d d' : DispatcherState) (f f' : LocalRunView (TableOf S)) (reader reader' : Reading) (left left' : Option (List ℕ)) (faults faults' : ℕ)
    → IsAt x r d f → length r.machine.packets ≡ length j.parcels → IsReady r.machine d → (packets : Option (List PacketInfo)) (p : Past) → TiedIn packets p (dispatcher_snapshot_over d f reader left faults)
    → IsRoundMade (dispatcher_snapshot_over d f reader left faults) (dispatcher_snapshot_over d' f' reader' left' faults') → to_do (does r (deed_due j r (due_now d))) d' + weight (deed_due j r (due_now d)) ≤ to_do r d
round_weighs x j r d d' f f' reader reader' left left' faults faults' at count ready packets p tied h =
    falls_by r d d' (deed_due j r (due_now d)) (due_falls x j r d f at count ready)
    (subst (λ (n : ℕ). to_try d' + n ≤ to_try d) (sym (ap (λ (z : Due). length (deed_due j r z).steps) h.due)) (round_less packets p (dispatcher_snapshot_over d f reader left faults) (dispatcher_snapshot_over d' f' reader' left' faults') tied h))

module _ {S : Type 0} (x : Workload S) (j : Setting) (r : RunState) (d d' : DispatcherState) (f f' : LocalRunView (TableOf S)) (reader reader' : Reading) (left left' : Option (List ℕ)) (faults faults' : ℕ)
    (at : IsAt x r d f) (rooms : HaveRoom r f) (key : f'.key ≡ f.key) (workers : f'.workers ≡ f.workers) (packets : Option (List PacketInfo)) (p : Past) (tied : TiedIn packets p (dispatcher_snapshot_over d f reader left faults)) where
  -- some deed, by what is due, or by what is due once memory was refused; what is left to do falls by what it weighs
  pub record DoesSome : Type 0 where
    pub due : Due
    pub stands : IsAt x (does r (deed_due j r due)) d' f'
    pub is_due : d'.short ≡ false → due ≡ due_now d
    pub less : to_do (does r (deed_due j r due)) d' + weight (deed_due j r due) ≤ to_do r d

  ready : IsReady r.machine d
  ready = ready_of r.machine packets p d _ f.shelf.history f.meter.history reader left tied at.dispatcher

  module _ (count : length r.machine.packets ≡ length j.parcels) (few : d'.sent ≤ d'.terms.packets) (turn : DispatcherTurn) (on : (m n : dispatchers.DispatcherSnapshot (TableOf S)) → Passes (dispatcher_snapshot_over d f reader left faults) m → Fetches m n → IsNext turn n (dispatcher_snapshot_over d' f' reader' left' faults') → HoldsNext r.machine j.parcels n.dispatcher × ((q : PacketInfo) → bucket_for n.dispatcher q < length r.machine.buckets)) where
    refused_then : (m : dispatchers.DispatcherSnapshot (TableOf S)) → IsRoundRefused (dispatcher_snapshot_over d f reader left faults) m → Acts turn m (dispatcher_snapshot_over d' f' reader' left' faults') → DoesSome
    refused_then m k a =
        let fm : LocalRunView (TableOf S) = record f { meter = record { loads = f.meter.loads; history = m.meter } } in
        let is : m ≡ dispatcher_snapshot_over m.dispatcher fm reader left faults = (λ i. record { dispatcher = m.dispatcher; outs = k.outs i; shelf = k.shelf.0 i; shelf_now = k.shelf.1 i; meter = m.meter; meter_now = k.reads.same i; reader = k.reader.0 i; left = k.reader.1 i; faults = k.reader.2 i }) in
        let at_m : IsAt x r m.dispatcher fm = record {
          workers = reads_stay x r f (record { loads = f.meter.loads; history = m.meter }) at.workers k.readings k.reads.history refl;
          dispatcher = dispatcher_same r.machine d at.dispatcher m.dispatcher (ap (λ (e : DispatcherState). e.terms) k.dispatcher) (ap (λ (e : DispatcherState). e.owners) k.dispatcher) (ap (λ (e : DispatcherState). e.starts) k.dispatcher) (ap (λ (e : DispatcherState). e.counts) k.dispatcher) (ap (λ (e : DispatcherState). e.sent) k.dispatcher) (ap (λ (e : DispatcherState). e.ends) k.dispatcher) (ap (λ (e : DispatcherState). e.spare) k.dispatcher ∙ at.dispatcher.spare);
        } in
        let ready_m : IsReady r.machine m.dispatcher = ready_of r.machine packets p m.dispatcher m.outs.lanes m.shelf m.meter m.reader m.left (refused-tied packets p (dispatcher_snapshot_over d f reader left faults) m tied k) at_m.dispatcher in
        record {
          due = due_now m.dispatcher;
          stands = acts_any x j r m.dispatcher d' fm f' reader reader' left left' faults faults' at_m rooms ready_m key workers turn
              (λ n fetch next. on m n (inr k) (subst (λ (z : dispatchers.DispatcherSnapshot (TableOf S)). Fetches z n) (sym is) fetch) next)
              (subst (λ (z : dispatchers.DispatcherSnapshot (TableOf S)). Acts turn z (dispatcher_snapshot_over d' f' reader' left' faults')) is a);
          less =
              let z = subst (λ (z : dispatchers.DispatcherSnapshot (TableOf S)). Acts turn z (dispatcher_snapshot_over d' f' reader' left' faults')) is a in
              let l = acts_weigh x j r m.dispatcher d' fm f' reader reader' left left' faults faults' at_m rooms ready_m key workers count few turn
              (λ n fetch next. on m n (inr k) (subst (λ (z : dispatchers.DispatcherSnapshot (TableOf S)). Fetches z n) (sym is) fetch) next)
              (refused-tied packets p (dispatcher_snapshot_over d f reader left faults) m tied k).orders.ahead z in
              let b = refused_less (dispatcher_snapshot_over d f reader left faults) m k in omega arith;
          is_due = λ still. let short : m.dispatcher.short ≡ true = ap (λ (e : DispatcherState). e.short) k.dispatcher in
              let z : false ≡ true = sym still ∙ (acts_short turn m (dispatcher_snapshot_over d' f' reader' left' faults') a ∙ short) in absurd (cc);
        }

    passes_any : (m : dispatchers.DispatcherSnapshot (TableOf S)) → Passes (dispatcher_snapshot_over d f reader left faults) m → Acts turn m (dispatcher_snapshot_over d' f' reader' left' faults') → DoesSome
    passes_any m (inl k) a = record {
      due = due_now d;
      stands = acts_any x j r d d' f f' reader reader' left left' faults faults' at rooms ready key workers turn (λ n fetch next. on (dispatcher_snapshot_over d f reader left faults) n (inl (k.0, refl)) fetch next) (subst (λ z. Acts turn z (dispatcher_snapshot_over d' f' reader' left' faults')) k.1 a);
      is_due = λ still. refl;
      less = acts_weigh x j r d d' f f' reader reader' left left' faults faults' at rooms ready key workers count few turn (λ n fetch next. on (dispatcher_snapshot_over d f reader left faults) n (inl (k.0, refl)) fetch next) tied.orders.ahead (subst (λ z. Acts turn z (dispatcher_snapshot_over d' f' reader' left' faults')) k.1 a);
    }
    passes_any m (inr k) a = refused_then m k a

  pub some_deed : length r.machine.packets ≡ length j.parcels → d'.sent ≤ d'.terms.packets → (turn : DispatcherTurn) → turns.IsTurn (dispatcher_snapshot_over d f reader left faults) turn (dispatcher_snapshot_over d' f' reader' left' faults')
      → ((m n : dispatchers.DispatcherSnapshot (TableOf S)) → Passes (dispatcher_snapshot_over d f reader left faults) m → Fetches m n → IsNext turn n (dispatcher_snapshot_over d' f' reader' left' faults') → HoldsNext r.machine j.parcels n.dispatcher × ((q : PacketInfo) → bucket_for n.dispatcher q < length r.machine.buckets))
      → DoesSome
  some_deed count few Round h on = record {
    due = due_now d;
    stands = round_then x j r d d' f f' reader reader' left left' faults faults' at rooms ready key workers h;
    is_due = λ still. refl;
    less = round_weighs x j r d d' f f' reader reader' left left' faults faults' at count ready packets p tied h;
  }
  some_deed count few Sent h on = passes_any count few Sent on h.0 h.1 h.2
  some_deed count few Ordered h on = passes_any count few Ordered on h.0 h.1 h.2
  some_deed count few EndSent h on = passes_any count few EndSent on h.0 h.1 h.2
  some_deed count few NoCell h on = passes_any count few NoCell on h.0 h.1 h.2
  some_deed count few (LaneFull c) h on = passes_any count few (LaneFull c) on h.0 h.1 h.2
  some_deed count few (Finished e) h on = passes_any count few (Finished e) on h.0 h.1 h.2
