-- The steps of a turn of the dispatcher that isn't short of memory are those of the run's deed.
use Rattle.std.proofs.Common.{◌≡◌, ℕ, ◌+◌, ◌<◌, ◌≤◌, ◌^◌, true, false, List, [], ◌∷◌, ◌++◌, length, get_or, Option, Some, None, sym, ap, ◌∙◌, subst, inl, inr, arith}
use Rattle.std.proofs.lemmas.Bool.{le-ltb}
use Rattle.std.specs.Prelude.{slice_get}
use Rattle.bucket_table.specs.Table.{TableOf}
use Rattle.packet_fields.specs.declared.packet.PacketInfo.{PacketInfo}
use Rattle.pcap_reader.specs.Reading.{Reading}
use Rattle.indirection.specs.Tries.{ask_bucket}
use Rattle.indirection.specs.Story.{Parcel, Step, Rounds}
use Rattle.indirection.specs.Due.{due}
use Rattle.worker_loop.specs.Workload.{Workload}
use Rattle.dispatch_loop.specs.declared.dispatcher_turn.DispatcherTurn.{DispatcherTurn}
use Rattle.dispatch_loop.specs.declared.dispatcher_turn.DispatcherTurn.TheVariants.{Sent, Round, Ordered, EndSent, NoCell, LaneFull, Finished}
use Rattle.dispatch_loop.specs.Asks.{due_now, owner_at}
use Rattle.dispatch_loop.specs.Does.{bucket_for, owner_for}
use Rattle.dispatch_loop.specs.DispatcherState.{DispatcherState}
use Rattle.dispatch_loop.specs.Past.{Past, parcel_of, parcels, story}
use Rattle.dispatch_loop.specs.DispatcherSnapshot as dispatchers
use Rattle.dispatch_loop.specs.DispatcherSnapshot.{Outs}
use Rattle.dispatch_loop.specs.Rules as turns
use Rattle.dispatch_loop.specs.Rules.{IsAsked, IsRoundMade, IsRoundRefused, Passes, Acts, IsNext, Fetches, ReadsNext, HasRead, IsPacketTurn, IsEndTurn, SendsPacket, Grows}
use Rattle.dispatch_loop.specs.Steps.{packet_steps, next_steps, act_steps, turn_steps}
use Rattle.dispatch_loop.specs.Terms.{rules_of}
use Rattle.dispatch_loop.specs.Tied.{TiedIn}
use Rattle.dispatch_loop.proofs.Tells.{tells-on}
use Rattle.dispatch_loop.proofs.Dues.{round_due}
use Rattle.rsspp_run.specs.Serial.{Setting, RunState, sent, deed_due, dispatcher_turn, does}
use Rattle.rsspp_run.specs.LocalRun.{LocalRunView, lane_at}
use Rattle.rsspp_run.specs.DispatcherOf.{outs_of, IsSending, dispatcher_snapshot_over, IsReady, HoldsNext}
use Rattle.rsspp_run.specs.At.{IsAt, HaveRoom}
use Rattle.rsspp_run.proofs.Asked.{tries_told}
use Rattle.rsspp_run.proofs.DispatcherRules.{never_full, sent_told, late_told, end_told}
use Rattle.rsspp_run.proofs.DispatcherThen.{loads_or, acts_short, at_then, core_for, sending_by, turn_then}
use Rattle.indirection.proofs.Told.{parcels_of-told}
use Rattle.flow_work.specs.declared.work.TheConstants.{MOST_COST}
use Rattle.core_queue.specs.declared.item.Seen.{Seen}
use Rattle.core_queue.specs.Local.{new_lane}
use Rattle.worker_loop.specs.Counts as counts
use Rattle.dispatch_loop.specs.Costs.{cost_at, HaveCosts}
use Rattle.rsspp_run.proofs.BesideWorkers.{lane_is}
use Rattle.rsspp_run.proofs.TakenCosts.{taken_costs, costs_small}
use Rattle.std.proofs.lemmas.List.{map-append}
use Rattle.rsspp_run.proofs.RoundTold.{readings_at, load_is, round_told}

module _ {S : Type 0} (x : Workload S) (j : Setting) (r : RunState) (d d' : DispatcherState) (f f' : LocalRunView (TableOf S)) (reader reader' : Reading) (left left' : Option (List ℕ)) (faults faults' : ℕ)
    (at : IsAt x r d f) (rooms : HaveRoom r f) (ready : IsReady r.machine d) (key : f'.key ≡ f.key) (workers : f'.workers ≡ f.workers) where
  owned : (b : ℕ) → b < length r.machine.buckets → owner_at d b < length r.machine.cores
  owned b lt = subst (λ k. k < length r.machine.cores) (at.dispatcher.owners b lt) (at.workers.sound.shaped.owners b lt)

  -- rule 2
  pub asked_steps : (turn : DispatcherTurn) → (h : IsAsked turn (dispatcher_snapshot_over d f reader left faults) (dispatcher_snapshot_over d' f' reader' left' faults')) → (deed_due j r (due_now d)).steps ≡ act_steps turn (dispatcher_snapshot_over d f reader left faults) (dispatcher_snapshot_over d' f' reader' left' faults') (inl h)
  asked_steps turn h =
      let ok = ready.asks h.ask h.due in
      let meter : f'.meter ≡ f.meter = (let l : f'.meter.loads ≡ f.meter.loads = ap loads_or h.meter.1 in λ i. record { loads = l i; history = h.meter.0 i }) in
      ap (λ due. (deed_due j r due).steps) h.due
      ∙ tries_told x r d d' f f' at rooms key workers meter h.ask ok.0 ok.1 ok.2 (owned (ask_bucket h.ask) ok.0) turn h.tries

  module _ (turn : DispatcherTurn) (m : dispatchers.DispatcherSnapshot (TableOf S)) (fetch : Fetches (dispatcher_snapshot_over d f reader left faults) m) (on : HoldsNext r.machine j.parcels m.dispatcher) (buckets : (p : PacketInfo) → bucket_for m.dispatcher p < length r.machine.buckets) where
    by_due : (o : Option Parcel) (ss : List Step) → slice_get j.parcels r.machine.sent ≡ o → (sent r.machine o).steps ≡ ss → (deed_due j r (due_now d)).steps ≡ ss
    by_due o ss e h = ap (λ due. (deed_due j r due).steps) fetch.due ∙ (ap (λ z. (sent r.machine z).steps) e ∙ h)

    -- rule 3
    packet_told : (turn : DispatcherTurn) (p : PacketInfo) → (h : IsPacketTurn turn p m (dispatcher_snapshot_over d' f' reader' left' faults')) → (deed_due j r (due_now d)).steps ≡ packet_steps turn m.dispatcher.terms p
    packet_told turn p h = by turn (subst (λ o. SendsPacket turn p m.dispatcher d' o (outs_of f')) fetch.outs h.sends) where
      at_m : IsAt x r m.dispatcher f
      at_m = at_then x j r d d' f f' reader reader' left left' faults faults' at rooms ready key workers turn m fetch on buckets

      sends : IsSending f f'
      sends = sending_by x j r d d' f f' reader reader' left left' faults faults' at rooms ready key workers turn m fetch on buckets h.shelf h.meter

      near : owner_for m.dispatcher p < length r.machine.cores
      near = core_for x j r d d' f f' reader reader' left left' faults faults' at rooms ready key workers turn m fetch on buckets p

      by : (turn : DispatcherTurn) → SendsPacket turn p m.dispatcher d' (outs_of f) (outs_of f') → (deed_due j r (due_now d)).steps ≡ packet_steps turn m.dispatcher.terms p
      by Sent k = by_due (Some (parcel_of m.dispatcher.terms p)) _ (on.next p h.held).2 (sent_told x r m.dispatcher f at_m rooms d' f' sends p (parcel_of m.dispatcher.terms p) k)
      by NoCell k = by_due (Some (parcel_of m.dispatcher.terms p)) _ (on.next p h.held).2 (late_told x r m.dispatcher f at_m rooms d' f' sends (parcel_of m.dispatcher.terms p) k)
      by (LaneFull c) k =
          let lt : c < length r.machine.cores = subst (λ i. i < length r.machine.cores) (sym k.core) near in
          absurd (never_full x r m.dispatcher f at_m rooms c lt (at_m.dispatcher.ends c lt ∙ le-ltb c m.dispatcher.ends (let e = on.no_ends p h.held in omega arith)) k.full.full.1)
      by Round k = absurd k
      by Ordered k = absurd k
      by EndSent k = absurd k
      by (Finished e) k = absurd k

    pub next_told : (turn : DispatcherTurn) → (h : IsNext turn m (dispatcher_snapshot_over d' f' reader' left' faults')) → (deed_due j r (due_now d)).steps ≡ next_steps turn m (dispatcher_snapshot_over d' f' reader' left' faults') h
    next_told turn (inl k) = packet_told turn k.0 k.1
    next_told turn (inr k) = by_due None [] (on.none k.none_held k.ended).1 (end_told r)

-- the turn of a dispatcher that isn't short of memory afterwards
module _ {S : Type 0} (x : Workload S) (j : Setting) (r : RunState) (d d' : DispatcherState) (f f' : LocalRunView (TableOf S)) (reader reader' : Reading) (left left' : Option (List ℕ)) (faults faults' : ℕ)
    (at : IsAt x r d f) (rooms : HaveRoom r f) (ready : IsReady r.machine d) (key : f'.key ≡ f.key) (workers : f'.workers ≡ f.workers) (still : d'.short ≡ false) where
  module _ (turn : DispatcherTurn)
      (on : (m : dispatchers.DispatcherSnapshot (TableOf S)) → Fetches (dispatcher_snapshot_over d f reader left faults) m → IsNext turn m (dispatcher_snapshot_over d' f' reader' left' faults') → HoldsNext r.machine j.parcels m.dispatcher × ((p : PacketInfo) → bucket_for m.dispatcher p < length r.machine.buckets)) where
    acts_told : (h : Acts turn (dispatcher_snapshot_over d f reader left faults) (dispatcher_snapshot_over d' f' reader' left' faults')) → (deed_due j r (due_now d)).steps ≡ act_steps turn (dispatcher_snapshot_over d f reader left faults) (dispatcher_snapshot_over d' f' reader' left' faults') h
    acts_told (inl k) = asked_steps x j r d d' f f' reader reader' left left' faults faults' at rooms ready key workers turn k
    acts_told (inr k) = let o = on k.0 k.1 k.2 in next_told x j r d d' f f' reader reader' left left' faults faults' at rooms ready key workers turn k.0 k.1 o.0 o.1 turn k.2

    passes_told : (m : dispatchers.DispatcherSnapshot (TableOf S)) → Passes (dispatcher_snapshot_over d f reader left faults) m → (a : Acts turn m (dispatcher_snapshot_over d' f' reader' left' faults')) → (deed_due j r (due_now d)).steps ≡ act_steps turn m (dispatcher_snapshot_over d' f' reader' left' faults') a
    passes_told m (inl k) = subst (λ z. (a : Acts turn z (dispatcher_snapshot_over d' f' reader' left' faults')) → (deed_due j r (due_now d)).steps ≡ act_steps turn z (dispatcher_snapshot_over d' f' reader' left' faults') a) (sym k.1) acts_told
    passes_told m (inr k) = λ a.
        let short : m.dispatcher.short ≡ true = ap (λ (e : DispatcherState). e.short) k.dispatcher in
        let z : false ≡ true = sym still ∙ (acts_short turn m (dispatcher_snapshot_over d' f' reader' left' faults') a ∙ short) in absurd (cc)

  module _ (packets : Option (List PacketInfo)) (p : Past) (tied : TiedIn packets p (dispatcher_snapshot_over d f reader left faults)) (rules : j.rules ≡ rules_of d.terms) (told : r.steps ≡ story d p.packets) (all : List PacketInfo) (parcels_are : j.parcels ≡ parcels d.terms all) (rest : List PacketInfo) (goes : all ≡ p.packets ++ rest) (cost : x.cost ≡ d.terms.cost) where
    -- what each core took costs what the run's packets do
    have_costs : (c : ℕ) → c < length r.machine.cores → counts.HaveCosts (cost_at j.parcels) x.cost (lane_at f c).history.taken
    have_costs c near =
        let wide = at.workers.lanes in
        let lane = tied.sent.each c (lane_at f c).history (lane_is f.lanes c (new_lane f.key 0 0) (omega arith)) in
        let split : parcels d.terms p.packets ++ parcels d.terms rest ≡ j.parcels = sym (parcels_are ∙ (ap (parcels d.terms) goes ∙ map-append (parcel_of d.terms) p.packets rest)) in
        let sent = subst (λ (y : List Parcel × List Seen). HaveCosts d.terms.cost y.0 y.1) (λ i. (parcels_of-told d.journal.entries 0 (parcels d.terms p.packets) i, (at.workers.each c near).order i)) lane.costs in
        subst (λ (y : List Parcel × (PacketInfo → ℕ)). counts.HaveCosts (cost_at y.0) y.1 (lane_at f c).history.taken) (λ i. (split i, sym cost i))
        (taken_costs d.terms.cost (parcels d.terms p.packets) (parcels d.terms rest) (lane_at f c).history.taken (lane_at f c).items sent)

    small : (b place : ℕ) → cost_at j.parcels b place ≤ MOST_COST
    small b place = subst (λ (z : List Parcel). cost_at z b place ≤ MOST_COST) (sym parcels_are) (costs_small d.terms tied.sound.cost all b place)

    round_steps : (h : IsRoundMade (dispatcher_snapshot_over d f reader left faults) (dispatcher_snapshot_over d' f' reader' left' faults')) → (deed_due j r (due_now d)).steps ≡ turn_steps (dispatcher_snapshot_over d f reader left faults) Round (dispatcher_snapshot_over d' f' reader' left' faults') h
    round_steps h =
        let short = (round_due d h.due).0 in
        let few : length r.machine.cores ≤ 2 ^ 32 = (let c = at.dispatcher.cores in let k = tied.sound.table.cores in omega arith) in
        let each = h.reads.each in
        ap (λ due. (deed_due j r due).steps) h.due
        ∙ ap (λ z. Rounds z ∷ []) (round_told j r d p.packets f.meter.history rules told tied.dealt tied.loads.wide (tied.lawful short) h.due h.readings h.reads.each
        (λ c near. sym (readings_at f.meter.loads f.meter.history 0 h.readings c h.reads.answers (omega arith))
        ∙ (ap (λ (k : ℕ). get_or f.meter.loads k 0) (let q : 0 + c ≡ c = omega arith in q) ∙ load_is x r f at.workers few (cost_at j.parcels) small have_costs c (let c = at.dispatcher.cores in omega arith))))

    steps_told : (turn : DispatcherTurn) → (rule : turns.IsTurn (dispatcher_snapshot_over d f reader left faults) turn (dispatcher_snapshot_over d' f' reader' left' faults'))
        → ((m : dispatchers.DispatcherSnapshot (TableOf S)) → Fetches (dispatcher_snapshot_over d f reader left faults) m → IsNext turn m (dispatcher_snapshot_over d' f' reader' left' faults') → HoldsNext r.machine j.parcels m.dispatcher × ((p : PacketInfo) → bucket_for m.dispatcher p < length r.machine.buckets))
        → (deed_due j r (due_now d)).steps ≡ turn_steps (dispatcher_snapshot_over d f reader left faults) turn (dispatcher_snapshot_over d' f' reader' left' faults') rule
    steps_told Round h on = round_steps h
    steps_told Sent h on = passes_told Sent on h.0 h.1 h.2
    steps_told Ordered h on = passes_told Ordered on h.0 h.1 h.2
    steps_told EndSent h on = passes_told EndSent on h.0 h.1 h.2
    steps_told NoCell h on = passes_told NoCell on h.0 h.1 h.2
    steps_told (LaneFull c) h on = passes_told (LaneFull c) on h.0 h.1 h.2
    steps_told (Finished e) h on = passes_told (Finished e) on h.0 h.1 h.2

    -- behind the turn the run's steps are the dispatcher's story
    pub story_then : (turn : DispatcherTurn) → (rule : turns.IsTurn (dispatcher_snapshot_over d f reader left faults) turn (dispatcher_snapshot_over d' f' reader' left' faults'))
        → ((m : dispatchers.DispatcherSnapshot (TableOf S)) → Fetches (dispatcher_snapshot_over d f reader left faults) m → IsNext turn m (dispatcher_snapshot_over d' f' reader' left' faults') → HoldsNext r.machine j.parcels m.dispatcher × ((p : PacketInfo) → bucket_for m.dispatcher p < length r.machine.buckets))
        → (ps : List PacketInfo) → Grows turn p.packets ps (dispatcher_snapshot_over d f reader left faults).outs.lanes (dispatcher_snapshot_over d' f' reader' left' faults').outs.lanes
        → r.steps ++ (deed_due j r (due_now d)).steps ≡ story d' ps
    story_then turn rule on ps grows =
        (λ i. told i ++ steps_told turn rule on i)
        ∙ sym (tells-on packets p (dispatcher_snapshot_over d f reader left faults) (dispatcher_snapshot_over d' f' reader' left' faults') tied turn ps grows rule)

    -- what is due by the run's steps is what the dispatcher takes for due
    pub due_then : d.short ≡ false → due j.rules r.steps ≡ due_now d
    due_then short = (λ i. due (rules i) (told i)) ∙ (tied.lawful short).due_is

    -- memory that is refused stays refused
    open_before : (turn : DispatcherTurn) → turns.IsTurn (dispatcher_snapshot_over d f reader left faults) turn (dispatcher_snapshot_over d' f' reader' left' faults') → d.short ≡ false
    open_before turn rule = by turn rule where
      passed : (turn : DispatcherTurn) (m : dispatchers.DispatcherSnapshot (TableOf S)) → Passes (dispatcher_snapshot_over d f reader left faults) m → Acts turn m (dispatcher_snapshot_over d' f' reader' left' faults') → d.short ≡ false
      passed turn m (inl k) a = sym (ap (λ (z : dispatchers.DispatcherSnapshot (TableOf S)). z.dispatcher.short) k.1) ∙ (sym (acts_short turn m (dispatcher_snapshot_over d' f' reader' left' faults') a) ∙ still)
      passed turn m (inr k) a = (round_due d k.due).0

      by : (turn : DispatcherTurn) → turns.IsTurn (dispatcher_snapshot_over d f reader left faults) turn (dispatcher_snapshot_over d' f' reader' left' faults') → d.short ≡ false
      by Round h = (round_due d h.due).0
      by Sent h = passed Sent h.0 h.1 h.2
      by Ordered h = passed Ordered h.0 h.1 h.2
      by EndSent h = passed EndSent h.0 h.1 h.2
      by NoCell h = passed NoCell h.0 h.1 h.2
      by (LaneFull c) h = passed (LaneFull c) h.0 h.1 h.2
      by (Finished e) h = passed (Finished e) h.0 h.1 h.2

    -- so the turn is the run's turn of the dispatcher
    pub run_then : (turn : DispatcherTurn) → turns.IsTurn (dispatcher_snapshot_over d f reader left faults) turn (dispatcher_snapshot_over d' f' reader' left' faults')
        → ((m : dispatchers.DispatcherSnapshot (TableOf S)) → Fetches (dispatcher_snapshot_over d f reader left faults) m → IsNext turn m (dispatcher_snapshot_over d' f' reader' left' faults') → HoldsNext r.machine j.parcels m.dispatcher × ((p : PacketInfo) → bucket_for m.dispatcher p < length r.machine.buckets))
        → (ps : List PacketInfo) → Grows turn p.packets ps (dispatcher_snapshot_over d f reader left faults).outs.lanes (dispatcher_snapshot_over d' f' reader' left' faults').outs.lanes
        → IsAt x (dispatcher_turn j r) d' f' × ((dispatcher_turn j r).steps ≡ story d' ps)
    run_then turn rule on ps grows =
        let due = due_then (open_before turn rule) in (
          subst (λ k. IsAt x (does r (deed_due j r k)) d' f') (sym due) (turn_then x j r d d' f f' reader reader' left left' faults faults' at rooms ready key workers still turn rule on),
          ap (λ k. r.steps ++ (deed_due j r k).steps) due ∙ story_then turn rule on ps grows,
        )
