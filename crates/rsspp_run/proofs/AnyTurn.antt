-- Any turn of a dispatcher that is tied is some deed of the run, which takes its counted events off the steps that are left.
use Rattle.std.proofs.Common.{◌≡◌, ℕ, ◌<◌, ◌≤◌, List, length, Option, sym, ap, ◌∙◌, subst, inl, inr, arith}
use Rattle.bucket_table.specs.Table.{TableOf}
use Rattle.packet_fields.specs.declared.packet.PacketInfo.{PacketInfo}
use Rattle.pcap_reader.specs.Reading.{Reading}
use Rattle.worker_loop.specs.Workload.{Workload}
use Rattle.dispatch_loop.specs.declared.dispatcher_turn.DispatcherTurn.{DispatcherTurn}
use Rattle.dispatch_loop.specs.Does.{bucket_for}
use Rattle.dispatch_loop.specs.DispatcherState.{DispatcherState}
use Rattle.dispatch_loop.specs.Past.{Past, parcels}
use Rattle.dispatch_loop.specs.DispatcherSnapshot as dispatchers
use Rattle.dispatch_loop.specs.DispatcherSnapshot.{Outs}
use Rattle.dispatch_loop.specs.Rules as turns
use Rattle.dispatch_loop.specs.Rules.{IsNext, Fetches, Passes, Grows}
use Rattle.dispatch_loop.specs.Terms.{Terms, buckets_of}
use Rattle.dispatch_loop.specs.Tied.{TiedIn}
use Rattle.dispatch_loop.proofs.Carrying.{bucket-below}
use Rattle.dispatch_loop.proofs.Tells.{refused-tied}
use Rattle.dispatch_loop.proofs.Ties.{sent-is}
use Rattle.rsspp_run.specs.Serial.{Setting, RunState}
use Rattle.rsspp_run.specs.LocalRun.{LocalRunView}
use Rattle.rsspp_run.specs.DispatcherOf.{dispatcher_snapshot_over, HoldsNext}
use Rattle.rsspp_run.specs.At.{IsAt, HaveRoom}
use Rattle.std.proofs.lemmas.List.{length-map}
use Rattle.rsspp_run.specs.Goes.{bucket_in, HasPacketsLeft, IsRunOf}
use Rattle.rsspp_run.proofs.Goes.{next_goes, none_ended, same_terms}
use Rattle.rsspp_run.proofs.Ready.{goes_on}
use Rattle.rsspp_run.proofs.RefusedRounds.{DoesSome, some_deed}

-- a run has a packet for each parcel
pub as_many : (all : List PacketInfo) (j : Setting) (r : RunState) (t : Terms) → IsRunOf all j r t → length r.machine.packets ≡ length j.parcels
as_many all j r t is = ap (λ (z : List ℕ). length z) is.packets_are ∙ length-map j.parcels bucket_in

pub any_turn : {S : Type 0} (packets : Option (List PacketInfo)) (p : Past) (all : List PacketInfo) (x : Workload S) (j : Setting) (r : RunState) (d d' : DispatcherState) (f f' : LocalRunView (TableOf S)) (reader reader' : Reading) (left left' : Option (List ℕ)) (faults faults' : ℕ)
    → (at : IsAt x r d f) → (rooms : HaveRoom r f) → (key : f'.key ≡ f.key) → (workers : f'.workers ≡ f.workers) → (tied : TiedIn packets p (dispatcher_snapshot_over d f reader left faults)) → IsRunOf all j r d.terms
    → (turn : DispatcherTurn) → turns.IsTurn (dispatcher_snapshot_over d f reader left faults) turn (dispatcher_snapshot_over d' f' reader' left' faults')
    → (ps : List PacketInfo) → Grows turn p.packets ps (dispatcher_snapshot_over d f reader left faults).outs.lanes (dispatcher_snapshot_over d' f' reader' left' faults').outs.lanes → HasPacketsLeft all ps d' → d'.sent ≤ d'.terms.packets
    → DoesSome x j r d d' f f' reader reader' left left' faults faults' at rooms key workers packets p tied
any_turn {S} packets p all x j r d d' f f' reader reader' left left' faults faults' at rooms key workers tied is turn rule ps grows c few =
    some_deed x j r d d' f f' reader reader' left left' faults faults' at rooms key workers packets p tied (as_many all j r d.terms is) few turn rule (λ m n passes fetch next. by m n passes fetch next) where
      bucket_in_run : (e : DispatcherState) → e.terms ≡ d.terms → (q : PacketInfo) → bucket_for d q < length r.machine.buckets → bucket_for e q < length r.machine.buckets
      bucket_in_run e same q h = subst (λ z. Rattle.toeplitz.specs.Bucket.bucket_of z.key (buckets_of z) q < length r.machine.buckets) (sym same) h

      from : (m n : dispatchers.DispatcherSnapshot (TableOf S)) → TiedIn packets p m → m.dispatcher.terms ≡ d.terms → m.outs ≡ (dispatcher_snapshot_over d f reader left faults).outs → Fetches m n → IsNext turn n (dispatcher_snapshot_over d' f' reader' left' faults') → HoldsNext r.machine j.parcels n.dispatcher × ((q : PacketInfo) → bucket_for n.dispatcher q < length r.machine.buckets)
      from m n t terms outs fetch next =
          let same = same_terms packets p all m n fetch in
          let grown = subst (λ (o : Outs). Grows turn p.packets ps o.lanes (dispatcher_snapshot_over d' f' reader' left' faults').outs.lanes) (sym outs) grows in
          let sent : r.machine.sent ≡ length p.packets = (let e = at.dispatcher.sent in let q = sent-is d p.packets tied.dealt in omega arith) in (
            goes_on r.machine j.parcels all p.packets n.dispatcher is.packets_are (is.parcels_are ∙ ap (λ (z : Terms). parcels z all) (sym (same.0 ∙ terms))) sent
                (next_goes packets p all m n (dispatcher_snapshot_over d' f' reader' left' faults') t fetch turn ps grown next c)
                (none_ended packets p all m n t fetch),
            λ q. bucket_in_run n.dispatcher (same.0 ∙ terms) q (let b = bucket-below d.terms.key (buckets_of d.terms) q (let some = tied.sound.table.some_bucket in omega arith) in let wide = at.dispatcher.buckets in omega arith),
          )

      by : (m n : dispatchers.DispatcherSnapshot (TableOf S)) → Passes (dispatcher_snapshot_over d f reader left faults) m → Fetches m n → IsNext turn n (dispatcher_snapshot_over d' f' reader' left' faults') → HoldsNext r.machine j.parcels n.dispatcher × ((q : PacketInfo) → bucket_for n.dispatcher q < length r.machine.buckets)
      by m n (inl k) fetch next = from m n (subst (TiedIn packets p) (sym k.1) tied) (ap (λ (z : dispatchers.DispatcherSnapshot (TableOf S)). z.dispatcher.terms) k.1) (ap (λ (z : dispatchers.DispatcherSnapshot (TableOf S)). z.outs) k.1) fetch next
      by m n (inr k) fetch next = from m n (refused-tied packets p (dispatcher_snapshot_over d f reader left faults) m tied k) (ap (λ (e : DispatcherState). e.terms) k.dispatcher) k.outs fetch next
