-- The rules of the dispatcher's turn as events of the machine, over what all share.
use Rattle.std.proofs.Common.{◌≡◌, ℕ, ◌-◌, ◌<◌, Bool, true, false, ◌&&◌, not, ltb, if◌then◌else◌, List, [], ◌∷◌, ◌++◌, map, length, get_or, Option, Some, None, refl, sym, ap, ◌∙◌, subst, arith, lt-ltb, eq-eqb}
use Rattle.std.specs.Prelude.{slice_index}
use Rattle.indirection.proofs.Tests.{by_test}
use Rattle.bucket_table.specs.Table.{TableOf}
use Rattle.packet_fields.specs.declared.packet.PacketInfo.{PacketInfo}
use Rattle.handover_core.specs.declared.item.Item.TheVariants.{Of}
use Rattle.handover_core.specs.declared.post.Post.{Post}
use Rattle.handover_core.specs.declared.event.Event.{Event}
use Rattle.handover_core.specs.declared.event.Event.TheVariants.{Send, SendEnd}
use Rattle.handover_core.specs.Dispatch.{kind_at, stream}
use Rattle.handover_core.specs.State.{MachineView, bucket_at, sent_of}
use Rattle.handover_core.specs.Machine.{enabled, step}
use Rattle.packet_pool.specs.PoolHistory.{Store, store}
use Rattle.core_queue.specs.declared.item.Seen.{Seen}
use Rattle.core_queue.specs.declared.item.Seen.TheVariants.{Packet, Close}
use Rattle.core_queue.specs.Cells.{plain}
use Rattle.core_queue.specs.Local.{LocalState, new_lane}
use Rattle.handover_words.specs.LocalShelf.{LocalView}
use Rattle.load_meter.specs.LocalMeter.{MeterState}
use Rattle.load_meter.specs.LoadHistory.{noted_at}
use Rattle.worker_loop.specs.Workload.{Workload}
use Rattle.handover_core.specs.Machine.{posts_by}
use Rattle.worker_loop.specs.Turned.{SameClaims, SameNoted}
use Rattle.dispatch_loop.specs.DispatcherState.{DispatcherState}
use Rattle.dispatch_loop.specs.Does.{GetsCell, Pushes, IsSent, IsEndSent, bucket_for, owner_for, cell_of}
use Rattle.rsspp_run.specs.Serial.{RunState}
use Rattle.rsspp_run.specs.LocalRun.{LocalRunView, lane_at, AreWorkersAt, IsLaneSent, IsDispatched}
use Rattle.rsspp_run.specs.DispatcherOf.{IsDispatcherOf, outs_of, IsSending}
use Rattle.rsspp_run.proofs.Lanes.{IsPut, puts_at, sent_nothing}
use Rattle.rsspp_run.proofs.Dispatchers.{dispatcher_send, dispatcher_end}
use Rattle.rsspp_run.proofs.DispatcherEvents.{stepped, event_stays}

pub both_true : (a b : Bool) → a ≡ true → b ≡ true → (a && b) ≡ true
both_true true b p q = q
both_true false b p q = absurd (cc)

store_or : Option Store → Store
store_or None = store 0 0
store_or (Some s) = s

-- one item goes to one core
module _ {S : Type 0} (m : MachineView) (e : Event) (f f' : LocalRunView (TableOf S)) (k : ℕ) (y : Seen) (posts : posts_by m e ≡ record { core = k; item = plain y } ∷ []) (key : f'.key ≡ f.key)
    (near : k < length f.lanes) (put : IsPut y (new_lane f.key 0 0) k f.lanes f'.lanes) where
  lane_then : (c : ℕ) → lane_at f' c ≡ get_or f'.lanes c (new_lane f.key 0 0)
  lane_then c = λ i. get_or f'.lanes c (new_lane (key i) 0 0)

  pub one_sent : (c : ℕ) → IsLaneSent (stream c (posts_by m e)) (lane_at f c) (lane_at f' c)
  one_sent c =
      subst (λ (z : List Post × LocalState). IsLaneSent (stream c z.0) (lane_at f c) z.1) (λ i. (sym posts i, sym (lane_then c) i))
      (by_test k c (λ t. IsLaneSent ((if t then plain y ∷ [] else []) ++ []) (lane_at f c) (get_or f'.lanes c (new_lane f.key 0 0)))
      (λ same. subst (λ d. IsLaneSent (plain y ∷ []) (lane_at f d) (get_or f'.lanes d (new_lane f.key 0 0))) same (put.here near))
      (λ ne. sent_nothing (lane_at f c) (get_or f'.lanes c (new_lane f.key 0 0)) (put.others c (λ q. ne (sym q)))))

-- a cell was taken from the pool
pub cell_taken : (f_cells f_room f_cells' f_room' : ℕ) → Some (store f_cells' f_room') ≡ Some (store (f_cells - 1) f_room) → (f_cells' ≡ f_cells - 1) × (f_room' ≡ f_room)
unfolding store_or
cell_taken a b c d e = let q : store c d ≡ store (a - 1) b = ap store_or e in (ap (λ (s : Store). s.cells) q, ap (λ (s : Store). s.room) q)

pub same_claims : {T : Type 0} (v v' : LocalView T) → v' ≡ v → SameClaims v.history v'.history
same_claims v v' e = record { held = ap (λ (z : LocalView _). z.history.held) e; key = ap (λ (z : LocalView _). z.history.key) e; buckets = ap (λ (z : LocalView _). z.history.buckets) e }

pub same_noted : (c : ℕ) (l l' : MeterState) → l' ≡ l → SameNoted c l.history l'.history
same_noted c l l' e = record { cores = ap (λ (z : MeterState). z.history.cores) e; noted = ap (λ (z : MeterState). noted_at c z.history) e }

module _ {S : Type 0} (x : Workload S) (r : RunState) (d d' : DispatcherState) (f f' : LocalRunView (TableOf S)) (are : AreWorkersAt x r f) (dispatcher : IsDispatcherOf r.machine d) (sending : IsSending f f') where
  -- a cell for the item is taken from the pool, and the item goes to core k
  pub cell_sent : (e : Event) (k : ℕ) (y : Seen) → posts_by r.machine e ≡ record { core = k; item = plain y } ∷ [] → k < length r.machine.cores → (step r.machine e).free ≡ r.machine.free - 1
      → Pushes k y (map Rattle.rsspp_run.specs.LocalRun.history_of f.lanes) (map Rattle.rsspp_run.specs.LocalRun.now_of f.lanes) (map Rattle.rsspp_run.specs.LocalRun.history_of f'.lanes) (map Rattle.rsspp_run.specs.LocalRun.now_of f'.lanes)
      → Some (store f'.pool.cells f'.pool.room) ≡ Some (store (f.pool.cells - 1) f.pool.room) → IsDispatched r.machine e f f'
  cell_sent e k y posts near free pushes pool =
      let put = puts_at y (new_lane f.key 0 0) k f.lanes f'.lanes pushes.0 pushes.1 in let wide = are.lanes in let p = cell_taken _ _ _ _ pool in
      record {
        key = sending.key;
        workers = sending.workers;
        wide = put.wide;
        lanes = λ c lt. one_sent r.machine e f f' k y posts sending.key (omega arith) put c;
        claims = same_claims f.shelf f'.shelf sending.shelf;
        words = ap (λ (v : LocalView _). v.words) sending.shelf;
        homes = ap (λ (v : LocalView _). v.homes) sending.shelf;
        loads = ap (λ (l : MeterState). l.loads) sending.meter;
        noted = λ c. same_noted c f.meter f'.meter sending.meter;
        free = p.0 ∙ (ap (λ n. n - 1) are.free ∙ sym free);
        room = p.1;
      }

  -- rule 3: a packet is a Send
  pub packet_sent : (info : PacketInfo) → IsSent info d d' (outs_of f) (outs_of f') → r.machine.sent < length r.machine.packets → slice_index r.machine.packets r.machine.sent ≡ bucket_for d info
      → bucket_for d info < length r.machine.buckets → owner_for d info < length r.machine.cores → AreWorkersAt x (stepped r Send) f' × IsDispatcherOf (step r.machine Send) d'
  packet_sent info sends left is near owned =
      let b = bucket_for d info in
      let cell = subst (λ (t : Bool). GetsCell t (outs_of f).pool (outs_of f).pool_now (outs_of f').pool (outs_of f').pool_now) dispatcher.spare sends.sends.cell in
      let some = cell.1 in let free = are.free in
      let posts : posts_by r.machine Send ≡ record { core = owner_for d info; item = plain (Packet (cell_of d info)) } ∷ [] =
      (λ i. record { core = (bucket_at r.machine (is i)).owner; item = Of (kind_at (bucket_at r.machine (is i)).start (sent_of r.machine (is i))) (is i) (sent_of r.machine (is i)) } ∷ [])
      ∙ (λ i. record { core = dispatcher.owners b near i; item = Of (kind_at (dispatcher.starts b near i) (dispatcher.counts b near i)) b (dispatcher.counts b near i) } ∷ []) in
      let may : enabled r.machine Send ≡ true = both_true (ltb r.machine.sent (length r.machine.packets)) (ltb 0 r.machine.free) (lt-ltb _ _ left) (lt-ltb 0 r.machine.free (omega arith)) in
      let did = cell_sent Send (owner_for d info) (Packet (cell_of d info)) posts owned refl sends.sends.pushes cell.2 in
      (event_stays x r Send f f' are (λ w. w) may did, subst (IsDispatcherOf (step r.machine Send)) (sym sends.dispatcher) (dispatcher_send r.machine d dispatcher info left is near))

  -- rule 4: an End is a SendEnd
  pub end_sent : IsEndSent d d' (outs_of f).lanes (outs_of f).lanes_now (outs_of f').lanes (outs_of f').lanes_now → f'.pool ≡ f.pool → r.machine.sent ≡ length r.machine.packets
      → AreWorkersAt x (stepped r (SendEnd d.ends)) f' × IsDispatcherOf (step r.machine (SendEnd d.ends)) d'
  end_sent sends pool all =
      let few = sends.few in let c = dispatcher.cores in let wide = are.lanes in
      let near : d.ends < length r.machine.cores = omega arith in
      let put = puts_at Close (new_lane f.key 0 0) d.ends f.lanes f'.lanes sends.pushes.0 sends.pushes.1 in
      let may : enabled r.machine (SendEnd d.ends) ≡ true = both_true _ _ (lt-ltb _ _ near) (both_true _ _ (eq-eqb r.machine.sent (length r.machine.packets) all) (ap not (dispatcher.ends d.ends near ∙ none_below d.ends))) in
      let did : IsDispatched r.machine (SendEnd d.ends) f f' = record {
        key = sending.key;
        workers = sending.workers;
        wide = put.wide;
        lanes = λ c lt. one_sent r.machine (SendEnd d.ends) f f' d.ends Close refl sending.key (omega arith) put c;
        claims = same_claims f.shelf f'.shelf sending.shelf;
        words = ap (λ (v : LocalView _). v.words) sending.shelf;
        homes = ap (λ (v : LocalView _). v.homes) sending.shelf;
        loads = ap (λ (l : MeterState). l.loads) sending.meter;
        noted = λ c. same_noted c f.meter f'.meter sending.meter;
        free = ap (λ (p : Rattle.packet_pool.specs.LocalPool.PoolState). p.cells) pool ∙ are.free;
        room = ap (λ (p : Rattle.packet_pool.specs.LocalPool.PoolState). p.room) pool;
      } in
      (event_stays x r (SendEnd d.ends) f f' are (λ w. w) may did, subst (IsDispatcherOf (step r.machine (SendEnd d.ends))) (sym sends.dispatcher) (dispatcher_end r.machine d dispatcher)) where
        none_below : (n : ℕ) → ltb n n ≡ false
        none_below n = Rattle.std.proofs.lemmas.Bool.le-ltb n n (omega arith)
