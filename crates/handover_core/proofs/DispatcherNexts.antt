-- A machine in memory after an event of the dispatcher.
use Rattle.std.proofs.Common.{◌≡◌, ℕ, ◌+◌, ◌-◌, ◌^◌, ◌<◌, List, [], ◌∷◌, ◌++◌, length, map, get_or, set, Bool, true, false, sym, ap, ◌∙◌, subst, ⊎_elim, arith}
use Rattle.std.proofs.lemmas.Bool.{cases_eq}
use Rattle.std.proofs.lemmas.List.{length-map, length-set, get_or-set_same, get_or-set_other, get_or_default}
use Rattle.std.specs.Prelude.{slice_index, slice_index_or, vec_capacity, vec_len}
use Rattle.handover_core.specs.declared.item.Kind.{Kind}
use Rattle.handover_core.specs.declared.item.Kind.TheVariants.{Mark}
use Rattle.handover_core.specs.declared.item.Item.{Item}
use Rattle.handover_core.specs.declared.item.Item.TheVariants.{Of, End}
use Rattle.handover_core.specs.declared.event.Event.TheVariants.{Send, Move, SendEnd}
use Rattle.handover_core.specs.declared.bucket_state.BucketState.{BucketState}
use Rattle.handover_core.specs.declared.machine.Machine.TheInside.{Inside}
use Rattle.handover_core.specs.Dispatch.{kind_at}
use Rattle.handover_core.specs.State.{CoreState, MachineView, blank_core, blank_bucket, bucket_at, sent_of, set_bucket}
use Rattle.handover_core.specs.Machine.{enabled, end_sent_to, step}
use Rattle.handover_core.specs.Cores.{core_state, HaveRoom}
use Rattle.handover_core.specs.Inside.{state_of, IsMachine}
use Rattle.std.specs.VecDeque.{deque_len, deque_capacity}
use Rattle.handover_core.specs.declared.worker_core.WorkerCore.{WorkerCore}
use Rattle.handover_core.proofs.Streamed.{sent_of-le}
use Rattle.handover_core.proofs.Machines.{core-at}
use Rattle.handover_core.proofs.Rooms.{open-queue, not-sent-to}
use Rattle.handover_core.proofs.Enabled.{IsEnabled, is_enabled}
use Rattle.handover_core.proofs.EndsLeft.{ends_left, ends-end, end_to-item, end_to-here, end_to-other}
use Rattle.handover_core.proofs.Frames.{end_sent-item, end_sent-end}
use Rattle.handover_core.proofs.MachineDispatchers.{sent-here, sent-other}
use Rattle.handover_core.proofs.Steps.{no_end}
use Rattle.handover_core.proofs.Nexts.{same-state, IsNext, IsQuiet, quiet-next}

-- an item went to a core, and nothing else that these fields tell changed
pub record IsSent (i n : Inside) (core : ℕ) (item : Item) : Type 0 where
  pub packets : n.packets ≡ i.packets
  pub pool : n.pool ≡ i.pool
  pub first_moves : n.first_moves ≡ i.first_moves
  pub claims : n.claims ≡ i.claims
  pub releases : n.releases ≡ i.releases
  pub dispatched : n.dispatched.items ≡ i.dispatched.items ++ record { core = core; item = item } ∷ []
  pub room : vec_capacity n.dispatched ≡ vec_capacity i.dispatched
  pub cores : map core_state n.cores.items ≡ set (map core_state i.cores.items) core (record (get_or (map core_state i.cores.items) core blank_core) { queue = (get_or (map core_state i.cores.items) core blank_core).queue ++ item ∷ [] })
  pub rooms : (q t : ℕ) → HaveRoom q t i.cores.items → HaveRoom q t n.cores.items

cores-length : (i n : Inside) (core : ℕ) (item : Item) → IsSent i n core item → length n.cores.items ≡ length i.cores.items
cores-length i n core item x =
    sym (length-map n.cores.items core_state)
    ∙ (ap (λ (z : List CoreState). length z) x.cores
    ∙ (length-set (map core_state i.cores.items) core (record (get_or (map core_state i.cores.items) core blank_core) { queue = (get_or (map core_state i.cores.items) core blank_core).queue ++ item ∷ [] })
    ∙ length-map i.cores.items core_state))

pub send-next : (i n : Inside) → IsMachine i → enabled (state_of i) Send ≡ true
    → IsSent i n (bucket_at (state_of i) (slice_index i.packets.items i.sent)).owner
    (Of (kind_at (bucket_at (state_of i) (slice_index i.packets.items i.sent)).start (sent_of (state_of i) (slice_index i.packets.items i.sent))) (slice_index i.packets.items i.sent) (sent_of (state_of i) (slice_index i.packets.items i.sent)))
    → n.sent ≡ i.sent + 1 → n.free ≡ i.free - 1 → n.moves ≡ i.moves → n.buckets ≡ i.buckets → n.sent_of.items ≡ set i.sent_of.items (slice_index i.packets.items i.sent) (sent_of (state_of i) (slice_index i.packets.items i.sent) + 1)
    → n.ending ≡ i.ending → n.ends ≡ i.ends → IsNext i n (step (state_of i) Send)
send-next i n m h x sent free moves buckets counts ending ends = record {
  state = same-state (state_of n) (step v Send) (ap (λ v. v.items) x.packets) x.pool x.first_moves sent moves free x.claims x.releases x.dispatched (ap (λ v. v.items) buckets) x.cores;
  packets = ap (λ v. length v.items) x.packets;
  pool = x.pool;
  first_moves = x.first_moves;
  counts = λ b l. ap (λ (z : List ℕ). slice_index z b) counts ∙ ⊎_elim
      (λ (e : q ≡ b). subst (λ (b : ℕ). slice_index (set i.sent_of.items q (sent_of v q + 1)) b ≡ sent_of (step v Send) b) e
      (get_or-set_same i.sent_of.items q (sent_of v q + 1) 0 (let c = m.counted in let p = m.sound.shaped.packets i.sent f.0 in omega arith) ∙ sym (sent-here v f.0)))
      (λ (ne : q ≡ b → ⊥). get_or-set_other i.sent_of.items q b (sent_of v q + 1) 0 (λ e. ne (sym e)) ∙ (m.counts b l ∙ sym (sent-other v b f.0 ne)))
      (cases_eq q b);
  counted = ap (λ (z : List ℕ). length z) counts ∙ length-set i.sent_of.items q (sent_of v q + 1);
  ending = ending ∙ (m.ending ∙ sym (end_sent-item v.dispatched o (kind_at s k) q k));
  ends = λ c l. ap (λ v. slice_index_or v.items c false) ends ∙ (m.ends c l ∙ sym (end_to-item v.dispatched o (kind_at s k) q k c));
  ended = ap (λ v. length v.items) ends;
  moves = omega arith;
  room = x.room;
  rooms = x.rooms;
  cores = cores-length i n o (Of (kind_at s k) q k) x;
  buckets = ap (λ v. length v.items) buckets;
} where
  v : MachineView
  v = state_of i

  q : ℕ
  q = slice_index i.packets.items i.sent

  o : ℕ
  o = (bucket_at v q).owner

  s : ℕ
  s = (bucket_at v q).start

  k : ℕ
  k = sent_of v q

  f : IsEnabled v Send
  f = is_enabled v Send h

pub move-next : (i n : Inside) (b to : ℕ) → IsMachine i → enabled (state_of i) (Move b to) ≡ true
    → IsSent i n (bucket_at (state_of i) b).owner (Of Mark b (sent_of (state_of i) b))
    → n.sent ≡ i.sent → n.free ≡ i.free - 1 → n.moves ≡ i.moves - 1 → n.buckets.items ≡ set i.buckets.items b (record (bucket_at (state_of i) b) { owner = to; start = sent_of (state_of i) b }) → n.sent_of ≡ i.sent_of
    → n.ending ≡ i.ending → n.ends ≡ i.ends → IsNext i n (step (state_of i) (Move b to))
move-next i n b to m h x sent free moves buckets counts ending ends = record {
  state = same-state (state_of n) (step v (Move b to)) (ap (λ v. v.items) x.packets) x.pool x.first_moves sent moves free x.claims x.releases x.dispatched buckets x.cores;
  packets = ap (λ v. length v.items) x.packets;
  pool = x.pool;
  first_moves = x.first_moves;
  counts = λ k l. ap (λ v. slice_index v.items k) counts ∙ m.counts k l;
  counted = ap (λ v. length v.items) counts;
  ending = ending ∙ (m.ending ∙ sym (end_sent-item v.dispatched (bucket_at v b).owner Mark b (sent_of v b)));
  ends = λ c l. ap (λ v. slice_index_or v.items c false) ends ∙ (m.ends c l ∙ sym (end_to-item v.dispatched (bucket_at v b).owner Mark b (sent_of v b) c));
  ended = ap (λ v. length v.items) ends;
  moves = omega arith;
  room = x.room;
  rooms = x.rooms;
  cores = cores-length i n (bucket_at v b).owner (Of Mark b (sent_of v b)) x;
  buckets = ap (λ (z : List BucketState). length z) buckets ∙ length-set i.buckets.items b (record (bucket_at v b) { owner = to; start = sent_of v b });
} where
  v : MachineView
  v = state_of i

pub send_end-next : (i n : Inside) (c : ℕ) → IsMachine i → enabled (state_of i) (SendEnd c) ≡ true → IsSent i n c End
    → n.sent ≡ i.sent → n.free ≡ i.free → n.moves ≡ i.moves → n.buckets ≡ i.buckets → n.sent_of ≡ i.sent_of → n.ending ≡ true → n.ends.items ≡ set i.ends.items c true → IsNext i n (step (state_of i) (SendEnd c))
send_end-next i n c m h x sent free moves buckets counts ending ends = record {
  state = same-state (state_of n) (step v (SendEnd c)) (ap (λ v. v.items) x.packets) x.pool x.first_moves sent moves free x.claims x.releases x.dispatched (ap (λ v. v.items) buckets) x.cores;
  packets = ap (λ v. length v.items) x.packets;
  pool = x.pool;
  first_moves = x.first_moves;
  counts = λ b l. ap (λ v. slice_index v.items b) counts ∙ m.counts b l;
  counted = ap (λ v. length v.items) counts;
  ending = ending ∙ sym (end_sent-end v.dispatched c);
  ends = λ d l. ap (λ (z : List Bool). slice_index_or z d false) ends ∙ ⊎_elim
      (λ (e : c ≡ d). subst (λ (d : ℕ). slice_index_or (set i.ends.items c true) d false ≡ end_sent_to (step v (SendEnd c)) d) e
      (get_or-set_same i.ends.items c true false (let g = m.ended in let z = length-map i.cores.items core_state in let y = f.0 in omega arith) ∙ sym (end_to-here v.dispatched c)))
      (λ (ne : c ≡ d → ⊥). get_or-set_other i.ends.items c d true false (λ e. ne (sym e)) ∙ (m.ends d l ∙ sym (end_to-other v.dispatched c d ne)))
      (cases_eq c d);
  ended = ap (λ (z : List Bool). length z) ends ∙ length-set i.ends.items c true;
  moves = omega arith;
  room = x.room;
  rooms = x.rooms;
  cores = cores-length i n c End x;
  buckets = ap (λ v. length v.items) buckets;
} where
  v : MachineView
  v = state_of i

  f : IsEnabled v (SendEnd c)
  f = is_enabled v (SendEnd c) h

-- what was read of a list, at any default
pub read-of : {A : Type 0} (xs : List A) (i : ℕ) (x d : A) → i < length xs → x ≡ get_or xs i x → x ≡ get_or xs i d
read-of xs i x d l e = e ∙ get_or_default xs i x d l

-- what Send reads
pub record IsRead (i : Inside) (q k : ℕ) (st : BucketState) : Type 0 where
  pub bucket : q ≡ slice_index i.packets.items i.sent
  pub entry : st ≡ bucket_at (state_of i) q
  pub count : k ≡ sent_of (state_of i) q
  pub small : q < length i.buckets.items
  pub owner : st.owner < length i.cores.items
  pub fits : k + 1 < 2 ^ 32

pub send-reads : (i : Inside) (q k : ℕ) (st : BucketState) → IsMachine i → enabled (state_of i) Send ≡ true → q ≡ get_or i.packets.items i.sent q → st ≡ get_or i.buckets.items q st → k ≡ get_or i.sent_of.items q k → IsRead i q k st
send-reads i q k st m h a b c =
    let f = is_enabled (state_of i) Send h in
    let e : q ≡ slice_index i.packets.items i.sent = read-of i.packets.items i.sent q 0 f.0 a in
    let l : q < length i.buckets.items = (let p = m.sound.shaped.packets i.sent f.0 in omega arith) in
    let s : st ≡ bucket_at (state_of i) q = read-of i.buckets.items q st blank_bucket l b in
    let n : k ≡ sent_of (state_of i) q = read-of i.sent_of.items q k 0 (let g = m.counted in omega arith) c ∙ m.counts q l in
    let w = length-map i.cores.items core_state in
    record {
      bucket = e;
      entry = s;
      count = n;
      small = l;
      owner = let o = m.sound.shaped.owners q l in let x = ap (λ (y : BucketState). y.owner) s in omega arith;
      fits = let x = sent_of-le (state_of i) q m.sound.shaped.sent in let y = m.sound.shaped.few in let z = f.0 in omega arith;
    }

pub send-done : (i n : Inside) (q k : ℕ) (st : BucketState) (kind : Kind) → IsMachine i → enabled (state_of i) Send ≡ true → IsRead i q k st → kind ≡ kind_at st.start k → IsSent i n st.owner (Of kind q k)
    → n.sent ≡ i.sent + 1 → n.free ≡ i.free - 1 → n.moves ≡ i.moves → n.buckets ≡ i.buckets → n.sent_of.items ≡ set i.sent_of.items q (k + 1) → n.ending ≡ i.ending → n.ends ≡ i.ends → IsNext i n (step (state_of i) Send)
send-done i n q k st kind m h r e x sent free moves buckets counts ending ends =
    let v : MachineView = state_of i in
    let p : ℕ = slice_index i.packets.items i.sent in
    let s : st ≡ bucket_at v p = r.entry ∙ ap (bucket_at v) r.bucket in
    let c : k ≡ sent_of v p = r.count ∙ ap (sent_of v) r.bucket in
    let o : st.owner ≡ (bucket_at v p).owner = ap (λ (y : BucketState). y.owner) s in
    let d : kind ≡ kind_at (bucket_at v p).start (sent_of v p) = e ∙ (ap (λ (y : BucketState). kind_at y.start k) s ∙ ap (kind_at (bucket_at v p).start) c) in
    let t : Of kind q k ≡ Of (kind_at (bucket_at v p).start (sent_of v p)) p (sent_of v p) = ap (λ (z : Kind). Of z q k) d ∙ (ap (λ (z : ℕ). Of (kind_at (bucket_at v p).start (sent_of v p)) z k) r.bucket ∙ ap (Of (kind_at (bucket_at v p).start (sent_of v p)) p) c) in
    send-next i n m h (subst (IsSent i n (bucket_at v p).owner) t (subst (λ (z : ℕ). IsSent i n z (Of kind q k)) o x)) sent free moves buckets
    (counts ∙ (ap (λ (z : ℕ). set i.sent_of.items z (k + 1)) r.bucket ∙ ap (λ (z : ℕ). set i.sent_of.items p (z + 1)) c)) ending ends

-- there is room for what is sent
pub queue-room : (i : Inside) (o : ℕ) (d : WorkerCore) → IsMachine i → o < length i.cores.items → end_sent_to (state_of i) o ≡ false → deque_len (get_or i.cores.items o d).queue < deque_capacity (get_or i.cores.items o d).queue
queue-room i o d m l e =
    let n = length-map i.cores.items core_state in
    let q = open-queue (state_of i) o m.sound (omega arith) e in
    let c = ap (λ (s : CoreState). length s.queue) (core-at i.cores.items o d l) in
    let r = (m.rooms o d l).queue in
    let k = (get_or i.cores.items o d).queue.ok in omega arith

pub list-room : (i : Inside) → IsMachine i → 0 < (length i.packets.items - i.sent) + i.moves + ends_left (state_of i) → vec_len i.dispatched < vec_capacity i.dispatched
unfolding ends_left
list-room i m l = let p = m.sound.posts in let r = m.room in let k = i.dispatched.ok in let n = length-map i.cores.items core_state in omega arith

pub send-queued : (i : Inside) (o : ℕ) (d : WorkerCore) → IsMachine i → enabled (state_of i) Send ≡ true → o < length i.cores.items → deque_len (get_or i.cores.items o d).queue < deque_capacity (get_or i.cores.items o d).queue
send-queued i o d m h l = queue-room i o d m l (not-sent-to i.dispatched.items o (no_end (state_of i) m.sound (is_enabled (state_of i) Send h)))

-- what Move reads
pub record IsEntry (i : Inside) (b k : ℕ) (st : BucketState) : Type 0 where
  pub entry : st ≡ bucket_at (state_of i) b
  pub count : k ≡ sent_of (state_of i) b
  pub owner : st.owner < length i.cores.items

pub entry-reads : (i : Inside) (b k : ℕ) (st : BucketState) → IsMachine i → b < length i.buckets.items → st ≡ get_or i.buckets.items b st → k ≡ get_or i.sent_of.items b k → IsEntry i b k st
entry-reads i b k st m l e c =
    let s : st ≡ bucket_at (state_of i) b = read-of i.buckets.items b st blank_bucket l e in
    let w = length-map i.cores.items core_state in
    record {
      entry = s;
      count = read-of i.sent_of.items b k 0 (let g = m.counted in omega arith) c ∙ m.counts b l;
      owner = let o = m.sound.shaped.owners b l in let x = ap (λ (y : BucketState). y.owner) s in omega arith;
    }

pub move-done : (i n : Inside) (b to k : ℕ) (st su : BucketState) → IsMachine i → enabled (state_of i) (Move b to) ≡ true → IsEntry i b k st → su ≡ get_or i.buckets.items b su → IsSent i n st.owner (Of Mark b k)
    → n.sent ≡ i.sent → n.free ≡ i.free - 1 → n.moves ≡ i.moves - 1 → n.buckets.items ≡ set i.buckets.items b (record su { owner = to; start = k }) → n.sent_of ≡ i.sent_of → n.ending ≡ i.ending → n.ends ≡ i.ends → IsNext i n (step (state_of i) (Move b to))
move-done i n b to k st su m h r e x sent free moves buckets counts ending ends =
    let v : MachineView = state_of i in
    let f = is_enabled v (Move b to) h in
    let s : su ≡ bucket_at v b = read-of i.buckets.items b su blank_bucket f.0 e in
    let o : st.owner ≡ (bucket_at v b).owner = ap (λ (y : BucketState). y.owner) r.entry in
    let t : Of Mark b k ≡ Of Mark b (sent_of v b) = ap (Of Mark b) r.count in
    move-next i n b to m h (subst (IsSent i n (bucket_at v b).owner) t (subst (λ (z : ℕ). IsSent i n z (Of Mark b k)) o x)) sent free moves
    (buckets ∙ (ap (λ (y : BucketState). set i.buckets.items b (let z : BucketState = record y { owner = to; start = k } in z)) s ∙ ap (λ (z : ℕ). set i.buckets.items b (let y : BucketState = record (bucket_at v b) { owner = to; start = z } in y)) r.count))
    counts ending ends

pub move-queued : (i : Inside) (b to o : ℕ) (d : WorkerCore) → IsMachine i → enabled (state_of i) (Move b to) ≡ true → o < length i.cores.items → deque_len (get_or i.cores.items o d).queue < deque_capacity (get_or i.cores.items o d).queue
move-queued i b to o d m h l = queue-room i o d m l (not-sent-to i.dispatched.items o (is_enabled (state_of i) (Move b to) h).7)

-- an entry of the table changes, and nothing else
pub entry-done : (i n : Inside) (b : ℕ) (st : BucketState) (f : BucketState → BucketState) (w : MachineView) → IsMachine i → b < length i.buckets.items → st ≡ get_or i.buckets.items b st → w ≡ set_bucket (state_of i) b (f (bucket_at (state_of i) b)) → IsQuiet i n
    → n.free ≡ i.free → n.claims ≡ i.claims → n.releases ≡ i.releases → n.cores ≡ i.cores → n.buckets.items ≡ set i.buckets.items b (f st) → IsNext i n w
entry-done i n b st f w m l e is x free claims releases cores buckets =
    let v : MachineView = state_of i in
    let s : st ≡ bucket_at v b = read-of i.buckets.items b st blank_bucket l e in
    let t : state_of n ≡ set_bucket v b (f (bucket_at v b)) = same-state (state_of n) (set_bucket v b (f (bucket_at v b))) (ap (λ v. v.items) x.packets) x.pool x.first_moves x.sent x.moves free claims releases (ap (λ v. v.items) x.dispatched)
    (buckets ∙ ap (λ (y : BucketState). set i.buckets.items b (f y)) s) (ap (λ v. map core_state v.items) cores) in
    quiet-next i n w m x (ap (λ (w : MachineView). w.packets) is) (ap (λ (w : MachineView). w.sent) is) (ap (λ (w : MachineView). w.dispatched) is) (t ∙ sym is)
    (λ q t h. subst (λ v. HaveRoom q t v.items) (sym cores) h) (ap (λ v. length v.items) cores) (ap (λ (z : List BucketState). length z) buckets ∙ length-set i.buckets.items b (f st))

pub end-listed : (i : Inside) (c : ℕ) → IsMachine i → enabled (state_of i) (SendEnd c) ≡ true → vec_len i.dispatched < vec_capacity i.dispatched
end-listed i c m h =
    let f = is_enabled (state_of i) (SendEnd c) h in
    let e = ends-end (state_of i) c f.0 f.2 in
    list-room i m (omega arith)

pub end-queued : (i : Inside) (c : ℕ) (d : WorkerCore) → IsMachine i → enabled (state_of i) (SendEnd c) ≡ true → deque_len (get_or i.cores.items c d).queue < deque_capacity (get_or i.cores.items c d).queue
end-queued i c d m h = let f = is_enabled (state_of i) (SendEnd c) h in queue-room i c d m (let n = length-map i.cores.items core_state in let l = f.0 in omega arith) f.2
