-- What each event makes of one bucket of the whole state.
use Rattle.std.proofs.Common.{◌≡◌, ◌≢◌, ℕ, ◌+◌, ◌-◌, ◌<◌, List, [], ◌∷◌, ◌++◌, length, refl, sym, ap, ◌∙◌}
use Rattle.std.proofs.lemmas.List.{get_or-set_same, get_or-set_other}
use Rattle.std.specs.Prelude.{slice_index}
use Rattle.indirection.specs.Stints.{Joins}
use Rattle.handover_core.specs.declared.item.Kind.{Kind}
use Rattle.handover_core.specs.declared.item.Kind.TheVariants.{Mark}
use Rattle.handover_core.specs.declared.item.Item.{Item}
use Rattle.handover_core.specs.declared.item.Item.TheVariants.{Of, End}
use Rattle.handover_core.specs.declared.event.Event.TheVariants.{Send}
use Rattle.handover_core.specs.Dispatch.{kind_at}
use Rattle.handover_core.specs.State.{CoreState, MachineView, blank_bucket, bucket_at, core_at, hand_at, hand_in, sent_of, set_bucket}
use Rattle.handover_core.specs.declared.bucket_state.BucketState.{BucketState}
use Rattle.handover_core.specs.Machine.{has_end, step, post}
use Rattle.handover_core.specs.Bucket.{Piece, piece}
use Rattle.handover_core.proofs.Turns.{upd, after_send, after_move, after_place}
use Rattle.handover_core.specs.Sound.{pieces, ended_stints, bucket_snapshot}
use Rattle.handover_core.proofs.Frames.{part-set, part-same, pieces-push_here, pieces-push_other, pieces-push_end}
use Rattle.handover_core.proofs.StintLists.{stints-packet, stints-end, stints-mark, stints-mark_other}
use Rattle.handover_core.proofs.MachineDispatchers.{sent-here, sent-other}
use Rattle.handover_core.proofs.Buckets.{IsSame}

-- one more item on a core's queue

queued : (m : MachineView) (o : ℕ) (x : Item) → CoreState
queued m o x = record (core_at m o) { queue = (core_at m o).queue ++ x ∷ [] }

posting : (m : MachineView) (o : ℕ) (x : Item) → MachineView
posting m o x = record m { dispatched = m.dispatched ++ record { core = o; item = x } ∷ [] }

post-hand : (m : MachineView) (o : ℕ) (x : Item) (b c : ℕ) → o < length m.cores → hand_at (post m o x) c b ≡ hand_at m c b
unfolding queued posting
post-hand m o x b c l = part-same (λ (s : CoreState). hand_in s b) (posting m o x) o (queued m o x) c l refl

post-ended : (m : MachineView) (o : ℕ) (x : Item) (c : ℕ) → o < length m.cores → has_end (core_at (post m o x) c).taken ≡ has_end (core_at m c).taken
unfolding queued posting
post-ended m o x c l = part-same (λ (s : CoreState). has_end s.taken) (posting m o x) o (queued m o x) c l refl

post-here : (m : MachineView) (o b place : ℕ) (kind : Kind) (c : ℕ) → o < length m.cores
    → pieces b (core_at (post m o (Of kind b place)) c).queue ≡ upd (λ d. pieces b (core_at m d).queue) o (pieces b (core_at m o).queue ++ piece kind place ∷ []) c
unfolding queued posting
post-here m o b place kind c l =
    part-set (λ (s : CoreState). pieces b s.queue) (posting m o (Of kind b place)) o (queued m o (Of kind b place)) c l
    ∙ ap (λ (z : List Piece). upd (λ d. pieces b (core_at m d).queue) o z c) (pieces-push_here b (core_at m o).queue kind place)

post-other : (m : MachineView) (o b q place : ℕ) (kind : Kind) (c : ℕ) → o < length m.cores → q ≢ b → pieces b (core_at (post m o (Of kind q place)) c).queue ≡ pieces b (core_at m c).queue
unfolding queued posting
post-other m o b q place kind c l ne = part-same (λ (s : CoreState). pieces b s.queue) (posting m o (Of kind q place)) o (queued m o (Of kind q place)) c l (pieces-push_other b q (core_at m o).queue kind place ne)

post-end : (m : MachineView) (o b c : ℕ) → o < length m.cores → pieces b (core_at (post m o End) c).queue ≡ pieces b (core_at m c).queue
unfolding queued posting
post-end m o b c l = part-same (λ (s : CoreState). pieces b s.queue) (posting m o End) o (queued m o End) c l (pieces-push_end b (core_at m o).queue)

-- Send

pub send-here : (m : MachineView) → m.sent < length m.packets → (bucket_at m (slice_index m.packets m.sent)).owner < length m.cores → IsSame (after_send (bucket_snapshot m (slice_index m.packets m.sent))) (bucket_snapshot (step m Send) (slice_index m.packets m.sent))
send-here m h l = record {
  owner = refl;
  start = refl;
  word = refl;
  shelf = refl;
  sent = sent-here m h;
  stints = stints-packet q m.dispatched o s k q k;
  hand = λ c. post-hand m1 o item q c l;
  queue = λ c. post-here m1 o q k (kind_at s k) c l;
  ended = λ c. post-ended m1 o item c l;
} where
  q : ℕ
  q = slice_index m.packets m.sent

  o : ℕ
  o = (bucket_at m q).owner

  s : ℕ
  s = (bucket_at m q).start

  k : ℕ
  k = sent_of m q

  item : Item
  item = Of (kind_at s k) q k

  m1 : MachineView
  m1 = record m { sent = m.sent + 1; free = m.free - 1 }

pub send-other : (m : MachineView) (b : ℕ) → m.sent < length m.packets → (bucket_at m (slice_index m.packets m.sent)).owner < length m.cores → slice_index m.packets m.sent ≢ b → IsSame (bucket_snapshot m b) (bucket_snapshot (step m Send) b)
send-other m b h l ne = record {
  owner = refl;
  start = refl;
  word = refl;
  shelf = refl;
  sent = sent-other m b h ne;
  stints = stints-packet b m.dispatched o s k q k;
  hand = λ c. post-hand m1 o item b c l;
  queue = λ c. post-other m1 o b q k (kind_at s k) c l ne;
  ended = λ c. post-ended m1 o item c l;
} where
  q : ℕ
  q = slice_index m.packets m.sent

  o : ℕ
  o = (bucket_at m q).owner

  s : ℕ
  s = (bucket_at m q).start

  k : ℕ
  k = sent_of m q

  item : Item
  item = Of (kind_at s k) q k

  m1 : MachineView
  m1 = record m { sent = m.sent + 1; free = m.free - 1 }

-- SendEnd

pub send_end-same : (m : MachineView) (o b : ℕ) → o < length m.cores → IsSame (bucket_snapshot m b) (bucket_snapshot (post m o End) b)
send_end-same m o b l = record {
  owner = refl;
  start = refl;
  word = refl;
  shelf = refl;
  sent = refl;
  stints = stints-end b m.dispatched o;
  hand = λ c. post-hand m o End b c l;
  queue = λ c. post-end m o b c l;
  ended = λ c. post-ended m o End c l;
}

-- a bucket's entry is set

pub bucket-here : (m : MachineView) (b : ℕ) (s : BucketState) → b < length m.buckets → bucket_at (set_bucket m b s) b ≡ s
bucket-here m b s l = get_or-set_same m.buckets b s blank_bucket l

pub bucket-other : (m : MachineView) (b : ℕ) (s : BucketState) (k : ℕ) → b ≢ k → bucket_at (set_bucket m b s) k ≡ bucket_at m k
bucket-other m b s k ne = get_or-set_other m.buckets b k s blank_bucket (λ e. ne (sym e))

pub entry-other : (m : MachineView) (b : ℕ) (s : BucketState) (k : ℕ) → b ≢ k → IsSame (bucket_snapshot m k) (bucket_snapshot (set_bucket m b s) k)
entry-other m b s k ne = record {
  owner = ap (λ (x : BucketState). x.owner) e;
  start = ap (λ (x : BucketState). x.start) e;
  word = ap (λ (x : BucketState). x.word) e;
  shelf = ap (λ (x : BucketState). x.shelf) e;
  sent = refl;
  stints = refl;
  hand = λ c. refl;
  queue = λ c. refl;
  ended = λ c. refl;
} where
  e : bucket_at (set_bucket m b s) k ≡ bucket_at m k
  e = bucket-other m b s k ne

pub look-here : (m : MachineView) (b : ℕ) → b < length m.buckets → IsSame (bucket_snapshot m b) (bucket_snapshot (set_bucket m b (record (bucket_at m b) { seen = (bucket_at m b).word })) b)
look-here m b l = record {
  owner = ap (λ (x : BucketState). x.owner) e;
  start = ap (λ (x : BucketState). x.start) e;
  word = ap (λ (x : BucketState). x.word) e;
  shelf = ap (λ (x : BucketState). x.shelf) e;
  sent = refl;
  stints = refl;
  hand = λ c. refl;
  queue = λ c. refl;
  ended = λ c. refl;
} where
  e : bucket_at (set_bucket m b (record (bucket_at m b) { seen = (bucket_at m b).word })) b ≡ record (bucket_at m b) { seen = (bucket_at m b).word }
  e = bucket-here m b (record (bucket_at m b) { seen = (bucket_at m b).word }) l

pub place-here : (m : MachineView) (b to : ℕ) → b < length m.buckets → IsSame (after_place (bucket_snapshot m b) to) (bucket_snapshot (set_bucket m b (record (bucket_at m b) { owner = to })) b)
place-here m b to l = record {
  owner = ap (λ (x : BucketState). x.owner) e;
  start = ap (λ (x : BucketState). x.start) e;
  word = ap (λ (x : BucketState). x.word) e;
  shelf = ap (λ (x : BucketState). x.shelf) e;
  sent = refl;
  stints = refl;
  hand = λ c. refl;
  queue = λ c. refl;
  ended = λ c. refl;
} where
  e : bucket_at (set_bucket m b (record (bucket_at m b) { owner = to })) b ≡ record (bucket_at m b) { owner = to }
  e = bucket-here m b (record (bucket_at m b) { owner = to }) l

-- Move

pub move-here : (m : MachineView) (b to : ℕ) → b < length m.buckets → (bucket_at m b).owner < length m.cores → Joins 0 (ended_stints b 0 m.dispatched) (bucket_at m b).start
    → IsSame (after_move (bucket_snapshot m b) to) (bucket_snapshot (set_bucket (post (record m { free = m.free - 1; moves = m.moves - 1 }) (bucket_at m b).owner (Of Mark b (sent_of m b))) b (record (bucket_at m b) { owner = to; start = sent_of m b })) b)
move-here m b to l lo j = record {
  owner = ap (λ (x : BucketState). x.owner) e;
  start = ap (λ (x : BucketState). x.start) e;
  word = ap (λ (x : BucketState). x.word) e;
  shelf = ap (λ (x : BucketState). x.shelf) e;
  sent = refl;
  stints = stints-mark b m.dispatched (bucket_at m b).owner (sent_of m b) (bucket_at m b).start j;
  hand = λ c. post-hand m1 (bucket_at m b).owner (Of Mark b (sent_of m b)) b c lo;
  queue = λ c. post-here m1 (bucket_at m b).owner b (sent_of m b) Mark c lo;
  ended = λ c. post-ended m1 (bucket_at m b).owner (Of Mark b (sent_of m b)) c lo;
} where
  m1 : MachineView
  m1 = record m { free = m.free - 1; moves = m.moves - 1 }

  e : bucket_at (set_bucket (post m1 (bucket_at m b).owner (Of Mark b (sent_of m b))) b (record (bucket_at m b) { owner = to; start = sent_of m b })) b ≡ record (bucket_at m b) { owner = to; start = sent_of m b }
  e = bucket-here (post m1 (bucket_at m b).owner (Of Mark b (sent_of m b))) b (record (bucket_at m b) { owner = to; start = sent_of m b }) l

pub move-other : (m : MachineView) (b to k : ℕ) → (bucket_at m b).owner < length m.cores → b ≢ k
    → IsSame (bucket_snapshot m k) (bucket_snapshot (set_bucket (post (record m { free = m.free - 1; moves = m.moves - 1 }) (bucket_at m b).owner (Of Mark b (sent_of m b))) b (record (bucket_at m b) { owner = to; start = sent_of m b })) k)
move-other m b to k lo ne = record {
  owner = ap (λ (x : BucketState). x.owner) e;
  start = ap (λ (x : BucketState). x.start) e;
  word = ap (λ (x : BucketState). x.word) e;
  shelf = ap (λ (x : BucketState). x.shelf) e;
  sent = refl;
  stints = stints-mark_other k m.dispatched (bucket_at m b).owner b (sent_of m b) ne;
  hand = λ c. post-hand m1 (bucket_at m b).owner (Of Mark b (sent_of m b)) k c lo;
  queue = λ c. post-other m1 (bucket_at m b).owner k b (sent_of m b) Mark c lo ne;
  ended = λ c. post-ended m1 (bucket_at m b).owner (Of Mark b (sent_of m b)) c lo;
} where
  m1 : MachineView
  m1 = record m { free = m.free - 1; moves = m.moves - 1 }

  e : bucket_at (set_bucket (post m1 (bucket_at m b).owner (Of Mark b (sent_of m b))) b (record (bucket_at m b) { owner = to; start = sent_of m b })) k ≡ bucket_at m k
  e = bucket-other (post m1 (bucket_at m b).owner (Of Mark b (sent_of m b))) b (record (bucket_at m b) { owner = to; start = sent_of m b }) k ne
