-- Each event keeps the streams legal and in their order.
use Rattle.std.proofs.Common.{◌≡◌, ℕ, ◌+◌, ◌*◌, ◌-◌, ◌^◌, ◌<◌, ◌≤◌, List, [], ◌∷◌, ◌++◌, append_assoc, length, take, Bool, true, false, if◌then◌else◌, ◌==◌, refl, sym, ap, ◌∙◌, subst, arith}
use Rattle.std.proofs.lemmas.List.{length-take-le}
use Rattle.std.proofs.lemmas.List.Sums.{count_by-le-length}
use Rattle.std.specs.Prelude.{slice_index, slice_set, map, None, Some}
use Rattle.indirection.proofs.Tests.{by_test}
use Rattle.handover_core.specs.declared.item.Kind.TheVariants.{Mark}
use Rattle.handover_core.specs.declared.item.Item.{Item}
use Rattle.handover_core.specs.declared.item.Item.TheVariants.{Of, End}
use Rattle.handover_core.specs.declared.event.Event.TheVariants.{Send, Look, Move, Place, SendEnd, Take, Claim, Release}
use Rattle.handover_core.specs.Dispatch.{stream, kind_at}
use Rattle.handover_core.specs.State.{Hand, Away, CoreState, MachineView, bucket_at, core_at, hand_at, sent_of, set_core, set_bucket, set_hand}
use Rattle.handover_core.specs.declared.bucket_state.BucketState.{BucketState}
use Rattle.handover_core.specs.Machine.{end_sent, step, post, met, freed, leave, claimed_hand, claiming}
use Rattle.handover_core.specs.MachineDispatcher.{IsMachineDispatcher}
use Rattle.handover_core.proofs.Enabled.{IsEnabled}
use Rattle.handover_core.specs.Sound.{IsShaped, IsStreamed}
use Rattle.handover_core.proofs.Frames.{part-set, part-same, entry-same, end_sent-item, end_sent-end}
use Rattle.handover_core.proofs.Cases.{by_take, by_claim, by_release}
use Rattle.handover_core.proofs.Ends.{no_end-open}
use Rattle.handover_core.proofs.Streams.{stream-here, stream-away}
use Rattle.handover_core.proofs.DispatcherSide.{IsDispatcherSide-same, legal-post}
use Rattle.handover_core.proofs.MachineDispatchers.{send_keeps, move_keeps, place_keeps}

-- an item more on a core's queue
post-streams : (m : MachineView) (o : ℕ) (x : Item) (c : ℕ) → o < length m.cores → (core_at m c).taken ++ (core_at m c).queue ≡ stream c m.dispatched → (core_at m o).taken ++ (core_at m o).queue ≡ stream o m.dispatched
    → (core_at (post m o x) c).taken ++ (core_at (post m o x) c).queue ≡ stream c (m.dispatched ++ record { core = o; item = x } ∷ [])
post-streams m o x c l here at_o =
    part-set (λ (s : CoreState). s.taken ++ s.queue) m o (record (core_at m o) { queue = (core_at m o).queue ++ x ∷ [] }) c l
    ∙ by_test c o (λ t. (if t then (core_at m o).taken ++ ((core_at m o).queue ++ x ∷ []) else (core_at m c).taken ++ (core_at m c).queue) ≡ stream c (m.dispatched ++ record { core = o; item = x } ∷ []))
    (λ e. subst (λ (k : ℕ). (core_at m o).taken ++ ((core_at m o).queue ++ x ∷ []) ≡ stream k (m.dispatched ++ record { core = o; item = x } ∷ [])) (sym e)
    (sym (append_assoc (core_at m o).taken (core_at m o).queue (x ∷ [])) ∙ (ap (λ (z : List Item). z ++ x ∷ []) at_o ∙ sym (stream-here o m.dispatched x))))
    (λ ne. here ∙ sym (stream-away c o m.dispatched x (λ e. ne (sym e))))

pub sent_of-le : (m : MachineView) (b : ℕ) → m.sent ≤ length m.packets → sent_of m b ≤ m.sent
sent_of-le m b h = let e = length-take-le m.sent m.packets h in let f = count_by-le-length (λ x. x == b) (take m.sent m.packets) in omega arith

false-true : (a : Bool) → a ≡ false → a ≡ true → ⊥
false-true a f t = cc

-- the dispatcher's events

pub send-streamed : (m : MachineView) → IsShaped m → IsStreamed m → IsEnabled m Send → end_sent m ≡ false → IsStreamed (step m Send)
send-streamed m h s e o = record {
  streams = λ c. post-streams m1 (bucket_at m q).owner item c (h.owners q (h.packets m.sent e.0)) (s.streams c) (s.streams (bucket_at m q).owner);
  legal = dispatcher.legal;
  dispatcher = λ _. dispatcher;
  ends = λ t. absurd (false-true (end_sent m) o (sym (end_sent-item m.dispatched (bucket_at m q).owner (kind_at (bucket_at m q).start (sent_of m q)) q (sent_of m q)) ∙ t));
} where
  q : ℕ
  q = slice_index m.packets m.sent

  item : Item
  item = Of (kind_at (bucket_at m q).start (sent_of m q)) q (sent_of m q)

  m1 : MachineView
  m1 = record m { sent = m.sent + 1; free = m.free - 1 }

  few : sent_of m q < 2 ^ 32 - 1
  few = let a = sent_of-le m q h.sent in let b = h.few in let d = e.0 in omega arith

  dispatcher : IsMachineDispatcher (step m Send)
  dispatcher = send_keeps m (s.dispatcher o) e.0 few

pub move-streamed : (m : MachineView) (b to : ℕ) → IsShaped m → IsStreamed m → IsEnabled m (Move b to) → IsStreamed (step m (Move b to))
move-streamed m b to h s e = record {
  streams = λ c. post-streams (record m { free = m.free - 1; moves = m.moves - 1 }) (bucket_at m b).owner (Of Mark b (sent_of m b)) c (h.owners b e.0) (s.streams c) (s.streams (bucket_at m b).owner);
  legal = dispatcher.legal;
  dispatcher = λ _. dispatcher;
  ends = λ t. absurd (false-true (end_sent m) e.7 (sym (end_sent-item m.dispatched (bucket_at m b).owner Mark b (sent_of m b)) ∙ t));
} where
  dispatcher : IsMachineDispatcher (step m (Move b to))
  dispatcher = move_keeps m b to (s.dispatcher e.7) e.0 e.3 (λ i. e.2 (sym i))

pub place-streamed : (m : MachineView) (b to : ℕ) → IsStreamed m → IsEnabled m (Place b to) → IsStreamed (step m (Place b to))
place-streamed m b to s e = record { streams = s.streams; legal = s.legal; dispatcher = λ o. place_keeps m b to (s.dispatcher o) e.0 e.3 (λ i. e.2 (sym i)); ends = s.ends }

pub send_end-streamed : (m : MachineView) (c : ℕ) → IsStreamed m → IsEnabled m (SendEnd c) → IsStreamed (step m (SendEnd c))
send_end-streamed m c s e = record {
  streams = λ d. post-streams m c End d e.0 (s.streams d) (s.streams c);
  legal = λ d. legal-post m.dispatched c End d (s.legal d) (no_end-open c m.dispatched e.2);
  dispatcher = λ o. absurd (false-true (end_sent (step m (SendEnd c))) o (end_sent-end m.dispatched c));
  ends = λ _. e.1;
}

-- a bucket that keeps its owner and start
pub bucket-streamed : (m : MachineView) (b : ℕ) (s : BucketState) → b < length m.buckets → s.owner ≡ (bucket_at m b).owner → s.start ≡ (bucket_at m b).start → IsStreamed m → IsStreamed (set_bucket m b s)
bucket-streamed m b s l o st t = record {
  streams = t.streams;
  legal = t.legal;
  dispatcher = λ n. IsDispatcherSide-same (λ k. (bucket_at m k).owner) (sent_of m) (λ k. (bucket_at m k).start) (λ k. (bucket_at (set_bucket m b s) k).owner) (sent_of m) (λ k. (bucket_at (set_bucket m b s) k).start) m.dispatched (t.dispatcher n)
      (λ k. entry-same (λ (x : BucketState). x.owner) m b s k l o) (λ k. refl) (λ k. entry-same (λ (x : BucketState). x.start) m b s k l st);
  ends = t.ends;
}

-- a core that keeps its items
pub core-streamed : (m : MachineView) (c : ℕ) (s : CoreState) → c < length m.cores → s.taken ++ s.queue ≡ (core_at m c).taken ++ (core_at m c).queue → IsStreamed m → IsStreamed (set_core m c s)
core-streamed m c s l e t = record {
  streams = λ d. part-same (λ (x : CoreState). x.taken ++ x.queue) m c s d l e ∙ t.streams d;
  legal = t.legal;
  dispatcher = t.dispatcher;
  ends = t.ends;
}

-- a count is no part of the streams
pub counts-streamed : (m : MachineView) (free claims releases : ℕ) → IsStreamed m → IsStreamed (record m { free = free; claims = claims; releases = releases })
counts-streamed m free claims releases t = record { streams = t.streams; legal = t.legal; dispatcher = t.dispatcher; ends = t.ends }

-- the worker's events

took-streamed : (m : MachineView) (c : ℕ) (x : Item) (q : List Item) (free : ℕ) (hands : List Hand) → c < length m.cores → (core_at m c).queue ≡ x ∷ q → IsStreamed m
    → IsStreamed (set_core (record m { free = free }) c (record { queue = q; taken = (core_at m c).taken ++ x ∷ []; hands = hands }))
took-streamed m c x q free hands l e t =
    core-streamed (record m { free = free }) c (record { queue = q; taken = (core_at m c).taken ++ x ∷ []; hands = hands }) l
    (append_assoc (core_at m c).taken (x ∷ []) q ∙ ap (λ (z : List Item). (core_at m c).taken ++ z) (sym e)) (counts-streamed m free m.claims m.releases t)

pub take-streamed : (m : MachineView) (c : ℕ) → IsStreamed m → IsEnabled m (Take c) → IsStreamed (step m (Take c))
take-streamed m c t e = by_take IsStreamed m c e.1
    (λ kind b place q i. took-streamed m c (Of kind b place) q (m.free + freed (hand_at m c b) kind) (slice_set (core_at m c).hands b (met (hand_at m c b) kind place)) e.0 i t)
    (λ q i. took-streamed m c End q m.free (map leave (core_at m c).hands) e.0 i t)

pub claim-streamed : (m : MachineView) (c b : ℕ) → IsStreamed m → IsEnabled m (Claim c b) → IsStreamed (step m (Claim c b))
claim-streamed m c b t e = by_claim IsStreamed m c b e.2
    (λ first rest i w.
    bucket-streamed (claiming m c b (first ∷ rest)) b (record (bucket_at m b) { word = 2 * first + 2; shelf = None }) e.1 refl refl
    (core-streamed (record m { free = m.free + length (first ∷ rest); claims = m.claims + 1 }) c (set_hand (core_at m c) b (claimed_hand m c b (first ∷ rest))) e.0 refl
    (counts-streamed m (m.free + length (first ∷ rest)) (m.claims + 1) m.releases t)))

pub release-streamed : (m : MachineView) (c b : ℕ) → IsStreamed m → IsEnabled m (Release c b) → IsStreamed (step m (Release c b))
release-streamed m c b t e = by_release IsStreamed m c b e.2
    (λ start done i.
    bucket-streamed (set_core (record m { releases = m.releases + 1 }) c (set_hand (core_at m c) b Away)) b (record (bucket_at m b) { word = 2 * done + 1; shelf = Some done }) e.1 refl refl
    (core-streamed (record m { releases = m.releases + 1 }) c (set_hand (core_at m c) b Away) e.0 refl (counts-streamed m m.free m.claims (m.releases + 1) t)))

pub look-streamed : (m : MachineView) (b : ℕ) → IsStreamed m → IsEnabled m (Look b) → IsStreamed (step m (Look b))
look-streamed m b t e = bucket-streamed m b (record (bucket_at m b) { seen = (bucket_at m b).word }) e refl refl t
