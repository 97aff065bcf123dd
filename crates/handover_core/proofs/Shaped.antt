-- Each event keeps the lengths of a state's lists.
use Rattle.std.proofs.Common.{◌≡◌, ℕ, ◌+◌, ◌*◌, ◌-◌, ◌<◌, ◌≤◌, List, [], ◌∷◌, ◌++◌, length, map, if◌then◌else◌, refl, sym, ◌∙◌, subst, arith}
use Rattle.std.proofs.lemmas.List.{length-set, length-map}
use Rattle.std.specs.Prelude.{slice_index, slice_set, None, Some}
use Rattle.indirection.proofs.Tests.{by_test}
use Rattle.handover_core.specs.declared.item.Kind.TheVariants.{Mark}
use Rattle.handover_core.specs.declared.item.Item.{Item}
use Rattle.handover_core.specs.declared.item.Item.TheVariants.{Of, End}
use Rattle.handover_core.specs.declared.event.Event.TheVariants.{Send, Look, Move, Place, SendEnd, Take, Claim, Release}
use Rattle.handover_core.specs.Dispatch.{kind_at}
use Rattle.handover_core.specs.declared.post.Post.{Post}
use Rattle.handover_core.specs.State.{Hand, Away, CoreState, MachineView, bucket_at, core_at, hand_at, sent_of, set_core, set_bucket, set_hand}
use Rattle.handover_core.specs.declared.bucket_state.BucketState.{BucketState}
use Rattle.handover_core.specs.Machine.{step, post, met, freed, leave, claimed_hand}
use Rattle.handover_core.proofs.Enabled.{IsEnabled}
use Rattle.handover_core.specs.Sound.{AreOf, IsShaped}
use Rattle.handover_core.proofs.Frames.{core-set, part-same, entry-set}
use Rattle.handover_core.proofs.Cases.{by_take, by_claim, by_release}

-- the numbers and what was dispatched are no part of it but for how many packets were sent
pub numbers-shaped : (m : MachineView) (sent moves free claims releases : ℕ) (ds : List Post) → sent ≤ length m.packets → IsShaped m
    → IsShaped (record m { sent = sent; moves = moves; free = free; claims = claims; releases = releases; dispatched = ds })
numbers-shaped m sent moves free claims releases ds l h = record { hands = h.hands; owners = h.owners; packets = h.packets; items = h.items; few = h.few; sent = l; pool = h.pool }

are_of-push : (n : ℕ) (xs : List Item) (x : Item) → AreOf n xs → AreOf n (x ∷ []) → AreOf n (xs ++ x ∷ [])
are_of-push n [] x a b = b
are_of-push n (Of kind q place ∷ xs) x a b = (a.0, are_of-push n xs x a.1 b)
are_of-push n (End ∷ xs) x a b = are_of-push n xs x a b

pub core-shaped : (m : MachineView) (c : ℕ) (s : CoreState) → c < length m.cores → length s.hands ≡ length (core_at m c).hands → AreOf (length m.buckets) s.queue → IsShaped m → IsShaped (set_core m c s)
core-shaped m c s l e a h = record {
  items = λ d. subst (λ (z : CoreState). AreOf (length m.buckets) z.queue) (sym (core-set m c s d l)) (by_test d c (λ t. AreOf (length m.buckets) (if t then s else core_at m d).queue) (λ _. a) (λ _. h.items d));
  hands = λ d ld. part-same (λ (x : CoreState). length x.hands) m c s d l e ∙ h.hands d (let n = length-set m.cores c s in omega arith);
  owners = λ b lb. let n = length-set m.cores c s in let o = h.owners b lb in omega arith;
  packets = h.packets;
  few = h.few;
  sent = h.sent;
  pool = h.pool;
}

pub bucket-shaped : (m : MachineView) (b : ℕ) (s : BucketState) → b < length m.buckets → s.owner < length m.cores → IsShaped m → IsShaped (set_bucket m b s)
bucket-shaped m b s l o h = record {
  hands = λ d ld. h.hands d ld ∙ sym (length-set m.buckets b s);
  owners = λ k lk. subst (λ (x : ℕ). x < length m.cores) (sym (entry-set (λ (x : BucketState). x.owner) m b s k l))
      (by_test k b (λ t. (if t then s.owner else (bucket_at m k).owner) < length m.cores) (λ _. o) (λ _. h.owners k (let n = length-set m.buckets b s in omega arith)));
  packets = λ i li. let n = length-set m.buckets b s in let p = h.packets i li in omega arith;
  items = λ d. subst (λ (n : ℕ). AreOf n (core_at m d).queue) (sym (length-set m.buckets b s)) (h.items d);
  few = h.few;
  sent = h.sent;
  pool = h.pool;
}

post-shaped : (m : MachineView) (o : ℕ) (x : Item) → o < length m.cores → AreOf (length m.buckets) (x ∷ []) → IsShaped m → IsShaped (post m o x)
post-shaped m o x l a h = core-shaped (record m { dispatched = m.dispatched ++ record { core = o; item = x } ∷ [] }) o (record (core_at m o) { queue = (core_at m o).queue ++ x ∷ [] }) l refl (are_of-push (length m.buckets) (core_at m o).queue x (h.items o) a)
    (numbers-shaped m m.sent m.moves m.free m.claims m.releases (m.dispatched ++ record { core = o; item = x } ∷ []) h.sent h)

pub send-shaped : (m : MachineView) → IsEnabled m Send → IsShaped m → IsShaped (step m Send)
send-shaped m e h = post-shaped (record m { sent = m.sent + 1; free = m.free - 1 }) (bucket_at m q).owner (Of (kind_at (bucket_at m q).start (sent_of m q)) q (sent_of m q)) (h.owners q (h.packets m.sent e.0)) (h.packets m.sent e.0, tt)
    (numbers-shaped m (m.sent + 1) m.moves (m.free - 1) m.claims m.releases m.dispatched (let l = e.0 in omega arith) h) where
      q : ℕ
      q = slice_index m.packets m.sent

pub move-shaped : (m : MachineView) (b to : ℕ) → IsEnabled m (Move b to) → IsShaped m → IsShaped (step m (Move b to))
move-shaped m b to e h =
    bucket-shaped (post m1 (bucket_at m b).owner item) b (record (bucket_at m b) { owner = to; start = sent_of m b }) e.0
    (let n = length-set m.cores (bucket_at m b).owner (record (core_at m (bucket_at m b).owner) { queue = (core_at m (bucket_at m b).owner).queue ++ item ∷ [] }) in let l = e.1 in omega arith)
    (post-shaped m1 (bucket_at m b).owner item (h.owners b e.0) (e.0, tt) (numbers-shaped m m.sent (m.moves - 1) (m.free - 1) m.claims m.releases m.dispatched h.sent h)) where
      m1 : MachineView
      m1 = record m { free = m.free - 1; moves = m.moves - 1 }

      item : Item
      item = Of Mark b (sent_of m b)

pub place-shaped : (m : MachineView) (b to : ℕ) → IsEnabled m (Place b to) → IsShaped m → IsShaped (step m (Place b to))
place-shaped m b to e h = bucket-shaped m b (record (bucket_at m b) { owner = to }) e.0 e.1 h

pub look-shaped : (m : MachineView) (b : ℕ) → IsEnabled m (Look b) → IsShaped m → IsShaped (step m (Look b))
look-shaped m b e h = bucket-shaped m b (record (bucket_at m b) { seen = (bucket_at m b).word }) e (h.owners b e) h

pub send_end-shaped : (m : MachineView) (c : ℕ) → IsEnabled m (SendEnd c) → IsShaped m → IsShaped (step m (SendEnd c))
send_end-shaped m c e h = post-shaped m c End e.0 tt h

pub take-shaped : (m : MachineView) (c : ℕ) → IsEnabled m (Take c) → IsShaped m → IsShaped (step m (Take c))
take-shaped m c e h = by_take IsShaped m c e.1
    (λ kind b place q i. core-shaped (record m { free = m.free + freed (hand_at m c b) kind }) c
    (record { queue = q; taken = (core_at m c).taken ++ Of kind b place ∷ []; hands = slice_set (core_at m c).hands b (met (hand_at m c b) kind place) }) e.0
    (length-set (core_at m c).hands b (met (hand_at m c b) kind place)) (subst (λ (z : List Item). AreOf (length m.buckets) z) i (h.items c)).1 (numbers-shaped m m.sent m.moves (m.free + freed (hand_at m c b) kind) m.claims m.releases m.dispatched h.sent h))
    (λ q i. core-shaped m c (record { queue = q; taken = (core_at m c).taken ++ End ∷ []; hands = map leave (core_at m c).hands }) e.0 (length-map (core_at m c).hands leave) (subst (λ (z : List Item). AreOf (length m.buckets) z) i (h.items c)) h)

hand-shaped : (m : MachineView) (c b : ℕ) (x : Hand) (s : BucketState) → c < length m.cores → b < length m.buckets → s.owner ≡ (bucket_at m b).owner → IsShaped m → IsShaped (set_bucket (set_core m c (set_hand (core_at m c) b x)) b s)
hand-shaped m c b x s lc lb o h =
    bucket-shaped (set_core m c (set_hand (core_at m c) b x)) b s lb (let n = length-set m.cores c (set_hand (core_at m c) b x) in let a = h.owners b lb in omega arith)
    (core-shaped m c (set_hand (core_at m c) b x) lc (length-set (core_at m c).hands b x) (h.items c) h)

pub claim-shaped : (m : MachineView) (c b : ℕ) → IsEnabled m (Claim c b) → IsShaped m → IsShaped (step m (Claim c b))
claim-shaped m c b e h = by_claim IsShaped m c b e.2
    (λ first rest i w. hand-shaped (record m { free = m.free + length (first ∷ rest); claims = m.claims + 1 }) c b (claimed_hand m c b (first ∷ rest)) (record (bucket_at m b) { word = 2 * first + 2; shelf = None }) e.0 e.1 refl
    (numbers-shaped m m.sent m.moves (m.free + length (first ∷ rest)) (m.claims + 1) m.releases m.dispatched h.sent h))

pub release-shaped : (m : MachineView) (c b : ℕ) → IsEnabled m (Release c b) → IsShaped m → IsShaped (step m (Release c b))
release-shaped m c b e h = by_release IsShaped m c b e.2
    (λ start done i. hand-shaped (record m { releases = m.releases + 1 }) c b Away (record (bucket_at m b) { word = 2 * done + 1; shelf = Some done }) e.0 e.1 refl
    (numbers-shaped m m.sent m.moves m.free m.claims (m.releases + 1) m.dispatched h.sent h))
