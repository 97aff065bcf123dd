-- What a worker's event makes of one bucket of the whole state.
use Rattle.std.proofs.Common.{◌≡◌, ◌≢◌, ℕ, ◌+◌, ◌*◌, ◌<◌, List, [], ◌∷◌, ◌++◌, length, map, Bool, refl, sym, ap, ◌∙◌, Some, None}
use Rattle.std.proofs.lemmas.List.{get_or-set_same, get_or-set_other}
use Rattle.std.proofs.Math.ListN.{get_or-map}
use Rattle.std.specs.Prelude.{slice_set, Option}
use Rattle.handover_core.specs.declared.item.Kind.{Kind}
use Rattle.handover_core.specs.declared.item.Item.{Item}
use Rattle.handover_core.specs.declared.item.Item.TheVariants.{Of, End}
use Rattle.handover_core.specs.State.{Hand, Away, Leaving, CoreState, MachineView, bucket_at, core_at, hand_at, hand_in, set_core, set_bucket, set_hand}
use Rattle.handover_core.specs.declared.bucket_state.BucketState.{BucketState}
use Rattle.handover_core.specs.Machine.{has_end, took, met, freed, leave, claimed, claimed_hand, released}
use Rattle.handover_core.specs.Bucket.{piece}
use Rattle.handover_core.proofs.Turns.{upd, after_take, after_end, after_claim, after_release}
use Rattle.handover_core.specs.Sound.{pieces, bucket_snapshot}
use Rattle.handover_core.proofs.Frames.{part-set, part-same, pieces-other, has_end-item, has_end-end}
use Rattle.handover_core.proofs.Buckets.{IsSame}
use Rattle.handover_core.proofs.BucketSnapshots.{bucket-here, bucket-other}

-- a packet or a mark is taken

pub taken-core : (m : MachineView) (c : ℕ) (kind : Kind) (b place : ℕ) (q : List Item) → CoreState
taken-core m c kind b place q = record { queue = q; taken = (core_at m c).taken ++ Of kind b place ∷ []; hands = slice_set (core_at m c).hands b (met (hand_at m c b) kind place) }

pub take-here : (m : MachineView) (c : ℕ) (kind : Kind) (b place : ℕ) (q : List Item) → c < length m.cores → b < length (core_at m c).hands → IsSame (after_take (bucket_snapshot m b) c (piece kind place) (pieces b q)) (bucket_snapshot (took m c (Of kind b place ∷ q)) b)
unfolding taken-core
take-here m c kind b place q l lb = record {
  owner = refl;
  start = refl;
  word = refl;
  shelf = refl;
  sent = refl;
  stints = refl;
  hand = λ d. part-set (λ (s : CoreState). hand_in s b) m1 c (taken-core m c kind b place q) d l
      ∙ ap (λ (h : Hand). upd (λ k. hand_at m k b) c h d) (get_or-set_same (core_at m c).hands b (met (hand_at m c b) kind place) Away lb);
  queue = λ d. part-set (λ (s : CoreState). pieces b s.queue) m1 c (taken-core m c kind b place q) d l;
  ended = λ d. part-same (λ (s : CoreState). has_end s.taken) m1 c (taken-core m c kind b place q) d l (has_end-item (core_at m c).taken kind b place);
} where
  m1 : MachineView
  m1 = record m { free = m.free + freed (hand_at m c b) kind }

pub take-other : (m : MachineView) (c : ℕ) (kind : Kind) (b place : ℕ) (q : List Item) (k : ℕ) → c < length m.cores → (core_at m c).queue ≡ Of kind b place ∷ q → b ≢ k → IsSame (bucket_snapshot m k) (bucket_snapshot (took m c (Of kind b place ∷ q)) k)
unfolding taken-core
take-other m c kind b place q k l i ne = record {
  owner = refl;
  start = refl;
  word = refl;
  shelf = refl;
  sent = refl;
  stints = refl;
  hand = λ d. part-same (λ (s : CoreState). hand_in s k) m1 c (taken-core m c kind b place q) d l (get_or-set_other (core_at m c).hands b k (met (hand_at m c b) kind place) Away (λ e. ne (sym e)));
  queue = λ d. part-same (λ (s : CoreState). pieces k s.queue) m1 c (taken-core m c kind b place q) d l (sym (pieces-other k b kind place q ne) ∙ ap (pieces k) (sym i));
  ended = λ d. part-same (λ (s : CoreState). has_end s.taken) m1 c (taken-core m c kind b place q) d l (has_end-item (core_at m c).taken kind b place);
} where
  m1 : MachineView
  m1 = record m { free = m.free + freed (hand_at m c b) kind }

-- End is taken

pub take_end-same : (m : MachineView) (c : ℕ) (q : List Item) (k : ℕ) → c < length m.cores → (core_at m c).queue ≡ End ∷ q → IsSame (after_end (bucket_snapshot m k) c) (bucket_snapshot (took m c (End ∷ q)) k)
take_end-same m c q k l i = record {
  owner = refl;
  start = refl;
  word = refl;
  shelf = refl;
  sent = refl;
  stints = refl;
  hand = λ d. part-set (λ (s : CoreState). hand_in s k) m c s1 d l ∙ ap (λ (h : Hand). upd (λ j. hand_at m j k) c h d) (get_or-map leave (core_at m c).hands k Away);
  queue = λ d. part-same (λ (s : CoreState). pieces k s.queue) m c s1 d l (ap (pieces k) (sym i));
  ended = λ d. part-set (λ (s : CoreState). has_end s.taken) m c s1 d l ∙ ap (λ (t : Bool). upd (λ j. has_end (core_at m j).taken) c t d) (has_end-end (core_at m c).taken);
} where
  s1 : CoreState
  s1 = record { queue = q; taken = (core_at m c).taken ++ End ∷ []; hands = map leave (core_at m c).hands }

-- a hand and an entry are set

hand-other : (m : MachineView) (c b : ℕ) (h : Hand) (s : BucketState) (k : ℕ) → c < length m.cores → b ≢ k → IsSame (bucket_snapshot m k) (bucket_snapshot (set_bucket (set_core m c (set_hand (core_at m c) b h)) b s) k)
hand-other m c b h s k l ne = record {
  owner = ap (λ (x : BucketState). x.owner) e;
  start = ap (λ (x : BucketState). x.start) e;
  word = ap (λ (x : BucketState). x.word) e;
  shelf = ap (λ (x : BucketState). x.shelf) e;
  sent = refl;
  stints = refl;
  hand = λ d. part-same (λ (s : CoreState). hand_in s k) m c (set_hand (core_at m c) b h) d l (get_or-set_other (core_at m c).hands b k h Away (λ e. ne (sym e)));
  queue = λ d. part-same (λ (s : CoreState). pieces k s.queue) m c (set_hand (core_at m c) b h) d l refl;
  ended = λ d. part-same (λ (s : CoreState). has_end s.taken) m c (set_hand (core_at m c) b h) d l refl;
} where
  e : bucket_at (set_bucket (set_core m c (set_hand (core_at m c) b h)) b s) k ≡ bucket_at m k
  e = bucket-other (set_core m c (set_hand (core_at m c) b h)) b s k ne

pub claim-other : (m : MachineView) (c b first : ℕ) (rest : List ℕ) (k : ℕ) → c < length m.cores → b ≢ k → IsSame (bucket_snapshot m k) (bucket_snapshot (claimed m c b (first ∷ rest)) k)
claim-other m c b first rest k l ne =
    hand-other (record m { free = m.free + length (first ∷ rest); claims = m.claims + 1 }) c b (claimed_hand m c b (first ∷ rest)) (record (bucket_at m b) { word = 2 * first + 2; shelf = None }) k l ne

pub release-other : (m : MachineView) (c b start done k : ℕ) → c < length m.cores → b ≢ k → IsSame (bucket_snapshot m k) (bucket_snapshot (released m c b (Leaving start done)) k)
release-other m c b start done k l ne = hand-other (record m { releases = m.releases + 1 }) c b Away (record (bucket_at m b) { word = 2 * done + 1; shelf = Some done }) k l ne

hand-here : (m : MachineView) (c b : ℕ) (h : Hand) (word : ℕ) (shelf : Option ℕ) → c < length m.cores → b < length m.buckets → b < length (core_at m c).hands
    → IsSame (record (bucket_snapshot m b) { word = word; shelf = shelf; hand = upd (λ d. hand_at m d b) c h }) (bucket_snapshot (set_bucket (set_core m c (set_hand (core_at m c) b h)) b (record (bucket_at m b) { word = word; shelf = shelf })) b)
hand-here m c b h word shelf l lb lh = record {
  owner = ap (λ (x : BucketState). x.owner) e;
  start = ap (λ (x : BucketState). x.start) e;
  word = ap (λ (x : BucketState). x.word) e;
  shelf = ap (λ (x : BucketState). x.shelf) e;
  sent = refl;
  stints = refl;
  hand = λ d. part-set (λ (s : CoreState). hand_in s b) m c (set_hand (core_at m c) b h) d l ∙ ap (λ (x : Hand). upd (λ j. hand_at m j b) c x d) (get_or-set_same (core_at m c).hands b h Away lh);
  queue = λ d. part-same (λ (s : CoreState). pieces b s.queue) m c (set_hand (core_at m c) b h) d l refl;
  ended = λ d. part-same (λ (s : CoreState). has_end s.taken) m c (set_hand (core_at m c) b h) d l refl;
} where
  e : bucket_at (set_bucket (set_core m c (set_hand (core_at m c) b h)) b (record (bucket_at m b) { word = word; shelf = shelf })) b ≡ record (bucket_at m b) { word = word; shelf = shelf }
  e = bucket-here (set_core m c (set_hand (core_at m c) b h)) b (record (bucket_at m b) { word = word; shelf = shelf }) lb

pub claim-here : (m : MachineView) (c b first : ℕ) (rest : List ℕ) → c < length m.cores → b < length m.buckets → b < length (core_at m c).hands → IsSame (after_claim (bucket_snapshot m b) c first (first ∷ rest)) (bucket_snapshot (claimed m c b (first ∷ rest)) b)
claim-here m c b first rest l lb lh = hand-here (record m { free = m.free + length (first ∷ rest); claims = m.claims + 1 }) c b (claimed_hand m c b (first ∷ rest)) (2 * first + 2) None l lb lh

pub release-here : (m : MachineView) (c b start done : ℕ) → c < length m.cores → b < length m.buckets → b < length (core_at m c).hands → IsSame (after_release (bucket_snapshot m b) c done) (bucket_snapshot (released m c b (Leaving start done)) b)
release-here m c b start done l lb lh = hand-here (record m { releases = m.releases + 1 }) c b Away (2 * done + 1) (Some done) l lb lh
