-- What is true in every state that a run comes to.
use Rattle.std.specs.Prelude.{◌≡◌, ℕ, ◌+◌, ◌*◌, ◌<◌, ◌≤◌, ◌^◌, List, [], ◌∷◌, ◌++◌, ◌-◌, length, count_by, sum_by, slice_index, Bool, true, false, not, if◌then◌else◌, ◌==◌, nat_lt}
use Rattle.indirection.specs.Stints.{Stint}
use Rattle.handover_core.specs.declared.item.Kind.TheVariants.{Mark}
use Rattle.handover_core.specs.declared.item.Item.{Item}
use Rattle.handover_core.specs.declared.item.Item.TheVariants.{Of, End}
use Rattle.handover_core.specs.Dispatch.{stream}
use Rattle.handover_core.specs.declared.post.Post.{Post}
use Rattle.handover_core.specs.Legal.{Legal}
use Rattle.handover_core.specs.State.{CoreState, MachineView, bucket_at, core_at, hand_at, sent_of}
use Rattle.handover_core.specs.declared.bucket_state.BucketState.{BucketState}
use Rattle.handover_core.specs.Machine.{is_end, has_end, end_sent, ends_left, waiting_places}
use Rattle.handover_core.specs.MachineDispatcher.{IsMachineDispatcher}
use Rattle.handover_core.specs.Bucket.{Piece, piece, BucketSnapshot, stint_of, IsBucket}

-- the items of a bucket among some items
abbrev pub pieces : ℕ → List Item → List Piece
pieces b [] = []
pieces b (Of kind bucket place ∷ xs) = if bucket == b then piece kind place ∷ pieces b xs else pieces b xs
pieces b (End ∷ xs) = pieces b xs

-- the stint that an item sent to a core ends: a mark ends the one that began at `from`
abbrev pub ended_by : ℕ → ℕ → ℕ → Item → List Stint
ended_by b from core (Of Mark bucket place) = if bucket == b then stint_of core from place ∷ [] else []
ended_by b from core x = []

-- where the next stint begins
abbrev pub begun_by : ℕ → ℕ → Item → ℕ
begun_by b from (Of Mark bucket place) = if bucket == b then place else from
begun_by b from x = from

-- the bucket's ended stints among the items sent, where the first begins at `from`
abbrev pub ended_stints : ℕ → ℕ → List Post → List Stint
ended_stints b from [] = []
ended_stints b from (p ∷ ps) = ended_by b from p.core p.item ++ ended_stints b (begun_by b from p.item) ps

-- one bucket of a state
abbrev pub bucket_snapshot : MachineView → ℕ → BucketSnapshot
bucket_snapshot m b = record {
  owner = (bucket_at m b).owner;
  start = (bucket_at m b).start;
  word = (bucket_at m b).word;
  shelf = (bucket_at m b).shelf;
  sent = sent_of m b;
  stints = ended_stints b 0 m.dispatched;
  hand = λ c. hand_at m c b;
  queue = λ c. pieces b (core_at m c).queue;
  ended = λ c. has_end (core_at m c).taken;
}

-- the items are of the first n buckets
abbrev pub AreOf : ℕ → List Item → Type 0
AreOf n [] = Unit {0}
AreOf n (Of kind bucket place ∷ xs) = (bucket < n) × AreOf n xs
AreOf n (End ∷ xs) = AreOf n xs

-- each core has a hand for each bucket, owners are cores, packets and items are of the buckets, and a bucket's places fit
pub record IsShaped (m : MachineView) : Type 0 where
  pub hands : (c : ℕ) → c < length m.cores → length (core_at m c).hands ≡ length m.buckets
  pub owners : (b : ℕ) → b < length m.buckets → (bucket_at m b).owner < length m.cores
  pub packets : (i : ℕ) → i < length m.packets → slice_index m.packets i < length m.buckets
  pub items : (c : ℕ) → AreOf (length m.buckets) (core_at m c).queue
  pub few : length m.packets < 2 ^ 32
  pub sent : m.sent ≤ length m.packets
  pub pool : 1 ≤ m.pool

-- a core's items go through its queue in the order in which they were sent, and they are legal; an End is sent only where no packet is left
pub record IsStreamed (m : MachineView) : Type 0 where
  pub streams : (c : ℕ) → (core_at m c).taken ++ (core_at m c).queue ≡ stream c m.dispatched
  pub legal : (c : ℕ) → Legal (stream c m.dispatched)
  pub dispatcher : end_sent m ≡ false → IsMachineDispatcher m
  pub ends : end_sent m ≡ true → m.sent ≡ length m.packets

-- each bucket is in a stage of its own, and a seen word that says that the owner holds the bucket is its word
pub record AreBuckets (m : MachineView) : Type 0 where
  pub buckets : (b : ℕ) → b < length m.buckets → IsBucket (bucket_snapshot m b)
  pub seen : (b : ℕ) → b < length m.buckets → end_sent m ≡ false → (bucket_at m b).seen ≡ 2 * (bucket_at m b).start + 2 → (bucket_at m b).word ≡ 2 * (bucket_at m b).start + 2

-- the cells that a core has: one for each item on its queue but End, and one for each packet that waits
abbrev pub cells_in : CoreState → ℕ
cells_in core = count_by (λ x. not (is_end x)) core.queue + sum_by (λ h. length (waiting_places h)) core.hands

-- whether an item is a mark
abbrev pub is_mark_item : Item → Bool
is_mark_item (Of Mark bucket place) = true
is_mark_item x = false

-- the marks that were sent
abbrev pub marks : MachineView → ℕ
marks m = count_by (λ p. is_mark_item p.item) m.dispatched

-- the claims and releases that a bucket's stints so far have still before them
abbrev pub due : BucketState → ℕ
due s = if nat_lt s.word (2 * s.start + 1) then 3 else (if s.word == 2 * s.start + 1 then 2 else (if s.word == 2 * s.start + 2 then 1 else 0))

-- no cell is lost, each move has its mark, and each stint is claimed and released once
pub record IsCounted (m : MachineView) : Type 0 where
  pub cells : m.free + sum_by cells_in m.cores ≡ m.pool
  pub moves : m.moves + marks m ≡ m.first_moves
  pub turns : m.claims + m.releases + sum_by due m.buckets ≡ 2 * (marks m + length m.buckets)

-- what was sent, and what is left to send: a packet each, a mark for each move, and End for each core
abbrev pub ArePosts : MachineView → Type 0
ArePosts m = length m.dispatched + ((length m.packets - m.sent) + m.moves + ends_left m) ≡ length m.packets + m.first_moves + length m.cores

-- the invariant: true at the start, and kept by each enabled event
pub record IsSound (m : MachineView) : Type 0 where
  pub shaped : IsShaped m
  pub streamed : IsStreamed m
  pub buckets : AreBuckets m
  pub counted : IsCounted m
  pub posts : ArePosts m
