-- What the machine promises of a state, and of an event that is enabled there.
use Rattle.std.specs.Prelude.{◌≡◌, ◌≢◌, ◌⊎◌, ℕ, ◌+◌, ◌*◌, ◌<◌, List, [], ◌∷◌, ◌++◌, length, count_by, if◌then◌else◌, ◌==◌, true, Option, Some, None}
use Rattle.handover_core.specs.declared.item.Kind.TheVariants.{First, Next, Mark}
use Rattle.handover_core.specs.declared.item.Item.{Item}
use Rattle.handover_core.specs.declared.item.Item.TheVariants.{Of, End}
use Rattle.handover_core.specs.declared.event.Event.{Event}
use Rattle.handover_core.specs.declared.event.Event.TheVariants.{Look, Place, Take, Claim, Release}
use Rattle.handover_core.specs.Dispatch.{stream}
use Rattle.handover_core.specs.Legal.{Legal}
use Rattle.handover_core.specs.State.{Hand, Away, Waiting, Held, Leaving, CoreState, MachineView, bucket_at, core_at, hand_at, hand_in}
use Rattle.handover_core.specs.Machine.{end_sent_to, waiting_places, step}
use Rattle.handover_core.specs.Bucket.{places_from}

-- the place at which a core claimed the table that it has
abbrev pub hand_claimed_at : Hand → Option ℕ
hand_claimed_at (Held start done) = Some start
hand_claimed_at (Leaving start done) = Some start
hand_claimed_at h = None

-- the table is on the shelf with the packets before `start` worked, and no core has it
pub record IsOnShelf (m : MachineView) (b : ℕ) : Type 0 where
  pub start : ℕ
  pub word : (bucket_at m b).word ≡ 2 * start + 1
  pub shelf : (bucket_at m b).shelf ≡ Some start
  pub hands : (c : ℕ) → hand_claimed_at (hand_at m c b) ≡ None

-- no table is on the shelf, and one core has it, which claimed it at `start`
pub record IsInHand (m : MachineView) (b : ℕ) : Type 0 where
  pub start : ℕ
  pub core : ℕ
  pub word : (bucket_at m b).word ≡ 2 * start + 2
  pub shelf : (bucket_at m b).shelf ≡ None
  pub is_core : core < length m.cores
  pub holds : hand_claimed_at (hand_at m core b) ≡ Some start
  pub alone : (c : ℕ) → c ≢ core → hand_claimed_at (hand_at m c b) ≡ None

-- each table in one hand: a bucket's word says where its table is, and it is there alone
abbrev pub IsHeldOnce : MachineView → Type 0
IsHeldOnce m = (b : ℕ) → b < length m.buckets → IsOnShelf m b ⊎ IsInHand m b

-- what each core took and what is on its queue are together what was sent to it, in order, and this is legal
pub record AreStreams (m : MachineView) : Type 0 where
  pub order : (c : ℕ) → (core_at m c).taken ++ (core_at m c).queue ≡ stream c m.dispatched
  pub legal : (c : ℕ) → Legal (stream c m.dispatched)

-- an item that a core takes meets the bucket so: a first packet, Away; a next one, Waiting, or a table that is Held with so many packets done as its place says; a mark, a table that is Held with all done
abbrev pub Meets : Hand → Item → Type 0
Meets hand (Of First b place) = hand ≡ Away
Meets hand (Of Next b place) = ((places : List ℕ) × (hand ≡ Waiting places)) ⊎ ((start : ℕ) × (hand ≡ Held start place))
Meets hand (Of Mark b place) = (start : ℕ) × (hand ≡ Held start place)
Meets hand End = Unit {0}

-- the bucket of an item
abbrev pub item_bucket : Item → ℕ
item_bucket (Of kind b place) = b
item_bucket End = 0

-- packets in place: what is taken meets its bucket as it should, and what waits is claimed at the `done` of the table, place by place
abbrev pub IsInPlace : MachineView → Event → Type 0
IsInPlace m (Take c) = (x : Item) (q : List Item) → (core_at m c).queue ≡ x ∷ q → Meets (hand_at m c (item_bucket x)) x
IsInPlace m (Claim c b) = (done n : ℕ) × ((bucket_at m b).shelf ≡ Some done) × (hand_at m c b ≡ Waiting (places_from done n))
IsInPlace m e = Unit {0}

-- the places of a bucket that an event works: a packet that meets a Held table, and those that wait when they are claimed
abbrev pub worked_of : Hand → Item → List ℕ
worked_of (Held start done) (Of Next b place) = place ∷ []
worked_of hand x = []

-- the places of a bucket that a core works when it takes the front of this queue
abbrev pub worked_at : ℕ → MachineView → ℕ → List Item → List ℕ
worked_at b m c [] = []
worked_at b m c (x ∷ q) = if item_bucket x == b then worked_of (hand_at m c b) x else []

-- the places of a bucket that an event works
abbrev pub worked_by : ℕ → MachineView → Event → List ℕ
worked_by b m (Take c) = worked_at b m c (core_at m c).queue
worked_by b m (Claim c k) = if k == b then waiting_places (hand_at m c k) else []
worked_by b m e = []

-- the places of a bucket that a run works, in order
abbrev pub worked_in : ℕ → MachineView → List Event → List ℕ
worked_in b m [] = []
worked_in b m (e ∷ es) = worked_by b m e ++ worked_in b (step m e) es

-- the `done` of the bucket's table where a core has it
abbrev pub done_in : Hand → ℕ → ℕ
done_in (Held start done) rest = done
done_in (Leaving start done) rest = done
done_in hand rest = rest

-- the `done` of the bucket's table at the first core that has it
abbrev pub done_among : ℕ → List CoreState → ℕ
done_among b [] = 0
done_among b (core ∷ cores) = done_in (hand_in core b) (done_among b cores)

-- the `done` of the bucket's table
abbrev pub done_at : MachineView → ℕ → Option ℕ → ℕ
done_at m b (Some done) = done
done_at m b None = done_among b m.cores

-- how many packets of a bucket were worked: the `done` of its table, on the shelf or with a core
abbrev pub worked : MachineView → ℕ → ℕ
worked m b = done_at m b (bucket_at m b).shelf

-- all packets and Ends were sent, all queues are empty, and nothing waits, is held or is to be released
pub record IsFinished (m : MachineView) : Type 0 where
  pub sent : m.sent ≡ length m.packets
  pub ends : (c : ℕ) → c < length m.cores → end_sent_to m c ≡ true
  pub queues : (c : ℕ) → c < length m.cores → (core_at m c).queue ≡ []
  pub hands : (c b : ℕ) → c < length m.cores → b < length m.buckets → hand_at m c b ≡ Away

-- Take, Claim and Release
abbrev pub IsOfWorker : Event → Type 0
IsOfWorker (Take c) = Unit {0}
IsOfWorker (Claim c b) = Unit {0}
IsOfWorker (Release c b) = Unit {0}
IsOfWorker e = ⊥

-- each event but Look and Place counts as a step
abbrev pub counts : Event → ℕ
counts (Look b) = 0
counts (Place b to) = 0
counts e = 1

-- how many packets a bucket has
abbrev pub total : MachineView → ℕ → ℕ
total m b = count_by (λ x. x == b) m.packets

-- how a run ends: all packets worked, each table on the shelf with all of them done, all cells free, and each core has taken all that was sent to it
pub record IsDone (m : MachineView) : Type 0 where
  pub worked : (b : ℕ) → b < length m.buckets → worked m b ≡ total m b
  pub words : (b : ℕ) → b < length m.buckets → (bucket_at m b).word ≡ 2 * total m b + 1
  pub free : m.free ≡ m.pool
  pub taken : (c : ℕ) → (core_at m c).taken ≡ stream c m.dispatched
