-- A core's turn in the handover machine: the first of these events that is due.
use Rattle.std.specs.Prelude.{ℕ, ◌-◌, List, [], ◌∷◌, ◌++◌, length, count_by, sum_by, find, if◌then◌else◌, Bool, true, false, Option, Some, None}
use Rattle.indirection.specs.Tries.{upto}
use Rattle.bucket_table.specs.declared.custody.Custody.{Custody}
use Rattle.handover_core.specs.declared.item.Kind.TheVariants.{First, Next, Mark}
use Rattle.handover_core.specs.declared.item.Item.{Item}
use Rattle.handover_core.specs.declared.item.Item.TheVariants.{Of, End}
use Rattle.handover_core.specs.declared.event.Event.{Event}
use Rattle.handover_core.specs.declared.event.Event.TheVariants.{Take, Claim, Release}
use Rattle.handover_core.specs.State.{Hand, Away, Leaving, CoreState, MachineView, bucket_at, core_at, hand_in, hand_at}
use Rattle.handover_core.specs.Machine.{has_end, is_empty, is_leaving, waits_for, waiting_places, step}
use Rattle.handover_core.specs.Promises.{item_bucket}
use Rattle.parked_queue.specs.Parked.{removed}
use Rattle.worker_loop.specs.Workload.{custody}

-- an item is taken, where End wasn't taken and there is one
abbrev pub take_due : MachineView → ℕ → Option Event
take_due m c = if has_end (core_at m c).taken then None else (if is_empty (core_at m c).queue then None else Some (Take c))

abbrev pub claim_due : MachineView → ℕ → Option ℕ → Option Event
claim_due m c (Some b) = Some (Claim c b)
claim_due m c None = take_due m c

-- of the buckets that wait, in this order, the first whose word is that of its first place is claimed
abbrev pub release_due : MachineView → ℕ → List ℕ → Option ℕ → Option Event
release_due m c waiting (Some b) = Some (Release c b)
release_due m c waiting None = claim_due m c (find (λ b. waits_for (hand_at m c b) (bucket_at m b).word) waiting)

-- the lowest bucket that leaves is released
abbrev pub event_due : MachineView → ℕ → List ℕ → Option Event
event_due m c waiting = release_due m c waiting (find (λ b. is_leaving (hand_at m c b)) (upto (length m.buckets)))

-- the state after a turn, where an event was due or none
abbrev pub after : MachineView → Option Event → MachineView
after m None = m
after m (Some e) = step m e

-- the bucket that begins to wait where a core takes an item: that of a first packet, of which the core has nothing
abbrev pub joins : Hand → Item → List ℕ
joins Away (Of First b place) = b ∷ []
joins hand x = []

-- the line after the front of this queue was taken
abbrev pub line_taken : MachineView → ℕ → List Item → List ℕ → List ℕ
line_taken m c [] line = line
line_taken m c (x ∷ q) line = line ++ joins (hand_at m c (item_bucket x)) x

-- the line of the buckets that wait at a core, after an event of this core: one that begins to wait goes behind the others, and one that is claimed waits no more
abbrev pub line_by : MachineView → Event → List ℕ → List ℕ
line_by m (Take c) line = line_taken m c (core_at m c).queue line
line_by m (Claim c b) line = removed b line
line_by m e line = line

abbrev pub line_after : MachineView → Option Event → List ℕ → List ℕ
line_after m None line = line
line_after m (Some e) line = line_by m e line

-- the custody that a release ends
abbrev pub custody_in : ℕ → ℕ → Hand → List Custody
custody_in c b (Leaving from done) = custody b c from done ∷ []
custody_in c b hand = []

-- the custodies that an event ends
abbrev pub custodies_by : MachineView → Option Event → List Custody
custodies_by m None = []
custodies_by m (Some (Release c b)) = custody_in c b (hand_at m c b)
custodies_by m (Some e) = []

-- whether an item is a packet
abbrev pub is_packet : Item → Bool
is_packet (Of First b place) = true
is_packet (Of Next b place) = true
is_packet (Of Mark b place) = false
is_packet End = false

-- how many packets a core has worked: those that it took, but for those that are parked
abbrev pub worked_of : CoreState → ℕ
worked_of core = count_by is_packet core.taken - sum_by (λ h. length (waiting_places h)) core.hands

-- what an item's packet costs, where `costs` says what a packet costs by its bucket and place
abbrev pub item_cost : (ℕ → ℕ → ℕ) → Item → ℕ
item_cost costs (Of First b place) = costs b place
item_cost costs (Of Next b place) = costs b place
item_cost costs (Of Mark b place) = 0
item_cost costs End = 0

-- what the packets cost that a core has parked
abbrev pub parked_cost : (ℕ → ℕ → ℕ) → CoreState → ℕ
parked_cost costs core = sum_by (λ b. sum_by (costs b) (waiting_places (hand_in core b))) (upto (length core.hands))

-- what the packets cost that a core has worked: those that it took, but for those that are parked
abbrev pub worked_cost : (ℕ → ℕ → ℕ) → CoreState → ℕ
worked_cost costs core = sum_by (item_cost costs) core.taken - parked_cost costs core
