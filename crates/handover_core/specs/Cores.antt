-- What the core of a machine stands for.
use Rattle.std.specs.Prelude.{◌≡◌, ℕ, ◌+◌, ◌≤◌, ◌<◌, ◌^◌, List, [], ◌∷◌, ◌++◌, map, length, slice_set, slice_index_or, vec_capacity}
use Rattle.std.specs.VecDeque.{deque_capacity}
use Rattle.handover_core.specs.declared.item.Kind.{Kind}
use Rattle.handover_core.specs.declared.item.Kind.TheVariants.{Next}
use Rattle.handover_core.specs.declared.duty.Duty.{Duty}
use Rattle.handover_core.specs.declared.duty.Duty.TheVariants.{Nothing, Parks, Holds, Leaves}
use Rattle.handover_core.specs.declared.worker_core.WorkerCore.{WorkerCore}
use Rattle.handover_core.specs.State.{Hand, Away, Waiting, Held, Leaving, CoreState, hand_in}
use Rattle.handover_core.specs.declared.item.Item.{Item}
use Rattle.handover_core.specs.declared.item.Item.TheVariants.{Of, End}
use Rattle.handover_core.specs.Machine.{has_end, met, freed, leave}
use Rattle.handover_core.specs.Bucket.{places_from}

-- the packets that wait stand one behind the other
abbrev pub hand_of_duty : Duty → Hand
hand_of_duty Nothing = Away
hand_of_duty (Parks first count) = Waiting (places_from first count)
hand_of_duty (Holds start done) = Held start done
hand_of_duty (Leaves start done) = Leaving start done

-- an item that comes next after those that wait, and whose number fits
abbrev pub CanMeet : Duty → Kind → ℕ → Type 0
CanMeet (Parks first count) Next place = (place ≡ first + count) × (count + 1 < 2 ^ 32)
CanMeet (Holds start done) Next place = done + 1 < 2 ^ 32
CanMeet duty kind place = Unit {0}

-- a core in memory as the state sees it
abbrev pub core_state : WorkerCore → CoreState
core_state core = record { queue = core.queue.items; taken = core.taken.items; hands = map hand_of_duty core.duties.items }

-- there is room for so many items on its queue and on its list, and it knows whether it took End
pub record HasRoom (queued taken : ℕ) (core : WorkerCore) : Type 0 where
  pub queue : queued ≤ deque_capacity core.queue
  pub list : taken ≤ vec_capacity core.taken
  pub took_end : core.took_end ≡ has_end core.taken.items

-- each core has that room
abbrev pub HaveRoom : ℕ → ℕ → List WorkerCore → Type 0
HaveRoom queued taken cores = (c : ℕ) (d : WorkerCore) → c < length cores → HasRoom queued taken (slice_index_or cores c d)

-- a core after it took the front of this queue
abbrev pub core_took : CoreState → List Item → CoreState
core_took s [] = s
core_took s (Of kind b place ∷ q) = record { queue = q; taken = s.taken ++ Of kind b place ∷ []; hands = slice_set s.hands b (met (hand_in s b) kind place) }
core_took s (End ∷ q) = record { queue = q; taken = s.taken ++ End ∷ []; hands = map leave s.hands }

-- the cells that are free then
abbrev pub cells_freed : CoreState → List Item → ℕ
cells_freed s [] = 0
cells_freed s (Of kind b place ∷ q) = freed (hand_in s b) kind
cells_freed s (End ∷ q) = 0

-- the front of the queue can be met
abbrev pub CanTake : WorkerCore → List Item → Type 0
CanTake core [] = ⊥
CanTake core (Of kind b place ∷ q) = (b < length core.duties.items) × ((d : Duty) → CanMeet (slice_index_or core.duties.items b d) kind place)
CanTake core (End ∷ q) = Unit {0}
