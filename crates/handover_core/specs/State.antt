-- The state of the handover machine.
use Rattle.std.specs.Prelude.{ℕ, List, [], map, take, count_by, slice_index_or, slice_set, replicate, length, ◌==◌, Some, None}
use Rattle.handover_core.specs.declared.item.Item.{Item}
use Rattle.handover_core.specs.declared.bucket_state.BucketState.{BucketState}
use Rattle.handover_core.specs.declared.post.Post.{Post}

-- what a core does with a bucket: nothing; it has parked the packets of these places; it holds the table, claimed at `start`; it is to release it
pub data Hand : Type 0 where
  Away : Hand
  Waiting : (places : List ℕ) → Hand
  Held : (start done : ℕ) → Hand
  Leaving : (start done : ℕ) → Hand

-- a core: its receive queue, what it took, and what it does with each bucket
pub record CoreState : Type 0 where
  pub queue : List Item
  pub taken : List Item
  pub hands : List Hand

-- the first three stay as they are: the bucket of each packet, the number of cells, and the number of moves at the start
pub record MachineView : Type 0 where
  pub packets : List ℕ
  pub pool : ℕ
  pub first_moves : ℕ
  pub sent : ℕ
  pub moves : ℕ
  pub free : ℕ
  pub claims : ℕ
  pub releases : ℕ
  pub dispatched : List Post
  pub buckets : List BucketState
  pub cores : List CoreState

-- what is read of a bucket that isn't there
abbrev pub blank_bucket : BucketState
blank_bucket = record { owner = 0; start = 0; seen = 0; word = 1; shelf = None }

-- what is read of a core that isn't there
abbrev pub blank_core : CoreState
blank_core = record { queue = []; taken = []; hands = [] }

-- a bucket of a state
abbrev pub bucket_at : MachineView → ℕ → BucketState
bucket_at m b = slice_index_or m.buckets b blank_bucket

-- a core of a state
abbrev pub core_at : MachineView → ℕ → CoreState
core_at m c = slice_index_or m.cores c blank_core

-- what a core does with a bucket
abbrev pub hand_in : CoreState → ℕ → Hand
hand_in core b = slice_index_or core.hands b Away

-- what a core of a state does with a bucket
abbrev pub hand_at : MachineView → ℕ → ℕ → Hand
hand_at m c b = hand_in (core_at m c) b

-- how many packets of a bucket were sent, which is the place of its next one
abbrev pub sent_of : MachineView → ℕ → ℕ
sent_of m b = count_by (λ x. x == b) (take m.sent m.packets)

-- a state with another entry for a bucket
abbrev pub set_bucket : MachineView → ℕ → BucketState → MachineView
set_bucket m b s = record m { buckets = slice_set m.buckets b s }

-- a state with another core
abbrev pub set_core : MachineView → ℕ → CoreState → MachineView
set_core m c s = record m { cores = slice_set m.cores c s }

-- a core with another hand for a bucket
abbrev pub set_hand : CoreState → ℕ → Hand → CoreState
set_hand s b h = record s { hands = slice_set s.hands b h }

-- all tables at home with nothing done, nothing sent, all cells free
abbrev pub first_state : List ℕ → ℕ → List ℕ → ℕ → ℕ → MachineView
first_state owners cores packets pool moves = record {
  packets = packets;
  pool = pool;
  first_moves = moves;
  sent = 0;
  moves = moves;
  free = pool;
  claims = 0;
  releases = 0;
  dispatched = [];
  buckets = map (λ o. record { owner = o; start = 0; seen = 0; word = 1; shelf = Some 0 }) owners;
  cores = replicate cores (record { queue = []; taken = []; hands = replicate (length owners) Away });
}
