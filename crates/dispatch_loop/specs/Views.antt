-- A dispatcher in memory as contracts see it.
use Rattle.std.specs.Prelude.{◌≡◌, ◌≤◌, ◌<◌, ◌*◌, ℕ, Bool, true, false, length, drop, slice_index, Option, Some, None}
use Rattle.packet_fields.specs.declared.packet.PacketInfo.{PacketInfo}
use Rattle.flow_work.specs.declared.work.TheConstants.{MOST_COST, MOST_PACKETS}
use Rattle.indirection.specs.declared.limits.TheConstants.{MOST_BUCKETS, MOST_CORES}
use Rattle.indirection.specs.Rounds.{AwaitOutcome}
use Rattle.indirection.specs.Tries.{ask_bucket, ask_to}
use Rattle.dispatch_loop.specs.declared.asked.Asked.{Asked}
use Rattle.dispatch_loop.specs.declared.asked.Asked.TheVariants.{Proposal, Order}
use Rattle.dispatch_loop.specs.declared.limits.TheConstants.{MOST_LIMIT, MOST_ORDERS}
use Rattle.dispatch_loop.specs.Asked.{ask_of}
use Rattle.dispatch_loop.specs.declared.state.State.{State}
use Rattle.dispatch_loop.specs.DispatcherState.{DispatcherView, DispatcherState, dispatcher_state_by}
use Rattle.dispatch_loop.specs.Asks.{RiseFrom}

abbrev pub is_some : {A : Type 0} → Option A → Bool
is_some None = false
is_some (Some a) = true

abbrev pub view_of : {B : Type 0} → State B → DispatcherView
view_of s = record {
  key = s.key;
  start = s.journal.start;
  moves = s.orders.moves.items;
  round = s.rounds.length;
  limit = s.rounds.limit;
  policy = s.rounds.name;
  packets = s.packets;
  owners = s.routing.table.owners;
  starts = s.routing.starts.items;
  counts = s.routing.counts.items;
  sent = s.routing.sent;
  sent_to = s.routing.sent_to.items;
  loads = s.rounds.loads.bucket;
  since = s.rounds.since;
  proposals = drop s.rounds.tried s.rounds.proposals.items;
  orders = drop s.orders.tried s.orders.moves.items;
  journal = s.journal;
  short = s.rounds.short;
  held = s.held;
  spare = is_some s.spare;
  end = s.end;
  ends = s.ends;
}

-- its state, by what a packet costs under its work
abbrev pub dispatcher_state : {B : Type 0} → (PacketInfo → ℕ) → State B → DispatcherState
dispatcher_state cost s = dispatcher_state_by cost (view_of s)

-- what a round of this dispatcher weighs is within the limits
pub record CanWeigh {B : Type 0} (s : State B) : Type 0 where
  pub cores_wide : length s.routing.sent_to.items ≡ s.journal.start.cores
  pub owners_wide : length s.routing.table.owners ≡ length s.journal.start.owners
  pub loads_wide : length s.rounds.loads.bucket ≡ length s.journal.start.owners
  pub sent : (c : ℕ) → slice_index s.routing.sent_to.items c ≤ MOST_COST * MOST_PACKETS
  pub loads : (b : ℕ) → slice_index s.rounds.loads.bucket b ≤ MOST_COST * MOST_PACKETS
  pub limit : s.rounds.limit ≤ MOST_LIMIT
  pub cores : s.journal.start.cores ≤ MOST_CORES
  pub buckets : length s.journal.start.owners ≤ MOST_BUCKETS

-- the positions of the orders that weren't tried yet rise, from this one on
abbrev pub CanAsk : {B : Type 0} → State B → Type 0
CanAsk s = RiseFrom s.routing.sent (drop s.orders.tried s.orders.moves.items)

-- what came of it can be written into the journal
abbrev pub CanNote : {B : Type 0} → State B → Asked → Type 0
CanNote s (Proposal p) = AwaitOutcome s.journal.entries × (s.rounds.tried < MOST_LIMIT)
CanNote s (Order m) = (0 < s.journal.room) × (s.orders.tried < MOST_ORDERS)

-- a bucket and a core of the run are asked for, there are lanes and words for them, and what comes of it can be noted
pub record CanTry {B : Type 0} (s : State B) (a : Asked) (n w : ℕ) : Type 0 where
  pub note : CanNote s a
  pub bucket : ask_bucket (ask_of 0 a) < length s.journal.start.owners
  pub to : ask_to (ask_of 0 a) < s.journal.start.cores
  pub owners_wide : length s.routing.table.owners ≡ length s.journal.start.owners
  pub starts_wide : length s.routing.starts.items ≡ length s.journal.start.owners
  pub counts_wide : length s.routing.counts.items ≡ length s.journal.start.owners
  pub lanes : n ≡ s.journal.start.cores
  pub words : w ≡ length s.journal.start.owners

-- one more packet can be counted, and there is a lane for each core
pub record CanCount {B : Type 0} (s : State B) (n : ℕ) : Type 0 where
  pub owners_wide : length s.routing.table.owners ≡ length s.journal.start.owners
  pub starts_wide : length s.routing.starts.items ≡ length s.journal.start.owners
  pub counts_wide : length s.routing.counts.items ≡ length s.journal.start.owners
  pub cores_wide : length s.routing.sent_to.items ≡ s.journal.start.cores
  pub loads_wide : length s.rounds.loads.bucket ≡ length s.journal.start.owners
  pub lanes : n ≡ s.journal.start.cores
  pub counts : (b : ℕ) → slice_index s.routing.counts.items b ≤ s.routing.sent
  pub sent_to : (c : ℕ) → slice_index s.routing.sent_to.items c ≤ MOST_COST * s.routing.sent
  pub loads : (b : ℕ) → slice_index s.rounds.loads.bucket b ≤ MOST_COST * s.rounds.since
  pub since : s.rounds.since ≤ s.routing.sent
  pub sent : s.routing.sent < MOST_PACKETS
