-- What a machine in memory stands for.
use Rattle.std.specs.Prelude.{◌≡◌, ℕ, ◌+◌, ◌≤◌, ◌<◌, false, map, length, slice_index, slice_index_or, vec_capacity}
use Rattle.handover_core.specs.declared.machine.Machine.TheInside.{Inside}
use Rattle.handover_core.specs.State.{MachineView, sent_of}
use Rattle.handover_core.specs.Machine.{end_sent, end_sent_to}
use Rattle.handover_core.specs.Sound.{IsSound}
use Rattle.handover_core.specs.Cores.{core_state, HaveRoom}

-- the state that a machine in memory stands for
abbrev pub state_of : Inside → MachineView
state_of i = record {
  packets = i.packets.items;
  pool = i.pool;
  first_moves = i.first_moves;
  sent = i.sent;
  moves = i.moves;
  free = i.free;
  claims = i.claims;
  releases = i.releases;
  dispatched = i.dispatched.items;
  buckets = i.buckets.items;
  cores = map core_state i.cores.items;
}

-- how many items can be sent in all
abbrev pub most_items : Inside → ℕ
most_items i = length i.packets.items + i.first_moves + length i.cores.items

-- its state is sound; it knows how many packets of each bucket were sent, and whether an End was sent, at all and to each core; and there is room for all that comes
pub record IsMachine (i : Inside) : Type 0 where
  pub sound : IsSound (state_of i)
  pub counts : (b : ℕ) → b < length i.buckets.items → slice_index i.sent_of.items b ≡ sent_of (state_of i) b
  pub counted : length i.sent_of.items ≡ length i.buckets.items
  pub ending : i.ending ≡ end_sent (state_of i)
  pub ends : (c : ℕ) → c < length i.cores.items → slice_index_or i.ends.items c false ≡ end_sent_to (state_of i) c
  pub ended : length i.ends.items ≡ length i.cores.items
  pub moved : i.moves ≤ i.first_moves
  pub moves : i.first_moves ≤ length i.packets.items
  pub room : most_items i ≤ vec_capacity i.dispatched
  pub rooms : HaveRoom (i.pool + 1) (most_items i) i.cores.items
  pub few_cores : length i.cores.items < 256
  pub few_buckets : length i.buckets.items < 65536
  pub few_cells : i.pool < 65536
