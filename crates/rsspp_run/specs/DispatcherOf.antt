-- How the dispatcher of a serial run stands to the machine.
use Rattle.std.specs.Prelude.{◌≡◌, ◌≢◌, ◌<◌, ◌≤◌, ◌+◌, ◌-◌, ℕ, List, [], ◌∷◌, if◌then◌else◌, length, map, false, Option, Some, None, nat_lt, slice_index, slice_get}
use Rattle.packet_fields.specs.declared.packet.PacketInfo.{PacketInfo}
use Rattle.pcap_reader.specs.Reading.{Reading}
use Rattle.indirection.specs.Tries.{Ask, ask_bucket, ask_to}
use Rattle.indirection.specs.Story.{Parcel}
use Rattle.indirection.specs.Due.{TryDue}
use Rattle.handover_words.specs.Stock.{stock}
use Rattle.dispatch_loop.specs.Asks.{due_now}
use Rattle.dispatch_loop.specs.Does.{bucket_for}
use Rattle.handover_core.specs.State.{MachineView, bucket_at, sent_of}
use Rattle.handover_core.specs.Machine.{end_sent, end_sent_to}
use Rattle.dispatch_loop.specs.Terms.{cores_of, buckets_of}
use Rattle.dispatch_loop.specs.DispatcherState.{DispatcherState}
use Rattle.dispatch_loop.specs.Past.{parcel_of}
use Rattle.dispatch_loop.specs.DispatcherSnapshot as dispatchers
use Rattle.dispatch_loop.specs.DispatcherSnapshot.{Outs, outs}
use Rattle.packet_pool.specs.PoolHistory.{store}
use Rattle.rsspp_run.specs.LocalRun.{LocalRunView, history_of, now_of}

-- how many buckets had packets since their newest stint began
abbrev pub fresh_in : List ℕ → List ℕ → ℕ
fresh_in [] ks = 0
fresh_in (s ∷ ss) [] = 0
fresh_in (s ∷ ss) (k ∷ ks) = (if nat_lt s k then 1 else 0) + fresh_in ss ks

-- what it keeps of buckets and Ends is the machine's, it keeps no cell, and a move is left for each bucket that may be moved now, and for each packet that comes
pub record IsDispatcherOf (m : MachineView) (d : DispatcherState) : Type 0 where
  pub cores : length m.cores ≡ cores_of d.terms
  pub buckets : length m.buckets ≡ buckets_of d.terms
  pub wide_owners : length d.owners ≡ length m.buckets
  pub wide_starts : length d.starts ≡ length m.buckets
  pub wide_counts : length d.counts ≡ length m.buckets
  pub sent : m.sent ≡ d.sent
  pub owners : (b : ℕ) → b < length m.buckets → (bucket_at m b).owner ≡ slice_index d.owners b
  pub starts : (b : ℕ) → b < length m.buckets → (bucket_at m b).start ≡ slice_index d.starts b
  pub counts : (b : ℕ) → b < length m.buckets → sent_of m b ≡ slice_index d.counts b
  pub ends : (c : ℕ) → c < length m.cores → end_sent_to m c ≡ nat_lt c d.ends
  pub ending : end_sent m ≡ nat_lt 0 d.ends
  pub spare : d.spare ≡ false
  pub moves : fresh_in d.starts d.counts + (length m.packets - m.sent) ≤ m.moves

-- the lanes and the pool as the dispatcher's clauses see them
abbrev pub outs_of : {T : Type 0} → LocalRunView T → Outs
outs_of f = outs (map history_of f.lanes) (map now_of f.lanes) f.pool.history (Some (store f.pool.cells f.pool.room))

-- what a turn of the dispatcher leaves of the local run, where it only sends
pub record IsSending {T : Type 0} (f f' : LocalRunView T) : Type 0 where
  pub key : f'.key ≡ f.key
  pub workers : f'.workers ≡ f.workers
  pub shelf : f'.shelf ≡ f.shelf
  pub meter : f'.meter ≡ f.meter

-- the dispatcher's snapshot over the local run
abbrev pub dispatcher_snapshot_over : {T : Type 0} → DispatcherState → LocalRunView T → Reading → Option (List ℕ) → ℕ → dispatchers.DispatcherSnapshot T
dispatcher_snapshot_over d f reader left faults = dispatchers.dispatcher_snapshot d (outs_of f) f.shelf.history (Some (stock f.shelf.words f.shelf.homes)) f.meter.history (Some f.meter.loads) reader left faults

-- what the dispatcher may be asked, and that no End was sent while anything is to be tried
pub record IsReady (m : MachineView) (d : DispatcherState) : Type 0 where
  pub asks : (a : Ask) → due_now d ≡ TryDue a → (ask_bucket a < length m.buckets) × (ask_to a < length m.cores) × (d.ends ≡ 0)
  pub buckets : (p : PacketInfo) → bucket_for d p < length m.buckets

-- the packets of the run go on with the one that the dispatcher holds, and where the stream has ended there is none
pub record HoldsNext (m : MachineView) (parcels : List Parcel) (d : DispatcherState) : Type 0 where
  pub next : (p : PacketInfo) → d.held ≡ Some p → (m.sent < length m.packets) × (slice_index m.packets m.sent ≡ bucket_for d p) × (slice_get parcels m.sent ≡ Some (parcel_of d.terms p))
  pub no_ends : (p : PacketInfo) → d.held ≡ Some p → d.ends ≡ 0
  pub none : d.held ≡ None → d.end ≢ None → (m.sent ≡ length m.packets) × (slice_get parcels m.sent ≡ None)
