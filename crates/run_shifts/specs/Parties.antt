-- What the parties of a run share, and the dispatcher's party, as contracts see them.
use Rattle.std.specs.Prelude.{◌≡◌, ℕ, List, map, Option, Some, None}
use Rattle.pcap_reader.specs.Reading.{Reading}
use Rattle.core_queue.specs.RuledLane.{SharedLane, AtLane}
use Rattle.handover_words.specs.WordShelf.{SharedShelf, AtShelf}
use Rattle.packet_pool.specs.RuledPool.{SharedPool, AtPool}
use Rattle.load_meter.specs.Meter.{SharedMeter, AtMeter}
use Rattle.packet_fields.specs.declared.packet.PacketInfo.{PacketInfo}
use Rattle.dispatch_loop.specs.DispatcherState.{DispatcherState, DispatcherView, dispatcher_state_by}
use Rattle.dispatch_loop.specs.DispatcherSnapshot.{DispatcherSnapshot, outs, dispatcher_snapshot}

-- the lane of each core, the shelf, the pool and the meter
pub record SharedView : Type 0 where
  pub lanes : List SharedLane
  pub shelf : SharedShelf
  pub pool : SharedPool
  pub meter : SharedMeter

-- a dispatcher, its reader and its ends
pub record DispatcherPartyState : Type 0 where
  pub state : DispatcherState
  pub reader : Reading
  pub lanes : List AtLane
  pub shelf : AtShelf
  pub pool : AtPool
  pub meter : AtMeter

-- the same, but for what a packet costs, which the dispatcher's type says
pub record DispatcherPartyView : Type 0 where
  pub dispatcher : DispatcherView
  pub reader : Reading
  pub lanes : List AtLane
  pub shelf : AtShelf
  pub pool : AtPool
  pub meter : AtMeter

abbrev pub party_state_by : (PacketInfo → ℕ) → DispatcherPartyView → DispatcherPartyState
party_state_by cost d = record { state = dispatcher_state_by cost d.dispatcher; reader = d.reader; lanes = d.lanes; shelf = d.shelf; pool = d.pool; meter = d.meter }

-- a dispatcher with ends that tell nothing of what their objects hold, with what its source tells
abbrev pub party_snapshot : {T : Type 0} → DispatcherPartyState → Option (List ℕ) → ℕ → DispatcherSnapshot T
party_snapshot d left faults = dispatcher_snapshot d.state (outs (map (λ (e : AtLane). e.history) d.lanes) (map (λ (e : AtLane). None) d.lanes) d.pool.history None) d.shelf.history None d.meter.history None d.reader left faults

-- the ends are of the same objects
pub record SameEnds (d d' : DispatcherPartyState) : Type 0 where
  pub lanes : map (λ (e : AtLane). Some e.home) d'.lanes ≡ map (λ (e : AtLane). Some e.home) d.lanes
  pub shelf : d'.shelf.home ≡ d.shelf.home
  pub pool : d'.pool.home ≡ d.pool.home
  pub meter : d'.meter.home ≡ d.meter.home
