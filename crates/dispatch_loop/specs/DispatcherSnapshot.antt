-- A dispatcher with its ends and its reader.
use Rattle.std.specs.Prelude.{ℕ, List, Option, map}
use Rattle.rss_base.specs.declared.source.Source as sources
use Rattle.packet_pool.specs.declared.history.PoolHistory.{PoolHistory}
use Rattle.packet_pool.specs.declared.pool.Pool as pools
use Rattle.packet_pool.specs.PoolHistory.{Store}
use Rattle.core_queue.specs.declared.history.LaneHistory.{LaneHistory}
use Rattle.core_queue.specs.declared.lane.LaneEnd as lanes
use Rattle.core_queue.specs.LaneHistory.{Lane}
use Rattle.handover_words.specs.declared.history.ShelfHistory.{ShelfHistory}
use Rattle.handover_words.specs.declared.shelf.Shelf as shelves
use Rattle.handover_words.specs.Stock.{Stock}
use Rattle.load_meter.specs.declared.history.LoadHistory.{LoadHistory}
use Rattle.load_meter.specs.declared.load.LoadEnd as meters
use Rattle.pcap_reader.specs.Reading.{Reading}
use Rattle.dispatch_loop.specs.DispatcherState.{DispatcherState}

-- the ends that cells go through: what the lanes and the pool know, and what they hold where that is told
pub record Outs : Type 0 where
  pub lanes : List LaneHistory
  pub lanes_now : List (Option Lane)
  pub pool : PoolHistory
  pub pool_now : Option Store

abbrev pub outs : List LaneHistory → List (Option Lane) → PoolHistory → Option Store → Outs
outs l ln p pn = record { lanes = l; lanes_now = ln; pool = p; pool_now = pn }

-- a dispatcher; what its ends know, and what their objects hold where that is told; its reader, what the source has left, and how many reads of it failed
pub record DispatcherSnapshot (T : Type 0) : Type 0 where
  pub dispatcher : DispatcherState
  pub outs : Outs
  pub shelf : ShelfHistory
  pub shelf_now : Option (Stock T)
  pub meter : LoadHistory
  pub meter_now : Option (List ℕ)
  pub reader : Reading
  pub left : Option (List ℕ)
  pub faults : ℕ

abbrev pub dispatcher_snapshot : {T : Type 0} → DispatcherState → Outs → ShelfHistory → Option (Stock T) → LoadHistory → Option (List ℕ) → Reading → Option (List ℕ) → ℕ → DispatcherSnapshot T
dispatcher_snapshot f o v vn m mn r left faults = record { dispatcher = f; outs = o; shelf = v; shelf_now = vn; meter = m; meter_now = mn; reader = r; left = left; faults = faults }

-- these lanes and this pool, by what they tell
abbrev pub outs_with : {L P : Type 0} → lanes.Ghosts L → pools.Ghosts P → List L → P → Outs
outs_with l p lanes pool = outs (map l.history lanes) (map l.now lanes) (p.history pool) (p.now pool)

-- a dispatcher with these ends, its reader and its source, by what they tell
abbrev pub dispatcher_with : {T N L P H M S : Type 0} → lanes.Ghosts L → pools.Ghosts P → shelves.Ghosts H T N → meters.Ghosts M → sources.Ghosts S → DispatcherState → List L → P → H → M → Reading → S → DispatcherSnapshot T
dispatcher_with l p h m s d lanes pool shelf meter reader source =
    dispatcher_snapshot d (outs_with l p lanes pool) (h.history shelf) (h.now shelf) (m.history meter) (m.now meter) reader (s.left source) (s.faults source)
