-- A dispatcher and its ends on one thread, as a test holds them.
use Rattle.std.specs.Prelude.{◌≡◌, ◌<◌, List, map, drop, Option, Some, None}
use Rattle.rss_base.specs.Memory.{Feed}
use Rattle.flow_work.specs.declared.count.Counted.{Counted}
use Rattle.flow_work.specs.Count.{no_packets, counted}
use Rattle.bucket_table.specs.Table.{TableOf}
use Rattle.pcap_reader.specs.Reading.{Reading}
use Rattle.core_queue.specs.Local.{LocalState}
use Rattle.handover_words.specs.declared.history.ShelfHistory.{ShelfHistory}
use Rattle.handover_words.specs.ShelfHistory.{claimed_at}
use Rattle.handover_words.specs.LocalShelf.{LocalView}
use Rattle.handover_words.specs.Stands.{IsTableOf}
use Rattle.load_meter.specs.LocalMeter.{MeterState}
use Rattle.dispatch_loop.specs.DispatcherState.{DispatcherState}
use Rattle.dispatch_loop.specs.Past.{Past}
use Rattle.dispatch_loop.specs.Tied.{Tied}

-- the table in hand is the one that was claimed, of a bucket of the run
pub record IsClaimed (e : ShelfHistory) (table : TableOf Counted) : Type 0 where
  pub range : table.bucket < e.buckets
  pub claim : claimed_at table.bucket e ≡ Some table.done
  pub is : IsTableOf no_packets counted None e.key e.buckets table.bucket table.done table

abbrev pub InHand : ShelfHistory → Option (TableOf Counted) → Type 0
InHand e None = Unit {0}
InHand e (Some table) = IsClaimed e table

-- the dispatcher is tied to its ends
pub record IsRig (d : DispatcherState) (lanes : List LocalState) (shelf : LocalView (TableOf Counted)) (meter : MeterState) (reader : Reading) (source : Feed) (held : Option (TableOf Counted)) : Type 0 where
  pub tied : (p : Past) × Tied None p d (map (λ (l : LocalState). l.history) lanes) shelf.history meter.history reader (Some (drop source.given source.all))
  pub hand : InHand shelf.history held
