-- A dispatcher and its ends, as a test holds them.
use Rattle.std.specs.Prelude.{List, Option, map, drop, Some}
use Rattle.packet_fields.specs.declared.packet.PacketInfo.{PacketInfo}
use Rattle.rss_base.specs.Memory.{Feed}
use Rattle.pcap_reader.specs.Reading.{Reading}
use Rattle.core_queue.specs.RuledLane.{AtLane}
use Rattle.handover_words.specs.WordShelf.{AtShelf}
use Rattle.load_meter.specs.Meter.{AtMeter}
use Rattle.dispatch_loop.specs.DispatcherState.{DispatcherState}
use Rattle.dispatch_loop.specs.Past.{Past}
use Rattle.dispatch_loop.specs.Tied.{Tied}

-- the dispatcher is tied to its ends
pub record IsDispatcherParty (packets : Option (List PacketInfo)) (d : DispatcherState) (lanes : List AtLane) (shelf : AtShelf) (meter : AtMeter) (reader : Reading) (source : Feed) : Type 0 where
  pub tied : (p : Past) × Tied packets p d (map (λ (a : AtLane). a.history) lanes) shelf.history meter.history reader (Some (drop source.given source.all))
