-- All packets of a capture in one table.
use Rattle.std.specs.Prelude.{◌≡◌, ℕ, List, length, false, IsSome, Option, None, IfSome}
use Rattle.packet_fields.specs.declared.packet.PacketInfo.{PacketInfo}
use Rattle.pcap_reader.specs.StreamEnd as stream
use Rattle.pcap_reader.specs.StreamEnd.{EndsStream}
use Rattle.bucket_table.specs.Table.{TableOf, StandsFor}
use Rattle.dispatch_loop.specs.Packets.{ArePackets}

-- these are the packets of a whole capture, where its bytes are told
abbrev pub AreAll : ℕ → Option (List ℕ) → List PacketInfo → Type 0
AreAll limit left packets = IfSome left (λ bytes. EndsStream limit bytes stream.Whole × ArePackets limit bytes packets)

-- a core has the table while its packets come: it has done them, and stands for them unless memory was refused
pub record IsFilling {S : Type 0} (opening : S) (after : S → PacketInfo → S) (packets : List PacketInfo) (table : TableOf S) : Type 0 where
  pub bucket : table.bucket ≡ 0
  pub held : IsSome table.custody
  pub done : table.done ≡ length packets
  pub stands : table.short ≡ false → StandsFor opening after packets table

-- the table of the only bucket, which no core has any more, stands for these packets
pub record IsOneTable {S : Type 0} (opening : S) (after : S → PacketInfo → S) (packets : List PacketInfo) (table : TableOf S) : Type 0 where
  pub bucket : table.bucket ≡ 0
  pub free : table.custody ≡ None
  pub whole : table.short ≡ false
  pub stands : StandsFor opening after packets table
