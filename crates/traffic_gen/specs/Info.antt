-- The fields of generated packets.
use Rattle.std.specs.Prelude.{ℕ}
use Rattle.rss_base.specs.declared.link.Link.TheVariants.{Ethernet}
use Rattle.packet_fields.specs.declared.packet.PacketInfo.{PacketInfo}
use Rattle.packet_fields.specs.Frame.{fields_of}
use Rattle.traffic_gen.specs.Packet.{length_of, frame_of}
use Rattle.traffic_gen.specs.Traffic.{nanos_of}

-- the fields of the packet at an index: those of what is captured of it
abbrev pub info_of : ℕ → ℕ → PacketInfo
info_of number index = fields_of Ethernet (frame_of number index) (nanos_of index) (length_of index)
