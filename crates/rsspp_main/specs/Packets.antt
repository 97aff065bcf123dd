-- The packets of a pcapng input as the records of a classic capture (draft-ietf-opsawg-pcap, "Packet Record").
use Rattle.std.specs.Prelude.{◌<◌, ◌==◌, ℕ, List, All, map, if◌then◌else◌}
use Rattle.rss_base.specs.declared.link.Link.{Link}
use Rattle.rss_base.specs.declared.link.Link.TheVariants.{Ethernet, Raw}
use Rattle.pcap_reader.specs.Capture.{Captured}
use Rattle.pcapng_reader.specs.Blocks.{Packet, story_of}

-- these numbers are bytes
abbrev pub AreBytes : List ℕ → Type 0
AreBytes bytes = All (λ b. b < 256) bytes

-- what the frames of a link begin with: a packet's link is Ethernet (1) or raw IP (101)
abbrev pub link_type : ℕ → Link
link_type link = if link == 101 then Raw else Ethernet

-- a packet as a record: the same time, length on the wire and captured bytes
abbrev pub captured_of_packet : Packet → Captured
captured_of_packet packet = record { link = link_type packet.link; nanos = packet.nanos; original = packet.original; bytes = packet.bytes }

-- the packets that stand in the blocks of these bytes before the first break, as records
abbrev pub packets_of : List ℕ → List Captured
packets_of bytes = map captured_of_packet (story_of bytes).packets
