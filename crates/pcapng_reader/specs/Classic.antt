-- The classic capture that holds the packets of a pcapng capture (draft-ietf-opsawg-pcap).
use Rattle.std.specs.Prelude.{ℕ, ◌/◌, ◌%◌, ◌==◌, ◌&&◌, not, nat_lt, Bool, List, [], ◌∷◌, ◌++◌, length, Option, None, if◌then◌else◌}
use Rattle.byteorder.specs.Endian.{little_bytes}
use Rattle.pcapng_reader.specs.declared.byte_order.ByteOrder.TheVariants.{Big}
use Rattle.pcapng_reader.specs.declared.fault.NgBreak.{NgBreak}
use Rattle.pcapng_reader.specs.Numbers.{number_at}
use Rattle.pcapng_reader.specs.Blocks.{Packet, story_of}

-- the header of a little-endian capture of nanoseconds, version 2.4, snap length 262,144, for frames of a link ("File Header")
abbrev pub classic_header : ℕ → List ℕ
classic_header link =
    little_bytes 4 0xa1b2_3c4d ++ (little_bytes 2 2 ++ (little_bytes 2 4 ++ (little_bytes 4 0 ++ (little_bytes 4 0 ++ (little_bytes 4 262_144 ++ little_bytes 4 link)))))

-- the header of a record ("Packet Record")
abbrev pub record_header : ℕ → ℕ → ℕ → List ℕ
record_header nanos captured original =
    little_bytes 4 (nanos / 1_000_000_000) ++ (little_bytes 4 (nanos % 1_000_000_000) ++ (little_bytes 4 captured ++ little_bytes 4 original))

abbrev pub record_text : Packet → List ℕ
record_text packet = record_header packet.nanos (length packet.bytes) packet.original ++ packet.bytes

-- the records of packets
abbrev pub records_text : List Packet → List ℕ
records_text [] = []
records_text (p ∷ ps) = record_text p ++ records_text ps

-- the link of a capture: that of its first packet, and Ethernet (1) where it has none
abbrev pub link_of : List Packet → ℕ
link_of [] = 1
link_of (p ∷ ps) = p.link

-- the classic capture of packets
abbrev pub classic : List Packet → List ℕ
classic packets = classic_header (link_of packets) ++ records_text packets

-- the input begins with the block type of a section header
abbrev pub is_pcapng : List ℕ → Bool
is_pcapng bytes = not (nat_lt (length bytes) 4) && number_at Big 4 0 bytes == 0x0a0d_0d0a

-- the classic bytes that an input stands for: those of its packets before the first break, or its own where it isn't pcapng
abbrev pub classic_of : List ℕ → List ℕ
classic_of bytes = if is_pcapng bytes then classic (story_of bytes).packets else bytes

-- the first break of an input that is pcapng
abbrev pub break_of : List ℕ → Option NgBreak
break_of bytes = if is_pcapng bytes then (story_of bytes).broken else None
