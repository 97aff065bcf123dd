-- The packets of a capture.
use Rattle.std.specs.Prelude.{◌≡◌, ℕ, List, map, take, Option, None, Some, Result, Ok, Err}
use Rattle.packet_fields.specs.declared.packet.PacketInfo.{PacketInfo}
use Rattle.packet_fields.specs.Frame.{fields_of}
use Rattle.pcap_reader.specs.declared.fault.ReadError.{ReadError}
use Rattle.pcap_reader.specs.Capture.{Captured, Ending, Reads}

-- the packet of a record: the fields of its frame
abbrev pub packet_of : Captured → PacketInfo
packet_of r = fields_of r.link r.bytes r.nanos r.original

-- these are the packets of a capture under a limit: those of its first whole records, at most so many. The bytes and the limit have exactly one such list
abbrev pub ArePackets : ℕ → List ℕ → List PacketInfo → Type 0
ArePackets limit bytes packets = (records : List Captured) × (ending : Ending) × Reads bytes records ending × (packets ≡ take limit (map packet_of records))

-- an answer of the reader, with its record's packet
abbrev pub packet_answer : Result (Option Captured) ReadError → Result (Option PacketInfo) ReadError
packet_answer (Ok None) = Ok None
packet_answer (Ok (Some r)) = Ok (Some (packet_of r))
packet_answer (Err e) = Err e
