-- A capture of one packet, and its report.
use Rattle.std.specs.Prelude.{ℕ, List, [], ◌∷◌, ◌++◌, codes}
use Rattle.packet_fields.specs.declared.key.Class.TheVariants.{Tcp}
use Rattle.packet_fields.specs.declared.packet.PacketInfo.{PacketInfo}

-- a TCP segment that opens a connection (RFC 9293, section 3.1: SYN), from port 1024 of 10.0.0.0 to port 80 of 192.168.0.1, of 60 bytes on the wire
abbrev pub one_packet : PacketInfo
one_packet = record {
  key = record { class = Tcp; source = 0x0a00_0000; destination = 0xc0a8_0001; source_port = 1024; destination_port = 80; protocol = 6 };
  nanos = 0;
  original = 60;
  flags = 0x02;
}

-- the words that ask for a report in threads, without options
abbrev pub report_words : List (List ℕ)
report_words = codes "report" ∷ []

-- the report of the one packet
abbrev pub one_packet_report : List ℕ
one_packet_report =
    codes "tcp 10.0.0.0:1024 > 192.168.0.1:80 packets 1 bytes 60" ++ (10 ∷ (codes "total flows 1 packets 1 bytes 60" ++ 10 ∷ []))
