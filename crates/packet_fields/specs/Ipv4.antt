-- The fields of an IPv4 packet (RFC 791, section 3.1), and of the TCP or UDP header in it.
use Rattle.std.specs.Prelude.{◌==◌, ◌&&◌, ◌||◌, nat_lt, nat_le, not, ℕ, ◌+◌, ◌*◌, ◌/◌, ◌%◌, min, Bool, List, length, slice_index, bit_and, if◌then◌else◌}
use Rattle.packet_fields.specs.declared.key.Class.{Class}
use Rattle.packet_fields.specs.declared.key.Class.TheVariants.{Tcp, Udp, Ip}
use Rattle.packet_fields.specs.declared.key.FlowKey.{FlowKey}
use Rattle.packet_fields.specs.Wire.{u16_at, u32_at}

-- the length of the header in bytes (IHL counts words of four bytes)
abbrev pub header_length : List ℕ → ℕ
header_length p = 4 * (slice_index p 0 % 16)

-- a whole header of version 4 stands there, of 20 bytes or more (Version, IHL)
abbrev pub is_ipv4 : List ℕ → Bool
is_ipv4 p =
    nat_lt 0 (length p) && (slice_index p 0 / 16 == 4) && nat_le 20 (header_length p) && nat_le (header_length p) (length p)

-- how many of the captured bytes belong to the packet (Total Length; one that is shorter than the header is not believed)
abbrev pub ip_length : List ℕ → ℕ
ip_length p = if nat_lt (u16_at 2 p) (header_length p) then length p else min (u16_at 2 p) (length p)

-- the packet is a part of a larger one: the bit 2000 says that more of it follow, and the bits 1fff are the offset (Flags, Fragment Offset)
abbrev pub is_fragment : List ℕ → Bool
is_fragment p = not (bit_and (u16_at 6 p) 0x2000 == 0) || not (bit_and (u16_at 6 p) 0x1fff == 0)

abbrev pub protocol : List ℕ → ℕ
protocol p = slice_index p 9

-- protocol 6, and a whole TCP header of 20 bytes or more stands behind the header (RFC 9293, section 3.1)
abbrev pub is_tcp : List ℕ → Bool
is_tcp p = (protocol p == 6) && not (is_fragment p) && nat_le (header_length p + 20) (ip_length p)

-- protocol 17, and a whole UDP header of 8 bytes stands behind the header (RFC 768)
abbrev pub is_udp : List ℕ → Bool
is_udp p = (protocol p == 17) && not (is_fragment p) && nat_le (header_length p + 8) (ip_length p)

-- the key of a packet with whole ports
abbrev pub key_with_ports : Class → ℕ → List ℕ → FlowKey
key_with_ports class number p =
    record { class = class; source = u32_at 12 p; destination = u32_at 16 p; source_port = u16_at (header_length p) p; destination_port = u16_at (header_length p + 2) p; protocol = number }

-- the key of any other packet
abbrev pub key_without_ports : List ℕ → FlowKey
key_without_ports p =
    record { class = Ip; source = u32_at 12 p; destination = u32_at 16 p; source_port = 0; destination_port = 0; protocol = protocol p }

abbrev pub ipv4_key : List ℕ → FlowKey
ipv4_key p =
    if is_tcp p then key_with_ports Tcp 6 p
    else (if is_udp p then key_with_ports Udp 17 p else key_without_ports p)

-- the control bits of a TCP header, its byte 13 (RFC 9293, section 3.1), 0 where there is none
abbrev pub tcp_flags : List ℕ → ℕ
tcp_flags p = if is_tcp p then slice_index p (header_length p + 13) else 0
