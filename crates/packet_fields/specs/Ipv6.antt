-- The fields of an IPv6 packet (RFC 8200, section 3), and of the TCP or UDP header right behind its header. Extension headers (section 4) aren't read: they are what Next Header names.
use Rattle.std.specs.Prelude.{◌==◌, ◌&&◌, nat_le, ℕ, ◌+◌, ◌/◌, min, Bool, List, length, slice_index, if◌then◌else◌}
use Rattle.packet_fields.specs.declared.key.Class.{Class}
use Rattle.packet_fields.specs.declared.key.Class.TheVariants.{Tcp6, Udp6, Ip6}
use Rattle.packet_fields.specs.declared.key.FlowKey.{FlowKey}
use Rattle.packet_fields.specs.Wire.{u16_at, u128_at}

-- a whole header of version 6 stands there
abbrev pub is_ipv6 : List ℕ → Bool
is_ipv6 p = nat_le 40 (length p) && (slice_index p 0 / 16 == 6)

-- how many of the captured bytes belong to the packet (Payload Length; one of 0, as a jumbogram has by RFC 2675, doesn't tell it)
abbrev pub ipv6_length : List ℕ → ℕ
ipv6_length p = if u16_at 4 p == 0 then length p else min (40 + u16_at 4 p) (length p)

abbrev pub next_header : List ℕ → ℕ
next_header p = slice_index p 6

-- a whole TCP header stands behind the header (RFC 9293, section 3.1)
abbrev pub is_tcp6 : List ℕ → Bool
is_tcp6 p = (next_header p == 6) && nat_le (40 + 20) (ipv6_length p)

-- a whole UDP header stands behind the header (RFC 768)
abbrev pub is_udp6 : List ℕ → Bool
is_udp6 p = (next_header p == 17) && nat_le (40 + 8) (ipv6_length p)

-- the key of a packet with whole ports (Source Address, Destination Address)
abbrev pub key6_with_ports : Class → ℕ → List ℕ → FlowKey
key6_with_ports class number p =
    record { class = class; source = u128_at 8 p; destination = u128_at 24 p; source_port = u16_at 40 p; destination_port = u16_at 42 p; protocol = number }

-- the key of any other packet
abbrev pub key6_without_ports : List ℕ → FlowKey
key6_without_ports p =
    record { class = Ip6; source = u128_at 8 p; destination = u128_at 24 p; source_port = 0; destination_port = 0; protocol = next_header p }

abbrev pub ipv6_key : List ℕ → FlowKey
ipv6_key p =
    if is_tcp6 p then key6_with_ports Tcp6 6 p
    else (if is_udp6 p then key6_with_ports Udp6 17 p else key6_without_ports p)

-- the control bits of a TCP header (RFC 9293, section 3.1), 0 where there is none
abbrev pub tcp6_flags : List ℕ → ℕ
tcp6_flags p = if is_tcp6 p then slice_index p (40 + 13) else 0
