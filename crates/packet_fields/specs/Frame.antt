-- The fields of a frame, by cases on its bytes.
use Rattle.std.specs.Prelude.{◌==◌, ◌&&◌, ◌||◌, nat_lt, nat_le, ℕ, ◌/◌, zero, suc, Bool, List, length, drop, slice_index, if◌then◌else◌}
use Rattle.rss_base.specs.declared.link.Link.{Link}
use Rattle.rss_base.specs.declared.link.Link.TheVariants.{Ethernet, Raw}
use Rattle.packet_fields.specs.declared.key.Class.TheVariants.{Other}
use Rattle.packet_fields.specs.declared.key.FlowKey.{FlowKey}
use Rattle.packet_fields.specs.declared.packet.PacketInfo.{PacketInfo}
use Rattle.packet_fields.specs.Wire.{u16_at}
use Rattle.packet_fields.specs.Ipv4.{is_ipv4, ipv4_key, tcp_flags}
use Rattle.packet_fields.specs.Ipv6.{is_ipv6, ipv6_key, tcp6_flags}

-- the type says that a VLAN tag stands there: 8100 (IEEE 802.1Q), or 88a8 for a service tag (IEEE 802.1ad)
abbrev pub is_tag : ℕ → Bool
is_tag kind = (kind == 0x8100) || (kind == 0x88a8)

-- the packet that a frame carries, by what the frame says of it
pub data Carried : Type 0 where
  Ipv4 : (packet : List ℕ) → Carried
  Ipv6 : (packet : List ℕ) → Carried
  Nothing : Carried

-- the packet of a type (RFC 894; RFC 2464, section 3)
abbrev pub of_type : ℕ → List ℕ → Carried
of_type kind packet = if kind == 0x0800 then Ipv4 packet else (if kind == 0x86dd then Ipv6 packet else Nothing)

-- the packet behind a type field; at most so many tags of four bytes may stand before it
abbrev pub behind_type : ℕ → List ℕ → Carried
behind_type zero bytes = if nat_le 2 (length bytes) then of_type (u16_at 0 bytes) (drop 2 bytes) else Nothing
behind_type (suc tags) bytes =
    if nat_le 2 (length bytes) && is_tag (u16_at 0 bytes) then behind_type tags (drop 4 bytes)
    else (if nat_le 2 (length bytes) then of_type (u16_at 0 bytes) (drop 2 bytes) else Nothing)

-- the packet whose first four bits are this version (RFC 791, section 3.1; RFC 8200, section 3)
abbrev pub of_version : ℕ → List ℕ → Carried
of_version version packet = if version == 4 then Ipv4 packet else (if version == 6 then Ipv6 packet else Nothing)

-- the packet in a frame: behind a header of two addresses of six bytes and a type (IEEE 802.3; RFC 894), or the whole frame
abbrev pub carried : Link → List ℕ → Carried
carried Ethernet frame = if nat_le 14 (length frame) then behind_type 2 (drop 12 frame) else Nothing
carried Raw frame = if nat_lt 0 (length frame) then of_version (slice_index frame 0 / 16) frame else Nothing

-- the key of a packet that isn't read: every field is 0
abbrev pub other_key : FlowKey
other_key = record { class = Other; source = 0; destination = 0; source_port = 0; destination_port = 0; protocol = 0 }

-- the fields of such a packet
abbrev pub other_info : ℕ → ℕ → PacketInfo
other_info nanos original = record { key = other_key; nanos = nanos; original = original; flags = 0 }

-- the fields of what a frame carries
abbrev pub packet_info : Carried → ℕ → ℕ → PacketInfo
packet_info Nothing nanos original = other_info nanos original
packet_info (Ipv4 p) nanos original =
    if is_ipv4 p then record { key = ipv4_key p; nanos = nanos; original = original; flags = tcp_flags p }
    else other_info nanos original
packet_info (Ipv6 p) nanos original =
    if is_ipv6 p then record { key = ipv6_key p; nanos = nanos; original = original; flags = tcp6_flags p }
    else other_info nanos original

-- the fields of a frame that was captured at this time and was so long on the wire
abbrev pub fields_of : Link → List ℕ → ℕ → ℕ → PacketInfo
fields_of link frame nanos original = packet_info (carried link frame) nanos original
