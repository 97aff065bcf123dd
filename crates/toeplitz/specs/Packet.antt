-- The hash of a packet (Microsoft RSS, hash types of IPv4 and IPv6).
use Rattle.std.specs.Prelude.{ℕ, List, ◌++◌}
use Rattle.byteorder.specs.Endian.{big_bytes}
use Rattle.packet_fields.specs.declared.key.Class.{Class}
use Rattle.packet_fields.specs.declared.key.Class.TheVariants.{Tcp, Udp, Ip, Tcp6, Udp6, Ip6, Other}
use Rattle.packet_fields.specs.declared.key.FlowKey.{FlowKey}
use Rattle.packet_fields.specs.declared.packet.PacketInfo.{PacketInfo}
use Rattle.toeplitz.specs.declared.key.Key.{Key}
use Rattle.toeplitz.specs.Toeplitz.{toeplitz}

-- both addresses in network byte order, of each the lowest 32 bits
abbrev pub addresses_of : FlowKey → List ℕ
addresses_of flow = big_bytes 4 flow.source ++ big_bytes 4 flow.destination

-- both addresses and both ports in network byte order
abbrev pub ends_of : FlowKey → List ℕ
ends_of flow = addresses_of flow ++ (big_bytes 2 flow.source_port ++ big_bytes 2 flow.destination_port)

-- both addresses of IPv6 in network byte order
abbrev pub ipv6_addresses_of : FlowKey → List ℕ
ipv6_addresses_of flow = big_bytes 16 flow.source ++ big_bytes 16 flow.destination

-- both addresses of IPv6 and both ports in network byte order
abbrev pub ipv6_ends_of : FlowKey → List ℕ
ipv6_ends_of flow = ipv6_addresses_of flow ++ (big_bytes 2 flow.source_port ++ big_bytes 2 flow.destination_port)

-- the hash of a packet of a class
abbrev pub hash_by : Class → Key → FlowKey → ℕ
hash_by Tcp key flow = toeplitz key.0 (ends_of flow)
hash_by Udp key flow = toeplitz key.0 (ends_of flow)
hash_by Ip key flow = toeplitz key.0 (addresses_of flow)
hash_by Tcp6 key flow = toeplitz key.0 (ipv6_ends_of flow)
hash_by Udp6 key flow = toeplitz key.0 (ipv6_ends_of flow)
hash_by Ip6 key flow = toeplitz key.0 (ipv6_addresses_of flow)
hash_by Other key flow = 0

-- the hash of a packet
unfoldable pub packet_hash : Key → PacketInfo → ℕ
packet_hash key packet = hash_by packet.key.class key packet.key
