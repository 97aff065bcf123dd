-- The texts of flow keys.
use Rattle.std.specs.Prelude.{ℕ, ◌/◌, ◌%◌, ◌^◌, List, ◌++◌, codes}
use Rattle.std.specs.Fmt.{decimal}
use Rattle.rss_base.specs.Hex.{hex_text}
use Rattle.packet_fields.specs.declared.key.Class.{Class}
use Rattle.packet_fields.specs.declared.key.Class.TheVariants.{Tcp, Udp, Ip, Tcp6, Udp6, Ip6, Other}
use Rattle.packet_fields.specs.declared.key.FlowKey.{FlowKey}

-- an IPv4 address as four numbers with points (RFC 791, section 3.2; the dotted form of RFC 1123, section 2.1)
unfoldable pub address_text : ℕ → List ℕ
address_text a =
    decimal (a / 16777216 % 256) ++ (codes "." ++ (decimal (a / 65536 % 256) ++ (codes "." ++ (decimal (a / 256 % 256) ++ (codes "." ++ decimal (a % 256))))))

-- an address and a port
abbrev pub end_text : ℕ → ℕ → List ℕ
end_text address port = address_text address ++ (codes ":" ++ decimal port)

-- a name, and both ends
unfoldable pub ends_text : List ℕ → FlowKey → List ℕ
ends_text name k = name ++ (end_text k.source k.source_port ++ (codes " > " ++ end_text k.destination k.destination_port))

-- both addresses, and the protocol
unfoldable pub addresses_text : FlowKey → List ℕ
addresses_text k = codes "ip " ++ (address_text k.source ++ (codes " > " ++ (address_text k.destination ++ (codes " proto " ++ decimal k.protocol))))

-- the sixteen bits of an address that have so many bits behind them
abbrev pub group_text : ℕ → ℕ → List ℕ
group_text a behind = hex_text 4 (a / 2 ^ behind % 65536)

-- an IPv6 address as eight groups of four digits with colons, none of them left out (RFC 4291, section 2.2, the first form)
unfoldable pub ipv6_address_text : ℕ → List ℕ
ipv6_address_text a =
    group_text a 112 ++ (codes ":" ++ (group_text a 96 ++ (codes ":" ++ (group_text a 80 ++ (codes ":" ++ (group_text a 64 ++ (codes ":"
    ++ (group_text a 48 ++ (codes ":" ++ (group_text a 32 ++ (codes ":" ++ (group_text a 16 ++ (codes ":" ++ group_text a 0)))))))))))))

-- an IPv6 address in brackets and a port (RFC 3986, section 3.2.2)
abbrev pub ipv6_end_text : ℕ → ℕ → List ℕ
ipv6_end_text address port = codes "[" ++ (ipv6_address_text address ++ (codes "]:" ++ decimal port))

-- a name, and both ends
unfoldable pub ipv6_ends_text : List ℕ → FlowKey → List ℕ
ipv6_ends_text name k = name ++ (ipv6_end_text k.source k.source_port ++ (codes " > " ++ ipv6_end_text k.destination k.destination_port))

-- both addresses, and the next header
unfoldable pub ipv6_addresses_text : FlowKey → List ℕ
ipv6_addresses_text k =
    codes "ip6 " ++ (ipv6_address_text k.source ++ (codes " > " ++ (ipv6_address_text k.destination ++ (codes " proto " ++ decimal k.protocol))))

abbrev pub text_by : Class → FlowKey → List ℕ
text_by Tcp k = ends_text (codes "tcp ") k
text_by Udp k = ends_text (codes "udp ") k
text_by Ip k = addresses_text k
text_by Tcp6 k = ipv6_ends_text (codes "tcp6 ") k
text_by Udp6 k = ipv6_ends_text (codes "udp6 ") k
text_by Ip6 k = ipv6_addresses_text k
text_by Other k = codes "other"

-- the text of a key
abbrev pub key_text_of : FlowKey → List ℕ
key_text_of k = text_by k.class k
