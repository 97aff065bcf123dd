-- The packets of generated traffic.
use Rattle.std.specs.Prelude.{ℕ, ◌+◌, ◌-◌, ◌*◌, ◌%◌, ◌^◌, ◌==◌, Bool, List, ◌∷◌, ◌++◌, if◌then◌else◌}
use Rattle.byteorder.specs.Endian.{big_bytes}
use Rattle.traffic_gen.specs.Draw.{flow_of}

-- the length on the wire of the frame at an index, in bytes: 60, 70, .. , 130, and again from 60
abbrev pub length_of : ℕ → ℕ
length_of index = 60 + 10 * (index % 8)

-- the control bits of the packet at an index (RFC 9293, section 3.1): of each 16 indices the first has SYN, the last FIN and ACK, and the others ACK
abbrev pub flags_of : ℕ → ℕ
flags_of index =
    if index % 16 == 0 then 0x02
    else (if index % 16 == 15 then 0x11 else 0x10)

-- two addresses of local use, and the type of IPv4 (RFC 894)
abbrev pub ethernet_header : List ℕ
ethernet_header = big_bytes 6 0x020000000001 ++ (big_bytes 6 0x020000000002 ++ big_bytes 2 0x0800)

-- a header without options, fragments and checksum (RFC 791, section 3.1): version 4 with five words, 64 hops to live, and the destination 192.168.0.1
abbrev pub ipv4_header : ℕ → ℕ → ℕ → ℕ → List ℕ
ipv4_header total identification protocol source =
    0x45 ∷ 0 ∷ (big_bytes 2 total ++ (big_bytes 2 identification ++ (big_bytes 2 0
    ++ (64 ∷ protocol ∷ (big_bytes 2 0 ++ (big_bytes 4 source ++ big_bytes 4 0xc0a8_0001))))))

-- a header without acknowledgement number, options and checksum (RFC 9293, section 3.1): to port 80, with five words and the whole window
abbrev pub tcp_header : ℕ → ℕ → ℕ → List ℕ
tcp_header port sequence flags =
    big_bytes 2 port ++ (big_bytes 2 80 ++ (big_bytes 4 sequence ++ (big_bytes 4 0
    ++ (0x50 ∷ flags ∷ (big_bytes 2 0xffff ++ (big_bytes 2 0 ++ big_bytes 2 0))))))

-- a header without checksum (RFC 768): to port 53
abbrev pub udp_header : ℕ → ℕ → List ℕ
udp_header port long = big_bytes 2 port ++ (big_bytes 2 53 ++ (big_bytes 2 long ++ big_bytes 2 0))

-- flows of even numbers are TCP
abbrev pub is_tcp_flow : ℕ → Bool
is_tcp_flow flow = flow % 2 == 0

-- the headers in front of the ports; the frame's length counts the 14 bytes of the Ethernet header, and flow 0 comes from 10.0.0.0
abbrev pub outer_headers : ℕ → ℕ → ℕ → List ℕ
outer_headers protocol flow index =
    ethernet_header ++ ipv4_header (length_of index - 14) (index % 2 ^ 16) protocol (0x0a00_0000 + flow)

-- what is captured of the frame at an index: the headers, of a TCP flow and of a UDP flow; flow 0 comes from port 1024, and 34 bytes stand before the UDP header
abbrev pub tcp_frame : ℕ → ℕ → List ℕ
tcp_frame flow index = outer_headers 6 flow index ++ tcp_header (1024 + flow) index (flags_of index)

abbrev pub udp_frame : ℕ → ℕ → List ℕ
udp_frame flow index = outer_headers 17 flow index ++ udp_header (1024 + flow) (length_of index - 34)

-- what is captured of a packet of a flow
abbrev pub flow_frame : ℕ → ℕ → List ℕ
flow_frame flow index = if is_tcp_flow flow then tcp_frame flow index else udp_frame flow index

-- what is captured of the packet at an index
unfoldable pub frame_of : ℕ → ℕ → List ℕ
frame_of number index = flow_frame (flow_of number index) index
