-- The fields of the frames, read from their bytes.
use Rattle.std.proofs.Common.{◌≡◌, ℕ, ◌^◌, ◌<◌, ◌≤◌, [], ◌++◌, refl, arith, false, ltb, min}
use Rattle.std.proofs.lemmas.Bool.{le-ltb}
use Rattle.std.proofs.Math.Nat.{min-eq_right}
use Rattle.byteorder.specs.Numbers.{big_number-reads_back}
use Rattle.rss_base.specs.declared.link.Link.TheVariants.{Ethernet}
use Rattle.packet_fields.specs.declared.key.Class.TheVariants.{Tcp, Udp}
use Rattle.packet_fields.specs.Wire.{u16_at, u32_at}
use Rattle.packet_fields.specs.Frame.{fields_of}
use Rattle.traffic_gen.specs.Packet.{ethernet_header, ipv4_header, tcp_header, udp_header}

pub tcp_fields : (total identification source port sequence flags nanos original : ℕ) → 40 ≤ total → total < 2 ^ 16 → source < 2 ^ 32 → port < 2 ^ 16 →
    fields_of Ethernet ((ethernet_header ++ ipv4_header total identification 6 source) ++ tcp_header port sequence flags) nanos original
    ≡ record { key = record { class = Tcp; source = source; destination = 0xc0a80001; source_port = port; destination_port = 80; protocol = 6 }; nanos = nanos; original = original; flags = flags }
unfolding u16_at u32_at
tcp_fields total identification source port sequence flags nanos original long t s p =
    let believed : ltb total 20 ≡ false = le-ltb total 20 (omega arith) in
    let whole : min total 40 ≡ 40 = min-eq_right long in
    rw (big_number-reads_back 2 total [] t, big_number-reads_back 4 source [] s, big_number-reads_back 2 port [] p, believed, whole) refl

pub udp_fields : (total identification source port long nanos original : ℕ) → 28 ≤ total → total < 2 ^ 16 → source < 2 ^ 32 → port < 2 ^ 16 →
    fields_of Ethernet ((ethernet_header ++ ipv4_header total identification 17 source) ++ udp_header port long) nanos original
    ≡ record { key = record { class = Udp; source = source; destination = 0xc0a80001; source_port = port; destination_port = 53; protocol = 17 }; nanos = nanos; original = original; flags = 0 }
unfolding u16_at u32_at
udp_fields total identification source port long nanos original enough t s p =
    let believed : ltb total 20 ≡ false = le-ltb total 20 (omega arith) in
    let whole : min total 28 ≡ 28 = min-eq_right enough in
    rw (big_number-reads_back 2 total [] t, big_number-reads_back 4 source [] s, big_number-reads_back 2 port [] p, believed, whole) refl
