-- The work that collects TCP's control bits: FIN is 1, SYN is 2 and RST is 4 (RFC 9293, section 3.1).
use Rattle.std.specs.Prelude.{◌==◌, ◌≤◌, ℕ, ◌+◌, Bool, not, if◌then◌else◌, List, ◌++◌, map, fold, count_by, codes, bit_and, bit_or}
use Rattle.std.specs.Fmt.{decimal}
use Rattle.rss_base.specs.Hex.{hex_text}
use Rattle.packet_fields.specs.declared.packet.PacketInfo.{PacketInfo}
use Rattle.flow_work.specs.declared.tcp_flags.SeenFlags.{SeenFlags}

-- a control bit stands in the flags
abbrev pub has_bit : ℕ → ℕ → Bool
has_bit bit flags = not (bit_and flags bit == 0)

-- one for flags with the bit
abbrev pub bit_count : ℕ → ℕ → ℕ
bit_count bit flags = if has_bit bit flags then 1 else 0

abbrev pub no_flags : SeenFlags
no_flags = record { flags = 0; syn = 0; fin = 0; rst = 0 }

-- the packet's bits join the others, and each of the three is counted where the packet has it
abbrev pub flags_after : SeenFlags → PacketInfo → SeenFlags
flags_after s p =
    record { flags = bit_or s.flags p.flags; syn = s.syn + bit_count 2 p.flags; fin = s.fin + bit_count 1 p.flags; rst = s.rst + bit_count 4 p.flags }

abbrev pub flags_text : SeenFlags → List ℕ
flags_text s =
    codes "flags " ++ (hex_text 2 s.flags ++ (codes " syn " ++ (decimal s.syn ++ (codes " fin " ++ (decimal s.fin ++ (codes " rst " ++ decimal s.rst))))))

-- a state can stand for k packets: no bit was counted more often
pub record AreFlagsOf (s : SeenFlags) (k : ℕ) : Type 0 where
  pub syn : s.syn ≤ k
  pub fin : s.fin ≤ k
  pub rst : s.rst ≤ k

-- how many packets have the bit
abbrev pub packets_with : ℕ → List PacketInfo → ℕ
packets_with bit packets = count_by (λ p. has_bit bit p.flags) packets

-- the bits that some packet has
abbrev pub bits_of : List PacketInfo → ℕ
bits_of packets = fold bit_or 0 (map (λ p. p.flags) packets)
