-- The work that counts packets and bytes.
use Rattle.std.specs.Prelude.{◌≡◌, ◌≤◌, ℕ, ◌+◌, ◌*◌, List, ◌++◌, codes}
use Rattle.std.specs.Fmt.{decimal}
use Rattle.packet_fields.specs.declared.packet.PacketInfo.{PacketInfo}
use Rattle.flow_work.specs.declared.count.Counted.{Counted}

abbrev pub no_packets : Counted
no_packets = record { packets = 0; bytes = 0 }

-- one packet more, and its length on the wire
abbrev pub counted : Counted → PacketInfo → Counted
counted s p = record { packets = s.packets + 1; bytes = s.bytes + p.original }

abbrev pub count_text : Counted → List ℕ
count_text s = codes "packets " ++ (decimal s.packets ++ (codes " bytes " ++ decimal s.bytes))

-- a state can stand for k packets: each of them is below 2 ^ 32 bytes long
pub record IsCountOf (s : Counted) (k : ℕ) : Type 0 where
  pub packets : s.packets ≡ k
  pub bytes : s.bytes ≤ k * 4294967295
