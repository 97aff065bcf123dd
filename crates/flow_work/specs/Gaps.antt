-- The work that finds the longest time between neighbouring packets.
use Rattle.std.specs.Prelude.{ℕ, ◌-◌, max, List, ◌++◌, map, fold, zip, drop, codes, Option, None, Some}
use Rattle.std.specs.Fmt.{decimal}
use Rattle.packet_fields.specs.declared.packet.PacketInfo.{PacketInfo}
use Rattle.flow_work.specs.declared.gaps.SeenGaps.{SeenGaps}

-- the time since the packet just before: 0 where time falls, and where there is none (the difference of numbers stops at 0)
abbrev pub gap_since : Option ℕ → ℕ → ℕ
gap_since None now = 0
gap_since (Some before) now = now - before

abbrev pub no_gap : SeenGaps
no_gap = record { greatest = 0; before = None }

-- the greater of the gap so far and the gap to this packet
abbrev pub gap_after : SeenGaps → PacketInfo → SeenGaps
gap_after s p = record { greatest = max s.greatest (gap_since s.before p.nanos); before = Some p.nanos }

abbrev pub gap_text : SeenGaps → List ℕ
gap_text s = codes "gap " ++ decimal s.greatest

-- each element with the one behind it
abbrev pub neighbours : List ℕ → List (ℕ × ℕ)
neighbours times = zip times (drop 1 times)

-- the times between neighbours, 0 where time falls
abbrev pub gaps_between : List ℕ → List ℕ
gaps_between times = map (λ (pair : ℕ × ℕ). pair.1 - pair.0) (neighbours times)

-- the greatest of a list of numbers, 0 of none
abbrev pub greatest_of : List ℕ → ℕ
greatest_of numbers = fold max 0 numbers

-- the longest time between neighbouring packets
abbrev pub longest_gap : List PacketInfo → ℕ
longest_gap packets = greatest_of (gaps_between (map (λ p. p.nanos) packets))
