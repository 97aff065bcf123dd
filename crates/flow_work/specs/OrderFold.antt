-- The work whose number tells in which order the packets came.
use Rattle.std.specs.Prelude.{ℕ, ◌+◌, ◌*◌, ◌%◌, ◌^◌, List, [], ◌∷◌, ◌++◌, length, codes}
use Rattle.std.specs.Fmt.{decimal}
use Rattle.packet_fields.specs.declared.packet.PacketInfo.{PacketInfo}

-- the number so far times 31, and the packet's length on the wire, of which 32 bits are kept
abbrev pub folded : ℕ → PacketInfo → ℕ
folded h p = (31 * h + p.original) % 2 ^ 32

abbrev pub order_text : ℕ → List ℕ
order_text h = codes "order " ++ decimal h

-- the lengths on the wire as the digits of a number with the base 31, the first packet's highest
abbrev pub number_of : List PacketInfo → ℕ
number_of [] = 0
number_of (p ∷ ps) = p.original * 31 ^ length ps + number_of ps
