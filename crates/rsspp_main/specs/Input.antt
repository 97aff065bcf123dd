-- The capture on a source: the classic capture (draft-ietf-opsawg-pcap) that its bytes stand for, and what is wrong with its blocks where it is a pcapng capture (draft-ietf-opsawg-pcapng).
use Rattle.std.specs.Prelude.{◌≡◌, ℕ, List, Option, None, Some, false, IfSome}
use Rattle.pcapng_reader.specs.declared.fault.NgBreak.{NgBreak}
use Rattle.pcapng_reader.specs.Classic.{break_of, is_pcapng}
use Rattle.pcapng_reader.specs.Lent.{TakesUpToFour}

-- no block of the input breaks
abbrev pub IsUnbroken : Option (List ℕ) → Type 0
IsUnbroken left = IfSome left (λ bytes. break_of bytes ≡ None)

-- this is the first break of the input's blocks
abbrev pub BreaksBy : Option (List ℕ) → NgBreak → Type 0
BreaksBy left e = IfSome left (λ bytes. break_of bytes ≡ Some e)

-- where the input is no pcapng capture, its source has left what was not read of the classic capture, but for four bytes at most
abbrev pub ReadsNoFurther : Option (List ℕ) → Option (List ℕ) → Option (List ℕ) → Type 0
ReadsNoFurther left rest now = IfSome left (λ bytes. is_pcapng bytes ≡ false → TakesUpToFour rest now)
