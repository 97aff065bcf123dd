-- The status that the program ends with.
use Rattle.std.specs.Prelude.{ℕ, Option, None, Some}
use Rattle.rsspp_main.specs.declared.fault.TopFault.{TopFault}
use Rattle.rsspp_main.specs.declared.fault.TopFault.TheVariants.{Words, Capture, Block, Line, ReadFault, Undrawn, WriteFault, NoMemory, TooMany}

-- the status of an outcome; None is the outcome of a run that was done
abbrev pub status_of : Option TopFault → ℕ
status_of None = 0
status_of (Some (Words w)) = 2
status_of (Some (Capture e)) = 3
status_of (Some (Block e)) = 3
status_of (Some (Line k)) = 3
status_of (Some ReadFault) = 4
status_of (Some Undrawn) = 4
status_of (Some WriteFault) = 5
status_of (Some NoMemory) = 6
status_of (Some (TooMany n)) = 7
