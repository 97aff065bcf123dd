-- How the reading of a capture, record by record, ends or stops, by the bytes that its source had left.
use Rattle.std.specs.Prelude.{◌≡◌, ◌≤◌, ℕ, List, length, Option, IfSome}
use Rattle.rss_base.specs.Faults.{Rose}
use Rattle.pcap_reader.specs.declared.fault.ReadError.{ReadError}
use Rattle.pcap_reader.specs.declared.fault.ReadError.TheVariants as reading
use Rattle.pcap_reader.specs.Capture.{Captured, IsCapture}
use Rattle.dispatch_loop.specs.declared.dispatcher_end.DispatcherEnd.TheVariants as end
use Rattle.dispatch_loop.specs.Stops.{HasRecordMore, StopsBy}
use Rattle.pcapng_reader.specs.Lent.{classic_known}
use Rattle.rsspp_main.specs.Input.{ReadsNoFurther}
use Rattle.rsspp_main.specs.declared.fault.TopFault.{TopFault}
use Rattle.rsspp_main.specs.declared.fault.TopFault.TheVariants.{Words, Capture, Block, Line, ReadFault, Undrawn, WriteFault, NoMemory, TooMany}

-- the error of a reader, as the fault of the whole
abbrev pub top_fault : ReadError → TopFault
top_fault reading.NoMemory = NoMemory
top_fault reading.ReadFault = ReadFault
top_fault (reading.Broken e) = Capture e

-- these bytes are a whole classic capture of these records, and they are no more than the limit
abbrev pub Accepts : ℕ → Option (List ℕ) → List Captured → Type 0
Accepts limit left records = (length records ≤ limit) × IfSome left (λ bytes. IsCapture bytes records)

-- the reading of a classic capture stopped behind these records, with this fault, and read no further
abbrev pub StopsWith : ℕ → Option (List ℕ) → Option (List ℕ) → List Captured → TopFault → Type 0
StopsWith limit left now records (Capture e) = StopsBy limit left now records (end.Refused (reading.Broken e))
StopsWith limit left now records (TooMany n) = StopsBy limit left now records (end.TooMany n)
StopsWith limit left now records ReadFault = StopsBy limit left now records (end.Refused reading.ReadFault)
StopsWith limit left now records NoMemory = ⊥
StopsWith limit left now records Undrawn = ⊥
StopsWith limit left now records WriteFault = ⊥
StopsWith limit left now records (Block e) = ⊥
StopsWith limit left now records (Line k) = ⊥
StopsWith limit left now records (Words w) = ⊥

-- the reading of the classic capture that an input stands for stopped so. An input that is no pcapng capture was read no further than that, but for four bytes; of a pcapng capture nothing is said of how far it was read
abbrev pub StopsIn : ℕ → Option (List ℕ) → Option (List ℕ) → List Captured → TopFault → Type 0
StopsIn limit left now records fault = (rest : Option (List ℕ)) × StopsWith limit (classic_known left) rest records fault × ReadsNoFurther left rest now

-- a record more stands behind these in the classic capture that an input stands for
abbrev pub GoesOnIn : Option (List ℕ) → Option (List ℕ) → List Captured → Type 0
GoesOnIn left now records = (rest : Option (List ℕ)) × HasRecordMore (classic_known left) rest records × ReadsNoFurther left rest now

-- a failed read is a read fault, and no other answer of the reading comes after one
abbrev pub MayFail : TopFault → ℕ → ℕ → Type 0
MayFail ReadFault before now = Rose before now
MayFail _ before now = now ≡ before
