-- How the reading of a capture stopped where its stream was refused, by the bytes that the source had left before.
use Rattle.std.specs.Prelude.{◌≡◌, ◌≤◌, ℕ, List, [], ◌∷◌, ◌++◌, length, Option, IfSome}
use Rattle.pcap_reader.specs.declared.fault.ReadError.TheVariants.{NoMemory, ReadFault, Broken}
use Rattle.pcap_reader.specs.Capture.{Captured, Breaks, Reads}
use Rattle.pcap_reader.specs.Taken.{BeginsWith, TakesNoMore, TakesOnly}
use Rattle.dispatch_loop.specs.declared.dispatcher_end.DispatcherEnd.{DispatcherEnd}
use Rattle.dispatch_loop.specs.declared.dispatcher_end.DispatcherEnd.TheVariants.{AtEnd, Refused, TooMany}

-- a record more stands behind these, and the reading took no more than all of them and what is read ahead
abbrev pub HasRecordMore : Option (List ℕ) → Option (List ℕ) → List Captured → Type 0
HasRecordMore left now records = (next : Captured) × IfSome left (λ bytes. BeginsWith bytes (records ++ next ∷ [])) × TakesNoMore left now (records ++ next ∷ [])

-- the reading stopped behind these records, was refused so, and read no further
abbrev pub StopsBy : ℕ → Option (List ℕ) → Option (List ℕ) → List Captured → DispatcherEnd → Type 0
StopsBy limit left now records (Refused (Broken e)) = (length records ≤ limit) × IfSome left (λ bytes. Reads bytes records (Breaks e)) × TakesNoMore left now records
StopsBy limit left now records (Refused ReadFault) = (length records ≤ limit) × TakesOnly left now records
StopsBy limit left now records (Refused NoMemory) = ⊥
StopsBy limit left now records (TooMany n) = (n ≡ limit) × (length records ≡ limit) × HasRecordMore left now records
StopsBy limit left now records AtEnd = ⊥
