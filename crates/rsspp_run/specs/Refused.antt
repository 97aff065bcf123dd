-- When a run is refused, by the bytes that its source had left and by the count of failed reads.
use Rattle.std.specs.Prelude.{◌≡◌, ℕ, List, Option, Result, Ok, Err, MatchResult, ⊤}
use Rattle.rss_base.specs.Faults.{Rose}
use Rattle.pcap_reader.specs.declared.fault.ReadError.{ReadError}
use Rattle.pcap_reader.specs.declared.fault.ReadError.TheVariants as reading
use Rattle.pcap_reader.specs.Capture.{Captured}
use Rattle.dispatch_loop.specs.declared.dispatcher_end.DispatcherEnd.{DispatcherEnd}
use Rattle.dispatch_loop.specs.declared.dispatcher_end.DispatcherEnd.TheVariants as end
use Rattle.dispatch_loop.specs.Stops.{StopsBy}
use Rattle.rsspp_run.specs.declared.run_end.RunFault.{RunFault}
use Rattle.rsspp_run.specs.declared.run_end.RunFault.TheVariants.{Capture, ReadFault, TooMany, NoMemory}

-- an error of the reader, as the fault of a run
abbrev pub fault_of_error : ReadError → RunFault
fault_of_error reading.NoMemory = NoMemory
fault_of_error reading.ReadFault = ReadFault
fault_of_error (reading.Broken e) = Capture e

-- a stream's end, as a run takes it
abbrev pub refusal : DispatcherEnd → Result Unit RunFault
refusal end.AtEnd = Ok tt
refusal (end.Refused e) = Err (fault_of_error e)
refusal (end.TooMany n) = Err (TooMany n)

-- the capture is refused with this fault: its reading stopped so behind some records, by what the source had left before and has left now
abbrev pub Refuses : ℕ → Option (List ℕ) → Option (List ℕ) → RunFault → Type 0
Refuses limit left now (Capture e) = (records : List Captured) × StopsBy limit left now records (end.Refused (reading.Broken e))
Refuses limit left now (TooMany n) = (records : List Captured) × StopsBy limit left now records (end.TooMany n)
Refuses limit left now ReadFault = (records : List Captured) × StopsBy limit left now records (end.Refused reading.ReadFault)
Refuses limit left now NoMemory = ⊤

-- a failed read is a read fault, and no other answer comes after one
abbrev pub Blames : RunFault → ℕ → ℕ → Type 0
Blames ReadFault before now = Rose before now
Blames _ before now = now ≡ before

abbrev pub HasRunCause : {T : Type 0} → ℕ → ℕ → Result T RunFault → Type 0
HasRunCause before now result = MatchResult result (λ _. now ≡ before) (λ fault. Blames fault before now)
