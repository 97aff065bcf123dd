-- What `Reader::next` leaves once its record is no longer borrowed.
use Rattle.std.specs.Prelude.{List, ℕ, Option, None, Some, Result, Ok, Err}
use Rattle.std.specs.Borrow.{Fml, MutBor}
use Rattle.std.specs.Io.BufRead.{Rests}
use Rattle.pcap_reader.specs.declared.fault.ReadError.{ReadError}
use Rattle.pcap_reader.specs.declared.record.Record.{Record}
use Rattle.pcap_reader.specs.contracts.reader.Reader.{the_row}
use Rattle.pcap_reader.specs.Capture.{Captured}
use Rattle.pcap_reader.specs.Reading.{Reading, Proceeds}

-- a record as the definitions have it
abbrev pub captured_of : Option Record → Option Captured
captured_of None = None
captured_of (Some r) = Some (record { link = r.link; nanos = r.nanos; original = r.original; bytes = r.bytes.now })

-- an answer as the definitions have it
abbrev pub seen : Result (Option Record) ReadError → Result (Option Captured) ReadError
seen (Ok shown) = Ok (captured_of shown)
seen (Err e) = Err e

-- the reader goes on, or answers as before, by what the source had left before the call and has left now
abbrev pub EndsAs : MutBor Reading → Option (List ℕ) → Option (List ℕ) → Result (Option Record) ReadError → Fml
EndsAs reader before now result = Rests the_row reader (λ new. Proceeds reader.now new before now (seen result))
