-- How the stream of a capture's records ends, where at most so many of them are taken.
use Rattle.std.specs.Prelude.{ℕ, ◌<◌, ◌≤◌, List, length}
use Rattle.pcap_reader.specs.declared.fault.Break.{Break}
use Rattle.pcap_reader.specs.Capture.{Captured, Ending, AtEnd, Breaks, Reads}

-- behind the last record of a whole capture, at its first break, or at a record too many
pub data StreamEnd : Type 0 where
  Whole : StreamEnd
  Broken : (e : Break) → StreamEnd
  TooMany : StreamEnd

-- the stream of these bytes ends so: a record too many ends it before any break behind that record does
abbrev pub EndsStream : ℕ → List ℕ → StreamEnd → Type 0
EndsStream limit bytes Whole = (records : List Captured) × Reads bytes records AtEnd × (length records ≤ limit)
EndsStream limit bytes (Broken e) = (records : List Captured) × Reads bytes records (Breaks e) × (length records ≤ limit)
EndsStream limit bytes TooMany = (records : List Captured) × (ending : Ending) × Reads bytes records ending × (limit < length records)
