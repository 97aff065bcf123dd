-- What a call of the reader takes of the bytes that are still to come.
use Rattle.std.specs.Prelude.{◌≡◌, ◌⊎◌, ℕ, ◌+◌, ◌<◌, ◌≤◌, List, [], ◌++◌, length, take, drop, Option, None, Some, IfSome, Result, Ok, Err, MatchResult, ⊤}
use Rattle.std.specs.Io.KnownBytes.{Consumes, IsAtEnd}
use Rattle.rss_base.specs.Faults.{Rose}
use Rattle.pcap_reader.specs.declared.form.Form.{Form}
use Rattle.pcap_reader.specs.declared.head.Head.{Head}
use Rattle.pcap_reader.specs.declared.fault.ReadError.{ReadError}
use Rattle.pcap_reader.specs.declared.fault.ReadError.TheVariants.{NoMemory, ReadFault, Broken}
use Rattle.pcap_reader.specs.Capture.{Captured, IsHeaderOf, IsCut, TailBreaks, HeaderBreaks, announced, Begins}

-- the record stands at the front of the known bytes, which lose it
abbrev pub TakesRecord : Form → Option (List ℕ) → Option (List ℕ) → Captured → Type 0
TakesRecord form None after r = ⊤
TakesRecord form (Some xs) None r = ⊥
TakesRecord form (Some xs) (Some ys) r = (header : List ℕ) × IsHeaderOf form r header × (xs ≡ header ++ (r.bytes ++ ys))

-- what comes next, behind n records: a record, the end, a break, or a failed read
abbrev pub Comes : Form → ℕ → Option (List ℕ) → Option (List ℕ) → Result (Option Captured) ReadError → Type 0
Comes form n before after (Ok (Some r)) = TakesRecord form before after r
Comes form n before after (Ok None) = IsAtEnd before × IsAtEnd after
Comes form n before after (Err (Broken e)) = IfSome before (λ tail. TailBreaks form n tail e)
Comes form n before after (Err ReadFault) = ⊤
Comes form n before after (Err NoMemory) = ⊥

-- the most bytes that are read ahead of the records that were given
abbrev pub MOST_AHEAD : ℕ
MOST_AHEAD = 16 + 262_144

-- where a read failed, what was read and not given is no whole record
abbrev pub GivesNone : Form → ReadError → List ℕ → Type 0
GivesNone form ReadFault unused = (unused ≡ []) ⊎ IsCut form unused
GivesNone form NoMemory unused = ⊤
GivesNone form (Broken e) unused = ⊤

-- an error ends the reading: of the bytes that were to come these were read and not given, and the source has the others left
abbrev pub Stops : Form → ReadError → Option (List ℕ) → Option (List ℕ) → Type 0
Stops form error before left = (unused : List ℕ) × Consumes before left unused × (length unused ≤ MOST_AHEAD) × GivesNone form error unused

-- a failed read leaves less than a header
abbrev pub IsLess : ReadError → List ℕ → Type 0
IsLess ReadFault unused = length unused < 24
IsLess NoMemory unused = unused ≡ []
IsLess (Broken e) unused = ⊤

-- the same at the header of the capture
abbrev pub StopsAtHeader : ReadError → Option (List ℕ) → Option (List ℕ) → Type 0
StopsAtHeader error before left = (unused : List ℕ) × Consumes before left unused × (length unused ≤ MOST_AHEAD) × IsLess error unused

-- when an error may be answered, by the counts of failed reads before the call and now
abbrev pub MayBlame : ReadError → ℕ → ℕ → Type 0
MayBlame NoMemory before now = now ≡ before
MayBlame ReadFault before now = Rose before now
MayBlame (Broken e) before now = now ≡ before

-- a failed read is answered, and nothing else is after one
pub record HasReadCause {T : Type 0} (before now : ℕ) (result : Result T ReadError) : Type 0 where
  pub later : before ≤ now
  pub answer : MatchResult result (λ _. now ≡ before) (λ e. MayBlame e before now)

-- the record of a header, whose captured bytes stand at the front
abbrev pub record_at : Form → Head → List ℕ → Captured
record_at form head bytes = record { link = form.link; nanos = head.nanos; original = head.original; bytes = take head.captured bytes }

-- a header that was read, as the record that stands there
abbrev pub read_record : Form → Result (Option Head) ReadError → List ℕ → Result (Option Captured) ReadError
read_record form (Ok None) bytes = Ok None
read_record form (Ok (Some head)) bytes = Ok (Some (record_at form head bytes))
read_record form (Err e) bytes = Err e

-- what is behind the record's bytes
abbrev pub behind_record : Result (Option Head) ReadError → List ℕ → List ℕ
behind_record (Ok (Some head)) bytes = drop head.captured bytes
behind_record _ bytes = bytes

-- the known bytes are a good header of this form, which they lose
abbrev pub TakesHeader : Option (List ℕ) → Option (List ℕ) → Form → Type 0
TakesHeader None after form = ⊤
TakesHeader (Some xs) None form = ⊥
TakesHeader (Some xs) (Some ys) form = (24 ≤ length xs) × (announced (take 24 xs) ≡ Ok form) × (ys ≡ drop 24 xs)

-- the known bytes began with a good header of this form and these records, and the rest is still to come
abbrev pub SoFar : Option (List ℕ) → Form → List Captured → Option (List ℕ) → Type 0
SoFar None form records still = ⊤
SoFar (Some bytes) form records None = ⊥
SoFar (Some bytes) form records (Some rest) =
    (24 ≤ length bytes) × (announced (take 24 bytes) ≡ Ok form) × Begins form (drop 24 bytes) records rest

-- the header breaks the capture, where the error is a break
abbrev pub HeaderRefused : Option (List ℕ) → ReadError → Type 0
HeaderRefused left (Broken e) = IfSome left (λ bytes. HeaderBreaks bytes e)
HeaderRefused left ReadFault = ⊤
HeaderRefused left NoMemory = ⊤
