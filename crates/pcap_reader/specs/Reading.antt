-- A reader as contracts see it, and what its calls do.
use Rattle.std.specs.Prelude.{◌≡◌, ℕ, ◌+◌, ◌≤◌, List, length, Option, None, Some, Result, Ok, Err}
use Rattle.std.specs.Io.KnownBytes.{prepend_known}
use Rattle.pcap_reader.specs.declared.form.Form.{Form}
use Rattle.pcap_reader.specs.declared.reader.Progress.{Progress}
use Rattle.pcap_reader.specs.declared.reader.Progress.TheVariants.{Going, Ended, Stopped}
use Rattle.pcap_reader.specs.declared.fault.ReadError.{ReadError}
use Rattle.pcap_reader.specs.Capture.{Captured}
use Rattle.pcap_reader.specs.Stream.{Comes, Stops, MOST_AHEAD}

-- how its capture is written, how many records were given, the last of them, what was read ahead and is not yet given, and how far it has come
pub record Reading : Type 0 where
  pub form : Form
  pub given : ℕ
  pub shown : Option Captured
  pub ahead : List ℕ
  pub progress : Progress

-- the bytes that are still to be given: those read ahead, and those that the source has left
abbrev pub still : Reading → Option (List ℕ) → Option (List ℕ)
still reader left = prepend_known reader.ahead left

-- what a call answers, by the record that it leaves on show
abbrev pub answer : {T : Type 0} → Result T ReadError → Option Captured → Result (Option Captured) ReadError
answer (Ok _) shown = Ok shown
answer (Err e) shown = Err e

-- how far the reading has come after an answer
abbrev pub after : Result (Option Captured) ReadError → Progress
after (Ok (Some r)) = Going
after (Ok None) = Ended
after (Err e) = Stopped e

-- a record more was given
abbrev pub count_after : ℕ → Result (Option Captured) ReadError → ℕ
count_after n (Ok (Some r)) = n + 1
count_after n _ = n

-- how far a call has read: no further than the longest record, and where it answers an error it has skipped nothing
abbrev pub ReadsAhead : Form → Reading → Option (List ℕ) → Option (List ℕ) → Result (Option Captured) ReadError → Type 0
ReadsAhead form new before left (Ok next) = length new.ahead ≤ MOST_AHEAD
ReadsAhead form new before left (Err e) = Stops form e before left

-- a call that still reads
pub record Advances (old new : Reading) (before now : Option (List ℕ)) (result : Result (Option Captured) ReadError) : Type 0 where
  pub comes : Comes old.form old.given (still old before) (still new now) result
  pub progress : new.progress ≡ after result
  pub given : new.given ≡ count_after old.given result
  pub form : new.form ≡ old.form
  pub ahead : ReadsAhead old.form new (still old before) now result

-- a call of a reader that has come so far: it goes on, or answers as before and changes nothing
abbrev pub ProceedsFrom : Progress → Reading → Reading → Option (List ℕ) → Option (List ℕ) → Result (Option Captured) ReadError → Type 0
ProceedsFrom Going old new before now result = Advances old new before now result
ProceedsFrom Ended old new before now result = (result ≡ Ok None) × (new ≡ old)
ProceedsFrom (Stopped e) old new before now result = (result ≡ Err e) × (new ≡ old)

abbrev pub Proceeds : Reading → Reading → Option (List ℕ) → Option (List ℕ) → Result (Option Captured) ReadError → Type 0
Proceeds old new before now result = ProceedsFrom old.progress old new before now result
