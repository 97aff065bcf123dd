-- What the calls of a reader took of its source, one after the other.
use Rattle.std.specs.Prelude.{◌≡◌, ℕ, ◌+◌, ◌≤◌, List, [], ◌∷◌, ◌++◌, length, sum_by, Option, None, Some, Ok, ⊤}
use Rattle.pcap_reader.specs.declared.reader.Progress.TheVariants.{Going}
use Rattle.pcap_reader.specs.Capture.{Captured, Ending, Reads}
use Rattle.pcap_reader.specs.Reading.{Reading, still, Proceeds}
use Rattle.pcap_reader.specs.Stream.{TakesHeader, MOST_AHEAD}

-- a capture begins with these whole records
abbrev pub BeginsWith : List ℕ → List Captured → Type 0
BeginsWith bytes records = (more : List Captured) × (ending : Ending) × Reads bytes (records ++ more) ending

-- how many bytes a capture of these records has
abbrev pub capture_length : List Captured → ℕ
capture_length records = 24 + sum_by (λ (r : Captured). 16 + length r.bytes) records

-- known bytes lost a capture of these records, and no more behind it than is read ahead
abbrev pub TakesNoMore : Option (List ℕ) → Option (List ℕ) → List Captured → Type 0
TakesNoMore None now records = ⊤
TakesNoMore (Some bytes) None records = ⊥
TakesNoMore (Some bytes) (Some left) records = (taken : List ℕ) × (bytes ≡ taken ++ left) × (length taken ≤ capture_length records + MOST_AHEAD)

-- known bytes lost a part that has these whole records and no other
abbrev pub TakesOnly : Option (List ℕ) → Option (List ℕ) → List Captured → Type 0
TakesOnly None now records = ⊤
TakesOnly (Some bytes) None records = ⊥
TakesOnly (Some bytes) (Some left) records = (taken : List ℕ) × (ending : Ending) × (bytes ≡ taken ++ left) × Reads taken records ending

-- a reader that has taken the header of these bytes, where its source has these left
pub record HasStarted (bytes : List ℕ) (reader : Reading) (left : Option (List ℕ)) : Type 0 where
  pub header : TakesHeader (Some bytes) (still reader left) reader.form
  pub given : reader.given ≡ 0
  pub going : reader.progress ≡ Going

-- calls of `next` that gave these records, one after the other
abbrev pub Gives : List Captured → Reading → Reading → Option (List ℕ) → Option (List ℕ) → Type 0
Gives [] old new before now = (new ≡ old) × (now ≡ before)
Gives (r ∷ rs) old new before now = (mid : Reading) × (left : Option (List ℕ)) × Proceeds old mid before left (Ok (Some r)) × Gives rs mid new left now
