-- A source that was lent, and what is given of it.
use Rattle.std.specs.Prelude.{◌≡◌, ◌≤◌, ℕ, false, List, length, Option, None, Some, IfSome, ⊤}
use Rattle.std.specs.Borrow.{GName, MutBor}
use Rattle.std.specs.Io.KnownBytes.{Consumes, IsAtEnd}
use Rattle.rss_base.specs.Faults.{Rose}
use Rattle.pcapng_reader.specs.declared.fault.NgError.{NgError}
use Rattle.pcapng_reader.specs.declared.fault.NgError.TheVariants.{NoMemory, ReadFault}
use Rattle.pcapng_reader.specs.declared.stage.Stage.TheVariants.{Plain, Ended}
use Rattle.pcapng_reader.specs.Classic.{is_pcapng, classic_of}
use Rattle.pcapng_reader.specs.Progress.{Told, Progress, told_of, known, StaysTold}
use Rattle.pcapng_reader.specs.Stages.{break_at}

-- the source that was lent, how far its reading has come, and the source as it was when the reading began
pub record Lent (S : Type 0) : Type 0 where
  pub source : MutBor S
  pub progress : Progress
  pub begun : S

-- the beginning of a reading, and the source as it was before
pub record Opening (S : Type 0) : Type 0 where
  pub progress : Progress
  pub begun : S

-- what a reading was begun over: the bytes that its source had left, where they are told, what that source was made over, and which one it is
pub record Begun (O : Type 0) : Type 0 where
  pub bytes : Option (List ℕ)
  pub under : O
  pub lent : GName

-- the classic bytes of known bytes
abbrev pub classic_known : Option (List ℕ) → Option (List ℕ)
classic_known None = None
classic_known (Some bytes) = Some (classic_of bytes)

abbrev pub told_known : Option (List ℕ) → Option Told
told_known None = None
told_known (Some bytes) = Some (told_of bytes)

-- what an error leaves of the source: all of it where memory was refused, and else a read failed
abbrev pub LeavesOnError : {S O : Type 0} → (S → ℕ) → (S → O) → S → S → NgError → Type 0
LeavesOnError faults origin old new NoMemory = new ≡ old
LeavesOnError faults origin old new ReadFault = Rose (faults old) (faults new) × (origin new ≡ origin old)

-- known bytes lost at most four at their front
abbrev pub TakesUpToFour : Option (List ℕ) → Option (List ℕ) → Type 0
TakesUpToFour left now = (front : List ℕ) × (length front ≤ 4) × Consumes left now front

-- an input that isn't pcapng is handed on as it is, behind at most four bytes that were read first
abbrev pub HandsOn : Progress → Option (List ℕ) → Type 0
HandsOn p begun = IfSome begun (λ bytes. is_pcapng bytes ≡ false → (p.stage ≡ Plain) × (length p.ready ≤ 4))

-- a reading that was begun over these bytes, of which its source has those left: it tells what they stand for, and found neither their end nor a break
pub record HasBegun (p : Progress) (begun left : Option (List ℕ)) : Type 0 where
  pub told : StaysTold (told_known begun) (known p left)
  pub going : p.stage ≡ Ended → ⊥
  pub whole : break_at p.stage ≡ None
  pub plain : HandsOn p begun

-- the first break that is still to be told is that of the bytes at the beginning
abbrev pub SameBreak : Option Told → Option Told → Type 0
SameBreak None now = ⊤
SameBreak (Some told) None = ⊥
SameBreak (Some told) (Some now) = now.broken ≡ told.broken

-- a reading of the bytes at the beginning, of which the source has these left
pub record ReadsOn (p : Progress) (begun left : Option (List ℕ)) : Type 0 where
  pub broken : SameBreak (told_known begun) (known p left)
  pub over : p.stage ≡ Ended → IsAtEnd left
  pub plain : HandsOn p begun
