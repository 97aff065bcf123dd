-- What reading a part of a plan text takes of the known bytes, and when it fails.
use Rattle.std.specs.Prelude.{ℕ, ◌≡◌, ◌≤◌, ◌<◌, List, ◌∷◌, Bool, true, false, Option, None, Some, IfSome, Result, Ok, Err, MatchResult, Vec, ⊤}
use Rattle.std.specs.declared.alloc.Global.{Global}
use Rattle.std.specs.Io.KnownBytes.{IsAtEnd}
use Rattle.rss_base.specs.Faults.{Rose}
use Rattle.balancer.specs.declared.plan_fault.PlanFault.{PlanFault}
use Rattle.balancer.specs.declared.plan_fault.PlanFault.TheVariants.{ReadFault, WriteFault, BadLine, NoMemory}
use Rattle.balancer.specs.declared.limits.TheConstants.{MOST_LOAD}
use Rattle.balancer.specs.Lines.{lines}
use Rattle.balancer.specs.NextLine.{NoLine}
use Rattle.balancer.specs.Numbers.{numbers_behind}
use Rattle.balancer.specs.PlanForm.{first, base_line, Bucket, bucket_line}

-- a failed read is a read fault, and no other answer comes after one
abbrev pub MayBlame : PlanFault → ℕ → ℕ → Type 0
MayBlame ReadFault before now = Rose before now
MayBlame WriteFault before now = ⊥
MayBlame (BadLine k) before now = now ≡ before
MayBlame NoMemory before now = now ≡ before

pub record HasReadCause {T : Type 0} (before now : ℕ) (result : Result T PlanFault) : Type 0 where
  pub later : before ≤ now
  pub answer : MatchResult result (λ _. now ≡ before) (λ fault. MayBlame fault before now)

-- the known bytes lose their first line, which has this form
abbrev pub TakesAs : {A : Type 0} → (List ℕ → Option A) → Option (List ℕ) → Option (List ℕ) → A → Type 0
TakesAs form None after a = ⊤
TakesAs form (Some xs) None a = ⊥
TakesAs form (Some xs) (Some ys) a = (line : List ℕ) × (lines xs ≡ line ∷ lines ys) × (form line ≡ Some a)

-- the first line of the known bytes has no numbers behind this word
abbrev pub IsBad : List ℕ → Option (List ℕ) → Type 0
IsBad word before = IfSome before (λ xs. (line : List ℕ) × (rest : List (List ℕ)) × (lines xs ≡ line ∷ rest) × (numbers_behind word line ≡ None))

-- the line of a number was read: its numbers, or that there is none, or that it is bad
abbrev pub ReadsNumbers : List ℕ → ℕ → Option (List ℕ) → Option (List ℕ) → Option (List ℕ) → List ℕ → Result Bool PlanFault → Type 0
ReadsNumbers word number before after left numbers (Ok true) = TakesAs (numbers_behind word) before after numbers
ReadsNumbers word number before after left numbers (Ok false) = NoLine before × IsAtEnd left
ReadsNumbers word number before after left numbers (Err (BadLine k)) = (k ≡ number) × IsBad word before
ReadsNumbers word number before after left numbers (Err ReadFault) = ⊤
ReadsNumbers word number before after left numbers (Err WriteFault) = ⊥
ReadsNumbers word number before after left numbers (Err NoMemory) = ⊥

-- the line of a number was read by its form: what it spells, or that it is bad or missing
abbrev pub ReadsAs : {A : Type 0} → (List ℕ → Option A) → ℕ → Option (List ℕ) → Option (List ℕ) → Result A PlanFault → Type 0
ReadsAs form number before after (Ok a) = TakesAs form before after a
ReadsAs form number before after (Err (BadLine k)) = (k ≡ number) × IfSome before (λ xs. first form (lines xs) ≡ None)
ReadsAs form number before after (Err ReadFault) = ⊤
ReadsAs form number before after (Err WriteFault) = ⊥
ReadsAs form number before after (Err NoMemory) = ⊤

-- the same of the line of bases
abbrev pub ReadsBase : ℕ → Option (List ℕ) → Option (List ℕ) → Result (Vec ℕ Global) PlanFault → Type 0
ReadsBase cores before after (Ok base) = TakesAs (base_line cores) before after base.items
ReadsBase cores before after (Err (BadLine k)) = (k ≡ 3) × IfSome before (λ xs. first (base_line cores) (lines xs) ≡ None)
ReadsBase cores before after (Err ReadFault) = ⊤
ReadsBase cores before after (Err WriteFault) = ⊥
ReadsBase cores before after (Err NoMemory) = ⊤

-- the bucket is spelled so, with an owner below the number of cores and a load within its limit
abbrev pub SpellsBucket : ℕ → Option Bucket → Option (ℕ × ℕ) → Type 0
SpellsBucket cores there None = there ≡ None
SpellsBucket cores there (Some b) = (there ≡ Some (record { owner = b.0; load = b.1 })) × (b.0 < cores) × (b.1 ≤ MOST_LOAD)

-- the line of a number was read as a bucket's: the bucket, or that there is no line, or that it is bad
abbrev pub ReadsBucket : ℕ → ℕ → Option (List ℕ) → Option (List ℕ) → Option (List ℕ) → Result (Option (ℕ × ℕ)) PlanFault → Type 0
ReadsBucket cores number before after left (Ok (Some b)) = TakesAs (bucket_line cores) before after (record { owner = b.0; load = b.1 }) × (b.0 < cores) × (b.1 ≤ MOST_LOAD)
ReadsBucket cores number before after left (Ok None) = NoLine before × IsAtEnd left
ReadsBucket cores number before after left (Err (BadLine k)) = (k ≡ number) × IfSome before (λ xs. (line : List ℕ) × (rest : List (List ℕ)) × (lines xs ≡ line ∷ rest) × (bucket_line cores line ≡ None))
ReadsBucket cores number before after left (Err ReadFault) = ⊤
ReadsBucket cores number before after left (Err WriteFault) = ⊥
ReadsBucket cores number before after left (Err NoMemory) = ⊥
