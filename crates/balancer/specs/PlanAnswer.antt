-- What each answer to a plan text says.
use Rattle.std.specs.Prelude.{ℕ, ◌≡◌, List, Option, IfSome, Result, Ok, Err, ⊤}
use Rattle.rss_base.specs.Faults.{Rose}
use Rattle.balancer.specs.declared.plan_fault.PlanFault.{PlanFault}
use Rattle.balancer.specs.declared.plan_fault.PlanFault.TheVariants.{ReadFault, WriteFault, BadLine, NoMemory}
use Rattle.balancer.specs.PlanForm.{Instance, instance_of}

-- the known bytes spell this instance
abbrev pub Spells : Option (List ℕ) → Instance → Type 0
Spells left p = IfSome left (λ bytes. instance_of bytes ≡ Ok p)

-- a bad line is the first of the known bytes
abbrev pub Refuses : Option (List ℕ) → PlanFault → Type 0
Refuses left (BadLine k) = IfSome left (λ bytes. instance_of bytes ≡ Err k)
Refuses left ReadFault = ⊤
Refuses left WriteFault = ⊤
Refuses left NoMemory = ⊤

-- a failed write is a write fault, and nothing else was counted as one
abbrev pub MayBlameWrite : PlanFault → ℕ → ℕ → Type 0
MayBlameWrite WriteFault before now = Rose before now
MayBlameWrite ReadFault before now = now ≡ before
MayBlameWrite (BadLine k) before now = now ≡ before
MayBlameWrite NoMemory before now = now ≡ before

-- a failed read is a read fault, and nothing else was counted as one
abbrev pub MayBlameRead : PlanFault → ℕ → ℕ → Type 0
MayBlameRead ReadFault before now = Rose before now
MayBlameRead WriteFault before now = now ≡ before
MayBlameRead (BadLine k) before now = now ≡ before
MayBlameRead NoMemory before now = now ≡ before

-- the answer is that all was done, or want of memory
abbrev pub IsDone : {T : Type 0} → Result T PlanFault → Type 0
IsDone (Ok u) = ⊤
IsDone (Err NoMemory) = ⊤
IsDone (Err ReadFault) = ⊥
IsDone (Err WriteFault) = ⊥
IsDone (Err (BadLine k)) = ⊥

-- the answer is this bad line, or want of memory
abbrev pub IsRefused : {T : Type 0} → ℕ → Result T PlanFault → Type 0
IsRefused k (Ok u) = ⊥
IsRefused k (Err NoMemory) = ⊤
IsRefused k (Err ReadFault) = ⊥
IsRefused k (Err WriteFault) = ⊥
IsRefused k (Err (BadLine line)) = line ≡ k
