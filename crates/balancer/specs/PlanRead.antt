-- What reading a whole plan text gives.
use Rattle.std.specs.Prelude.{ℕ, ◌≡◌, ◌≤◌, ◌<◌, List, ◌∷◌, map, length, All, Option, None, Some, IfSome, Result, Ok, Err, ⊤}
use Rattle.std.specs.Io.KnownBytes.{IsAtEnd}
use Rattle.indirection.specs.declared.limits.TheConstants.{MOST_CORES, MOST_BUCKETS}
use Rattle.balancer.specs.declared.limits.TheConstants.{MOST_LOAD, MOST_PROPOSALS, FIRST_BUCKET_LINE}
use Rattle.balancer.specs.declared.plan_fault.PlanFault.{PlanFault}
use Rattle.balancer.specs.declared.plan_fault.PlanFault.TheVariants.{ReadFault, WriteFault, BadLine, NoMemory}
use Rattle.indirection.specs.Tables.{IsTable}
use Rattle.balancer.specs.declared.plan_reader.Head.{Head}
use Rattle.balancer.specs.declared.plan_reader.Plan.{Plan}
use Rattle.balancer.specs.Standing.{AreLoads}
use Rattle.balancer.specs.Lines.{lines}
use Rattle.balancer.specs.PlanForm.{Bucket, cores_line, limit_line, base_line, buckets_from, Instance, instance_in, instance_of}

-- the known bytes lose their first three lines, which tell this
abbrev pub TakesHead : Option (List ℕ) → Option (List ℕ) → Head → Type 0
TakesHead None after h = ⊤
TakesHead (Some xs) None h = ⊥
TakesHead (Some xs) (Some ys) h = (a b c : List ℕ) × (lines xs ≡ a ∷ b ∷ c ∷ lines ys)
    × (cores_line a ≡ Some h.cores) × (limit_line b ≡ Some h.limit) × (base_line h.cores c ≡ Some h.base.items)

-- what came of reading the first three lines
abbrev pub ReadsHead : Option (List ℕ) → Option (List ℕ) → Result Head PlanFault → Type 0
ReadsHead before after (Ok h) = TakesHead before after h
ReadsHead before after (Err (BadLine k)) = IfSome before (λ xs. instance_in (lines xs) ≡ Err k)
ReadsHead before after (Err ReadFault) = ⊤
ReadsHead before after (Err WriteFault) = ⊥
ReadsHead before after (Err NoMemory) = ⊤

-- the numbers of the first three lines are within their limits
pub record IsHead (h : Head) : Type 0 where
  pub some : 1 ≤ h.cores
  pub cores : h.cores ≤ MOST_CORES
  pub limit : h.limit ≤ MOST_PROPOSALS
  pub bases : length h.base.items ≡ h.cores
  pub base : All (λ n. n ≤ MOST_LOAD) h.base.items

-- the owners and loads of these buckets
pub record Lists (bs : List Bucket) (owners loads : List ℕ) : Type 0 where
  pub owners_are : map (λ (b : Bucket). b.owner) bs ≡ owners
  pub loads_are : map (λ (b : Bucket). b.load) bs ≡ loads

-- the known bytes spell buckets with these owners and loads, up to their end
abbrev pub SpellsBuckets : ℕ → Option (List ℕ) → List ℕ → List ℕ → Type 0
SpellsBuckets cores before owners loads = IfSome before (λ xs. (bs : List Bucket) × Lists bs owners loads × (buckets_from cores FIRST_BUCKET_LINE (lines xs) ≡ Ok bs))

-- what came of reading the lines of the buckets
abbrev pub ReadsBuckets : ℕ → Option (List ℕ) → Option (List ℕ) → List ℕ → List ℕ → Result Unit PlanFault → Type 0
ReadsBuckets cores before left owners loads (Ok u) = SpellsBuckets cores before owners loads × IsAtEnd left
ReadsBuckets cores before left owners loads (Err (BadLine k)) = IfSome before (λ xs. buckets_from cores FIRST_BUCKET_LINE (lines xs) ≡ Err k)
ReadsBuckets cores before left owners loads (Err ReadFault) = ⊤
ReadsBuckets cores before left owners loads (Err WriteFault) = ⊥
ReadsBuckets cores before left owners loads (Err NoMemory) = ⊤

-- the owners are cores, the loads within their limit, and there are as many of both
pub record AreBuckets (cores : ℕ) (owners loads : List ℕ) : Type 0 where
  pub same : length loads ≡ length owners
  pub most : length owners ≤ MOST_BUCKETS
  pub owned : All (λ owner. owner < cores) owners
  pub light : All (λ load. load ≤ MOST_LOAD) loads

-- the instance that a plan holds
abbrev pub instance_of_plan : Plan → Instance
instance_of_plan plan = record { cores = plan.table.cores; limit = plan.limit; loads = plan.loads; owners = plan.table.owners }

-- what came of reading a whole text
abbrev pub ReadsPlan : Option (List ℕ) → Option (List ℕ) → Result Plan PlanFault → Type 0
ReadsPlan before left (Ok plan) = IfSome before (λ xs. instance_of xs ≡ Ok (instance_of_plan plan)) × IsAtEnd left
ReadsPlan before left (Err (BadLine k)) = IfSome before (λ xs. instance_of xs ≡ Err k)
ReadsPlan before left (Err ReadFault) = ⊤
ReadsPlan before left (Err WriteFault) = ⊥
ReadsPlan before left (Err NoMemory) = ⊤

-- the numbers of a plan are within their limits
pub record IsPlan (plan : Plan) : Type 0 where
  pub table : IsTable plan.table
  pub loads : AreLoads plan.table.cores (length plan.table.owners) plan.loads
  pub limit : plan.limit ≤ MOST_PROPOSALS
