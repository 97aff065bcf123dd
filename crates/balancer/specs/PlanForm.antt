-- The instance that a plan text spells, or its first bad line.
use Rattle.std.specs.Prelude.{ℕ, ◌+◌, List, [], ◌∷◌, length, drop, map, if◌then◌else◌, ◌==◌, nat_le, nat_lt, ◌&&◌, Option, Some, None, Result, Ok, Err, codes, ok_or}
use Rattle.std.specs.List.{list_all}
use Rattle.indirection.specs.Views.{LoadsView}
use Rattle.indirection.specs.declared.limits.TheConstants.{MOST_CORES, MOST_BUCKETS}
use Rattle.balancer.specs.declared.limits.TheConstants.{MOST_LOAD, MOST_PROPOSALS, FIRST_BUCKET_LINE}
use Rattle.balancer.specs.Lines.{lines}
use Rattle.balancer.specs.Numbers.{numbers_behind}

-- the one number of the list, where it is within the bounds
abbrev pub one_within : ℕ → ℕ → Option (List ℕ) → Option ℕ
one_within low high (Some (n ∷ [])) = if nat_le low n && nat_le n high then Some n else None
one_within low high _ = None

-- the numbers, where they are so many and none is above the limit of a load
abbrev pub loads_within : ℕ → Option (List ℕ) → Option (List ℕ)
loads_within count (Some ns) = if (length ns == count) && list_all (λ n. nat_le n MOST_LOAD) ns then Some ns else None
loads_within count None = None

-- a bucket's owner and load
pub record Bucket : Type 0 where
  pub owner : ℕ
  pub load : ℕ

-- the two numbers, where the first is a core and the second a load
abbrev pub bucket_within : ℕ → Option (List ℕ) → Option Bucket
bucket_within cores (Some (owner ∷ load ∷ [])) = if nat_lt owner cores && nat_le load MOST_LOAD then Some (record { owner = owner; load = load }) else None
bucket_within cores _ = None

-- what each kind of line spells

-- `cores N`
abbrev pub cores_line : List ℕ → Option ℕ
cores_line line = one_within 1 MOST_CORES (numbers_behind (codes "cores") line)

-- `limit M`
abbrev pub limit_line : List ℕ → Option ℕ
limit_line line = one_within 0 MOST_PROPOSALS (numbers_behind (codes "limit") line)

-- `base` and a number for each core
abbrev pub base_line : ℕ → List ℕ → Option (List ℕ)
base_line cores line = loads_within cores (numbers_behind (codes "base") line)

-- `bucket OWNER LOAD`
abbrev pub bucket_line : ℕ → List ℕ → Option Bucket
bucket_line cores line = bucket_within cores (numbers_behind (codes "bucket") line)

-- what a form makes of the first line
abbrev pub first : {A : Type 0} → (List ℕ → Option A) → List (List ℕ) → Option A
first form [] = None
first form (l ∷ ls) = form l

-- the second, where the first is no bad line
abbrev pub go_on : {A B : Type 0} → Result A ℕ → (A → Result B ℕ) → Result B ℕ
go_on (Ok x) f = f x
go_on (Err line) f = Err line

-- a bucket in front of others, unless there is a bad line
abbrev pub in_front : Result Bucket ℕ → Result (List Bucket) ℕ → Result (List Bucket) ℕ
in_front (Err line) bs = Err line
in_front (Ok b) (Err line) = Err line
in_front (Ok b) (Ok bs) = Ok (b ∷ bs)

-- the buckets of these lines, the first of which has this number: at least one, and no more than the limit
abbrev pub buckets_from : ℕ → ℕ → List (List ℕ) → Result (List Bucket) ℕ
buckets_from cores number [] = if number == FIRST_BUCKET_LINE then Err number else Ok []
buckets_from cores number (l ∷ ls) =
    if nat_lt number (FIRST_BUCKET_LINE + MOST_BUCKETS) then in_front (ok_or (bucket_line cores l) number) (buckets_from cores (number + 1) ls) else Err number

-- an instance: how many cores, the limit of the round, the loads, and the owners of the buckets
pub record Instance : Type 0 where
  pub cores : ℕ
  pub limit : ℕ
  pub loads : LoadsView
  pub owners : List ℕ

-- the instance with these buckets
abbrev pub instance_with : ℕ → ℕ → List ℕ → List Bucket → Instance
instance_with cores limit base buckets = record {
  cores = cores;
  limit = limit;
  loads = record { bucket = map (λ (b : Bucket). b.load) buckets; base = base };
  owners = map (λ (b : Bucket). b.owner) buckets;
}

-- the instance of these lines, or the number of the first bad line
abbrev pub instance_in : List (List ℕ) → Result Instance ℕ
instance_in ls =
    go_on (ok_or (first cores_line ls) 1) (λ cores.
    go_on (ok_or (first limit_line (drop 1 ls)) 2) (λ limit.
    go_on (ok_or (first (base_line cores) (drop 2 ls)) 3) (λ base.
    go_on (buckets_from cores FIRST_BUCKET_LINE (drop 3 ls)) (λ buckets.
    Ok (instance_with cores limit base buckets)))))

-- the instance that a text spells, or the number of its first bad line
abbrev pub instance_of : List ℕ → Result Instance ℕ
instance_of text = instance_in (lines text)
