-- The buckets by rank, and what a search among them finds.
use Rattle.std.specs.Prelude.{ℕ, ◌<◌, ◌≤◌, ◌≡◌, ◌⊎◌, List, map, length, All, slice_index, slice_index_or, ◌==◌, nat_lt, Bool, false, ◌&&◌, ◌||◌, Option, Some, None}
use Rattle.std.specs.List.{list_any}
use Rattle.indirection.specs.Views.{LoadsView}
use Rattle.indirection.specs.Tries.{upto}
use Rattle.balancer.specs.declared.ranked.Ranked.{Ranked}
use Rattle.balancer.specs.Greedy.{RoundState}

-- a bucket as it is ranked
abbrev pub ranked : LoadsView → List ℕ → ℕ → Ranked
ranked loads owners b = record { owner = slice_index owners b; load = slice_index loads.bucket b; bucket = b }

-- the first n buckets, by number
abbrev pub all_ranked : LoadsView → List ℕ → ℕ → List Ranked
all_ranked loads owners n = map (λ b. ranked loads owners b) (upto n)

-- x stands before y: by owner, then by load, then by number
abbrev pub Before : Ranked → Ranked → Type 0
Before x y = (x.owner < y.owner) ⊎ ((x.owner ≡ y.owner) × ((x.load < y.load) ⊎ ((x.load ≡ y.load) × (x.bucket < y.bucket))))

-- none stands before an earlier one
abbrev pub IsInOrder : List Ranked → Type 0
IsInOrder xs = (i j : ℕ) (d : Ranked) → i ≤ j → j < length xs → ¬ (Before (slice_index_or xs j d) (slice_index_or xs i d))

-- as a test: x stands before each bucket of the core with at least this load
abbrev pub is_below : ℕ → ℕ → Ranked → Bool
is_below core load x = nat_lt x.owner core || (x.owner == core && nat_lt x.load load)

-- a bucket with its load, and its owner unless it was proposed
pub record IsEntry (loads : LoadsView) (owners taken : List ℕ) (x : Ranked) : Type 0 where
  pub bucket : x.bucket < length owners
  pub load : x.load ≡ slice_index loads.bucket x.bucket
  pub owner : list_any (λ b. b == x.bucket) taken ≡ false → slice_index owners x.bucket ≡ x.owner

-- all buckets, in order
pub record IsRanking (loads : LoadsView) (owners taken : List ℕ) (xs : List Ranked) : Type 0 where
  pub each : All (IsEntry loads owners taken) xs
  pub every : (b : ℕ) → b < length owners → (i : ℕ) × (i < length xs) × ((d : Ranked) → (slice_index_or xs i d).bucket ≡ b)
  pub order : IsInOrder xs

-- the core's, and not proposed yet
pub record IsFree (s : RoundState) (core b : ℕ) : Type 0 where
  pub bucket : b < length s.owners
  pub owner : slice_index s.owners b ≡ core
  pub once : list_any (λ x. x == b) s.taken ≡ false

-- of the core's free buckets with at least this load, the lowest of the least load
abbrev pub IsFirstFree : RoundState → ℕ → ℕ → Option ℕ → Type 0
IsFirstFree s core load None = (b : ℕ) → IsFree s core b → slice_index s.loads.bucket b < load
IsFirstFree s core load (Some f) =
    IsFree s core f × (load ≤ slice_index s.loads.bucket f)
    × ((b : ℕ) → IsFree s core b → load ≤ slice_index s.loads.bucket b
    → (slice_index s.loads.bucket f < slice_index s.loads.bucket b) ⊎ ((slice_index s.loads.bucket f ≡ slice_index s.loads.bucket b) × (f ≤ b)))

-- of the loads of the core's free buckets that are below this one, the greatest
abbrev pub IsLastFree : RoundState → ℕ → ℕ → Option ℕ → Type 0
IsLastFree s core load None = (b : ℕ) → IsFree s core b → load ≤ slice_index s.loads.bucket b
IsLastFree s core load (Some l) =
    ((f : ℕ) × IsFree s core f × (slice_index s.loads.bucket f ≡ l)) × (l < load)
    × ((b : ℕ) → IsFree s core b → slice_index s.loads.bucket b < load → slice_index s.loads.bucket b ≤ l)
