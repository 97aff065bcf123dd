-- The numbers below a bound, in order.
use Rattle.std.proofs.Common.{◌≡◌, ℕ, zero, suc, ◌<◌, ◌≤◌, ◌%◌, [], ◌∷◌, length, length-append, map, All, get_or, arith, refl}
use Rattle.std.proofs.lemmas.List.{length-map}
use Rattle.std.proofs.lemmas.List.Elements.{All-map}
use Rattle.indirection.specs.Tries.{upto}
use Rattle.indirection.specs.Tables.{IsTable, owners_in_turn}
use Rattle.indirection.specs.declared.limits.TheConstants.{MOST_CORES, MOST_BUCKETS}

pub length-upto : (n : ℕ) → length (upto n) ≡ n
length-upto zero = refl
length-upto (suc n) = omega (arith, length-append (upto n) (n ∷ []), length-upto n)

-- what holds of each answer holds of the answers for the numbers below a bound
pub All-map-upto : (P : ℕ → Type 0) (f : ℕ → ℕ) (n : ℕ) → ((k : ℕ) → P (f k)) → All P (map f (upto n))
All-map-upto P f n each = All-map P f (upto n) (λ k d _. each (get_or (upto n) k d))

pub length-owners_in_turn : (cores buckets : ℕ) → length (owners_in_turn cores buckets) ≡ buckets
length-owners_in_turn cores buckets = simp (length-map, length-upto)

pub All-owners_in_turn : (cores buckets : ℕ) → 0 < cores → All (λ owner. owner < cores) (owners_in_turn cores buckets)
All-owners_in_turn cores buckets some = All-map-upto (λ owner. owner < cores) (λ b. b % cores) buckets (λ b. omega arith)

-- a new table is one
pub IsTable-in_turn : (cores buckets : ℕ) → 1 ≤ cores → cores ≤ MOST_CORES → 1 ≤ buckets → buckets ≤ MOST_BUCKETS → IsTable (record { cores = cores; owners = owners_in_turn cores buckets })
IsTable-in_turn cores buckets some_core few_cores some_bucket few_buckets = record {
  some_core = some_core;
  cores = few_cores;
  some_bucket = omega (arith, length-owners_in_turn cores buckets);
  buckets = omega (arith, length-owners_in_turn cores buckets);
  owners = All-owners_in_turn cores buckets some_core;
}
