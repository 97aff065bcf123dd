-- What every table keeps, and what a list is refused for.
use Rattle.std.specs.Prelude.{ℕ, ◌<◌, ◌≤◌, ◌≡◌, ◌≢◌, ◌^◌, ◌-◌, ◌%◌, List, map, length, min, slice_get, position, nat_le, Option, Some, None, All}
use Rattle.indirection.specs.declared.limits.TheConstants.{MOST_CORES, MOST_BUCKETS}
use Rattle.indirection.specs.declared.table_fault.TableFault.{TableFault}
use Rattle.indirection.specs.declared.table_fault.TableFault.TheVariants.{NoMemory, BadCount, BadCore}
use Rattle.indirection.specs.Views.{TableView}
use Rattle.indirection.specs.Tries.{upto}

-- there are cores and buckets, no more than the limits, and each owner is one of the cores
pub record IsTable (t : TableView) : Type 0 where
  pub some_core : 1 ≤ t.cores
  pub cores : t.cores ≤ MOST_CORES
  pub some_bucket : 1 ≤ length t.owners
  pub buckets : length t.owners ≤ MOST_BUCKETS
  pub owners : All (λ owner. owner < t.cores) t.owners

-- the owners of a new table: bucket b is of core b modulo the number of cores
abbrev pub owners_in_turn : ℕ → ℕ → List ℕ
owners_in_turn cores buckets = map (λ b. b % cores) (upto buckets)

-- the place of the first entry that is no core
abbrev pub first_bad : ℕ → List ℕ → Option ℕ
first_bad cores list = position (λ core. nat_le cores core) list

-- the list is refused so, as the owners of so many buckets among so many cores: by its length first, then by its first bad entry, and for want of memory last
abbrev pub IsRefusedBy : ℕ → ℕ → List ℕ → TableFault → Type 0
IsRefusedBy cores buckets list (BadCount have want) = (length list ≢ buckets) × (have ≡ min (length list) (2 ^ 32 - 1)) × (want ≡ buckets)
IsRefusedBy cores buckets list (BadCore place core) = (length list ≡ buckets) × (first_bad cores list ≡ Some place) × (slice_get list place ≡ Some core)
IsRefusedBy cores buckets list NoMemory = (length list ≡ buckets) × (first_bad cores list ≡ None)
