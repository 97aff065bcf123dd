-- What is true of the line of waiting buckets.
use Rattle.std.specs.Prelude.{◌≡◌, ℕ, ◌+◌, ◌≤◌, ◌==◌, Bool, true, false, length, List, [], ◌∷◌, slice_index_or}
use Rattle.packet_pool.specs.declared.cell.Facts.{Facts}

abbrev pub one_if : Bool → ℕ
one_if true = 1
one_if false = 0

-- how often b stands in a list
abbrev pub times_of : ℕ → List ℕ → ℕ
times_of b [] = 0
times_of b (c ∷ cs) = one_if (c == b) + times_of b cs

abbrev pub one_if_some : List Facts → ℕ
one_if_some [] = 0
one_if_some (f ∷ fs) = 1

-- a bucket stands in line once where it has cells, and else not at all; and there is room for all
pub record IsLined (cells : List (List Facts)) (line : List ℕ) (room : ℕ) : Type 0 where
  pub room_for : length cells ≤ room
  pub counts : (b : ℕ) → times_of b line ≡ one_if_some (slice_index_or cells b [])
