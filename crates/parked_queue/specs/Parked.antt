-- Parked cells.
use Rattle.std.specs.Prelude.{◌≡◌, ℕ, ◌==◌, if◌then◌else◌, List, [], ◌∷◌, ◌++◌, replicate, Option, Some, None, slice_index_or, slice_set}
use Rattle.packet_pool.specs.declared.cell.Facts.{Facts}

-- the parked cells of each bucket, oldest first, and the buckets that have some, in the order in which they began to wait
pub record Parked : Type 0 where
  pub cells : List (List Facts)
  pub waiting : List ℕ

abbrev pub waits : List (List Facts) → List ℕ → Parked
waits cells waiting = record { cells = cells; waiting = waiting }

-- no bucket of n has a cell
abbrev pub no_cells : ℕ → Parked
no_cells n = waits (replicate n []) []

-- the parked cells of a bucket
abbrev pub cells_at : ℕ → Parked → List Facts
cells_at b p = slice_index_or p.cells b []

-- no bucket has a cell
abbrev pub AllEmpty : Parked → Type 0
AllEmpty p = (b : ℕ) → cells_at b p ≡ []

-- the place of the oldest cell, if there is one
abbrev pub place_of : List Facts → Option ℕ
place_of [] = None
place_of (f ∷ fs) = Some f.place

abbrev pub first_place : ℕ → Parked → Option ℕ
first_place b p = place_of (cells_at b p)

-- this is the oldest cell
abbrev pub FirstIs : Facts → List Facts → Type 0
FirstIs f [] = ⊥
FirstIs f (g ∷ gs) = g ≡ f

abbrev pub but_first : List Facts → List Facts
but_first [] = []
but_first (f ∷ fs) = fs

-- a bucket that had no cell begins to wait
abbrev pub also_waits : List Facts → ℕ → List ℕ → List ℕ
also_waits [] b bs = bs ++ b ∷ []
also_waits (f ∷ fs) b bs = bs

-- the list without its first b
abbrev pub removed : ℕ → List ℕ → List ℕ
removed b [] = []
removed b (c ∷ cs) = if c == b then cs else c ∷ removed b cs

-- a bucket that has no cell left waits no more
abbrev pub still_waits : List Facts → ℕ → List ℕ → List ℕ
still_waits [] b bs = removed b bs
still_waits (f ∷ fs) b bs = bs

-- a cell is parked behind those of its bucket
abbrev pub parked : Facts → Parked → Parked
parked f p = waits (slice_set p.cells f.bucket (cells_at f.bucket p ++ f ∷ [])) (also_waits (cells_at f.bucket p) f.bucket p.waiting)

-- the oldest cell of a bucket is taken
abbrev pub unparked : ℕ → Parked → Parked
unparked b p = waits (slice_set p.cells b (but_first (cells_at b p))) (still_waits (but_first (cells_at b p)) b p.waiting)
