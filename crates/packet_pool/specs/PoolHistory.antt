-- What an end of a pool knows, and what its calls make of it.
use Rattle.std.specs.Prelude.{◌≡◌, ℕ, ◌+◌, ◌-◌, ◌<◌, Option, Some, None, Result, Ok, Err}
use Rattle.packet_pool.specs.declared.history.PoolHistory.{PoolHistory}

-- a cell was taken
abbrev pub took_cell : PoolHistory → PoolHistory
took_cell e = record { taken = e.taken + 1; given = e.given; empties = e.empties; fulls = e.fulls }

-- the pool was met empty
abbrev pub none_left : PoolHistory → PoolHistory
none_left e = record { taken = e.taken; given = e.given; empties = e.empties + 1; fulls = e.fulls }

-- a cell was given
abbrev pub gave_cell : PoolHistory → PoolHistory
gave_cell e = record { taken = e.taken; given = e.given + 1; empties = e.empties; fulls = e.fulls }

-- the pool was met with all its cells
abbrev pub no_room : PoolHistory → PoolHistory
no_room e = record { taken = e.taken; given = e.given; empties = e.empties; fulls = e.fulls + 1 }

-- how many cells a pool holds, and how many it was made with
pub record Store : Type 0 where
  pub cells : ℕ
  pub room : ℕ

abbrev pub store : ℕ → ℕ → Store
store cells room = record { cells = cells; room = room }

-- a take gives a cell exactly where the pool holds one
abbrev pub TakesCell : {A : Type 0} → Option Store → Option A → Option Store → Type 0
TakesCell None result now = now ≡ None
TakesCell (Some old) None now = (old.cells ≡ 0) × (now ≡ Some old)
TakesCell (Some old) (Some cell) now = (0 < old.cells) × (now ≡ Some (store (old.cells - 1) old.room))

-- a cell is handed back exactly where the pool holds all its cells
abbrev pub GivesCell : {A E : Type 0} → Option Store → Result A E → Option Store → Type 0
GivesCell None result now = now ≡ None
GivesCell (Some old) (Ok _) now = (old.cells < old.room) × (now ≡ Some (store (old.cells + 1) old.room))
GivesCell (Some old) (Err _) now = (old.cells ≡ old.room) × (now ≡ Some old)
