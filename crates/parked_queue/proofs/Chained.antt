-- The chains of a lot, as lists.
use Rattle.std.proofs.Common.{◌≡◌, ℕ, true, List, ◌++◌, length, map, set, reverse, Option, Some, None, is_some, refl}
use Rattle.std.proofs.lemmas.List.{map-set, length-map}
use Rattle.packet_pool.specs.declared.cell.Cell.{Cell, Cell'}
use Rattle.packet_pool.specs.declared.cell.Facts.{Facts}
use Rattle.packet_pool.specs.Chain.{chain, cell_chain}
use Rattle.parked_queue.specs.declared.chains.Chains.{Chains}
use Rattle.parked_queue.specs.Parked.{also_waits, still_waits}
use Rattle.parked_queue.specs.Chained.{cells_in}

abbrev pub Held : Type 0
Held = Option Chains

pub map_set : (l : List Held) (i : ℕ) (y : Held) → map cells_in (set l i y) ≡ set (map cells_in l) i (cells_in y)
map_set l i y = map-set cells_in l i y

pub map_length : (l : List Held) → length (map cells_in l) ≡ length l
map_length l = length-map l cells_in

waits_on : (x : Cell) (more : List Facts) (b : ℕ) (line : List ℕ) → line ≡ also_waits (cell_chain x ++ more) b line
waits_on (Cell' info bucket place kind next) more b line = refl

goes_on : (x : Cell) (more : List Facts) (b : ℕ) (line : List ℕ) → line ≡ still_waits (cell_chain x ++ more) b line
goes_on (Cell' info bucket place kind next) more b line = refl

-- a bucket that has cells waits already, and one that keeps some waits on
pub also_waits-some : (l : Held) (b : ℕ) (line : List ℕ) → is_some l ≡ true → line ≡ also_waits (cells_in l) b line
also_waits-some None b line h = absurd (cc)
also_waits-some (Some c) b line h = waits_on c.front.value (reverse (chain c.back)) b line

pub still_waits-some : (l : Held) (b : ℕ) (line : List ℕ) → is_some l ≡ true → line ≡ still_waits (cells_in l) b line
still_waits-some None b line h = absurd (cc)
still_waits-some (Some c) b line h = goes_on c.front.value (reverse (chain c.back)) b line
