-- The two chains of a bucket as one list, oldest cell first.
use Rattle.std.specs.Prelude.{List, [], ◌++◌, reverse, Option, Some, None}
use Rattle.packet_pool.specs.declared.cell.Facts.{Facts}
use Rattle.packet_pool.specs.Chain.{chain, cell_chain}
use Rattle.parked_queue.specs.declared.chains.Chains.{Chains}

-- the cells of a bucket that has some: those of the front chain, then those of the back chain, which is newest first
abbrev pub cells_of : Chains → List Facts
cells_of c = cell_chain c.front.value ++ reverse (chain c.back)

-- the cells of a bucket
abbrev pub cells_in : Option Chains → List Facts
cells_in None = []
cells_in (Some c) = cells_of c
