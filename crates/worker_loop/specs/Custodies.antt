-- The custodies that a worker ended are the stretches of the cells that it is done with.
use Rattle.std.specs.Prelude.{◌≡◌, ℕ, ◌<◌, ◌==◌, if◌then◌else◌, false, List, [], ◌∷◌, ◌++◌, map, reverse, Some}
use Rattle.bucket_table.specs.Table.{TableOf}
use Rattle.bucket_table.specs.declared.custody.Custody.{Custody}
use Rattle.packet_pool.specs.declared.cell.Facts.{Facts}
use Rattle.core_queue.specs.declared.item.Seen.{Seen}
use Rattle.core_queue.specs.declared.history.LaneHistory.{LaneHistory}
use Rattle.parked_queue.specs.Parked.{cells_at}
use Rattle.handover_words.specs.declared.history.ShelfHistory.{ShelfHistory}
use Rattle.handover_words.specs.declared.history.Stretch.{Stretch}
use Rattle.worker_loop.specs.declared.slot.Slot.{Slot}
use Rattle.worker_loop.specs.declared.slot.Slot.TheVariants.{Away, Held, Leaving}
use Rattle.worker_loop.specs.declared.worker_turn.WorkerTurn.{WorkerTurn}
use Rattle.worker_loop.specs.declared.worker_turn.WorkerTurn.TheVariants.{Released}
use Rattle.worker_loop.specs.WorkerState.{WorkerState}
use Rattle.worker_loop.specs.Chains.{cells_of}
use Rattle.worker_loop.specs.Tied.{slot_at}
use Rattle.worker_loop.specs.Shows.{from_of}
use Rattle.handover_core.specs.Spans.{Span, Spans, no_spans, spans_by, spans_of}

-- the stretches of some cells of one bucket
abbrev pub cell_spans : Spans → List Facts → Spans
cell_spans d [] = d
cell_spans d (f ∷ fs) = cell_spans (spans_by f.kind f.place d) fs

-- the ended custodies of a bucket, in their order
abbrev pub ended_spans : ℕ → List Stretch → List Span
ended_spans b [] = []
ended_spans b (e ∷ es) = (if e.bucket == b then (e.from, e.to) ∷ [] else []) ++ ended_spans b es

-- the custody of a table that the worker has
abbrev pub in_hand : {S : Type 0} → Slot (TableOf S) → List Span
in_hand Away = []
in_hand (Held t) = (from_of t.custody, t.done) ∷ []
in_hand (Leaving t) = (from_of t.custody, t.done) ∷ []

-- what a slot says of the stretches d of the cells that are done with, and of the ended custodies h: a held table's stretch goes on, and all others are ended custodies, but for that of a table on its way out
abbrev pub FitsSpans : {S : Type 0} → Slot (TableOf S) → Spans → List Span → Type 0
FitsSpans Away d h = h ≡ spans_of d
FitsSpans (Held t) d h = (h ≡ d.closed) × (d.open_one ≡ Some (from_of t.custody, t.done))
FitsSpans (Leaving t) d h = h ++ (from_of t.custody, t.done) ∷ [] ≡ spans_of d

-- of one bucket: the cells that were taken are those that are done with and those that are parked, and the custodies are the stretches of the first ones
pub record HasSpans {S : Type 0} (b : ℕ) (done : List Stretch) (taken : List Seen) (slot : Slot (TableOf S)) (cells : List Facts) : Type 0 where
  pub over : List Facts
  pub split : cells_of b taken ≡ over ++ cells
  pub sits : FitsSpans slot (cell_spans no_spans over) (ended_spans b done)

abbrev pub AllHaveSpans : {S : Type 0} → WorkerState (TableOf S) → List Seen → List Stretch → Type 0
AllHaveSpans w taken done = (b : ℕ) → b < w.run.buckets → HasSpans b done taken (slot_at b w) (cells_at b w.lot)

-- the custody that a release ends
abbrev pub ended_at : {S : Type 0} → ℕ → Slot (TableOf S) → List Stretch
ended_at b Away = []
ended_at b (Held t) = []
ended_at b (Leaving t) = record { bucket = b; from = from_of t.custody; to = t.done } ∷ []

-- the custodies that a turn ends
abbrev pub ends_by : {S : Type 0} → WorkerTurn → WorkerState (TableOf S) → List Stretch
ends_by (Released b) w = ended_at b (slot_at b w)
ends_by _ w = []

abbrev pub stretch_of : Custody → Stretch
stretch_of c = record { bucket = c.bucket; from = c.from; to = c.to }

-- the log of a worker that isn't short
abbrev pub LogHasSpans : {S : Type 0} → WorkerState (TableOf S) → LaneHistory → Type 0
LogHasSpans w lane = w.short ≡ false → AllHaveSpans w lane.taken (map stretch_of w.log)

-- what a seat of the worker's own ended
abbrev pub SeatHasSpans : {S : Type 0} → WorkerState (TableOf S) → LaneHistory → ShelfHistory → Type 0
SeatHasSpans w lane e = AllHaveSpans w lane.taken (reverse e.ended)

-- entries of this core's, of the run's buckets
abbrev pub AreEntries : ℕ → ℕ → List Custody → Type 0
AreEntries core n [] = Unit {0}
AreEntries core n (c ∷ cs) = (c.core ≡ core) × (c.bucket < n) × AreEntries core n cs
