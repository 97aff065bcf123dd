-- A worker at ends that serve it alone.
use Rattle.std.specs.Prelude.{◌≡◌, ℕ, ◌<◌, true, false, [], map, reverse}
use Rattle.bucket_table.specs.Table.{TableOf}
use Rattle.handover_core.specs.Spans.{spans_in}
use Rattle.core_queue.specs.declared.history.LaneHistory.{LaneHistory}
use Rattle.core_queue.specs.Cells.{plain}
use Rattle.parked_queue.specs.Parked.{AllEmpty}
use Rattle.handover_words.specs.declared.history.ShelfHistory.{ShelfHistory}
use Rattle.load_meter.specs.declared.history.LoadHistory.{LoadHistory}
use Rattle.worker_loop.specs.Workload.{Workload}
use Rattle.worker_loop.specs.WorkerState.{WorkerState}
use Rattle.worker_loop.specs.Counts.{more, packets_taken}
use Rattle.worker_loop.specs.Tied.{Tied}
use Rattle.worker_loop.specs.WorkerSnapshot.{NoneLeaves, NoneHeld}
use Rattle.worker_loop.specs.Seats.{HeldBy, Logged}
use Rattle.worker_loop.specs.Custodies.{SeatHasSpans, LogHasSpans, AreEntries, ended_spans, stretch_of}

-- it is tied to its ends; its shelf's end has one share, and holds and ended nothing but what is the worker's; what the end ended, and what the log has, are the stretches of the cells that the worker is done with
pub record IsAtWork {S : Type 0} (j : Workload S) (w : WorkerState (TableOf S)) (lane : LaneHistory) (shelf : ShelfHistory) (meter : LoadHistory) : Type 0 where
  pub tied : Tied j w lane shelf meter
  pub share : shelf.shares ≡ 1
  pub held : HeldBy w shelf
  pub logged : Logged w shelf
  pub seat : SeatHasSpans w lane shelf
  pub log : LogHasSpans w lane
  pub entries : AreEntries w.core w.run.buckets w.log

-- it has ended: it took End, has nothing parked and no table, and its shelf's end holds nothing; it worked each packet that it took; of each bucket the custodies that its shelf's end ended, and those of its log, unless it is short, are the stretches of what it took
pub record IsDone {S : Type 0} (w : WorkerState (TableOf S)) (lane : LaneHistory) (shelf : ShelfHistory) : Type 0 where
  pub took_end : w.took_end ≡ true
  pub none_parked : AllEmpty w.lot
  pub none_leaves : NoneLeaves w
  pub none_held : NoneHeld w
  pub free : shelf.held ≡ []
  pub worked : w.worked ≡ more 0 (packets_taken lane.taken)
  pub seat : (b : ℕ) → b < w.run.buckets → ended_spans b (reverse shelf.ended) ≡ spans_in b (map plain lane.taken)
  pub log : w.short ≡ false → (b : ℕ) → b < w.run.buckets → ended_spans b (map stretch_of w.log) ≡ spans_in b (map plain lane.taken)
