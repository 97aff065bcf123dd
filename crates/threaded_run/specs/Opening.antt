-- What a run in threads is made of at its start.
use Rattle.std.specs.Prelude.{◌≡◌, ℕ, ◌+◌, List, length, Some, slice_get}
use Rattle.core_queue.specs.NewHistory.{new_history}
use Rattle.core_queue.specs.RuledLane.{SharedLane, AtLane}
use Rattle.packet_pool.specs.RuledPool.{AtPool}
use Rattle.handover_words.specs.ShelfHistory.{fresh}
use Rattle.handover_words.specs.WordShelf.{AtShelf}
use Rattle.load_meter.specs.LoadHistory as loads
use Rattle.load_meter.specs.Meter.{AtMeter}
use Rattle.dispatch_loop.specs.OptionsView.{OptionsView}
use Rattle.run_shifts.specs.Parties.{SharedView}
use Rattle.threaded_run.specs.PartyLists.{new_passes}

-- a pass of the lane of a core from which nothing was taken
pub record IsNewTaker (o : SharedView) (c : ℕ) (t : AtLane) : Type 0 where
  pub lane : SharedLane
  pub lane_is : slice_get o.lanes c ≡ Some lane
  pub home : t.home ≡ lane.home
  pub history : t.history ≡ new_history o.shelf.run.key o.shelf.run.buckets

-- what all parties of a run with these options share, with the passes of its lanes and of its pool, and the one seat of its shelf and of its meter: nothing was done yet
pub record IsShared (o : OptionsView) (place : SharedView) (senders takers : List AtLane) (cells : List AtPool) (own_cells : AtPool) (seat : AtShelf) (load : AtMeter) : Type 0 where
  pub lanes : length place.lanes ≡ o.cores
  pub senders_are : senders ≡ new_passes o.key (length o.start.owners) place.lanes
  pub takers_are : takers ≡ new_passes o.key (length o.start.owners) place.lanes
  pub run : place.shelf.run ≡ record { key = o.key; buckets = length o.start.owners; ends = o.cores + 1 }
  pub seat_is : seat ≡ record { home = place.shelf.home; history = fresh o.key (length o.start.owners) (o.cores + 1) }
  pub cells_many : length cells ≡ o.cores
  pub cells_are : (i : ℕ) (q : AtPool) → slice_get cells i ≡ Some q → q.home ≡ place.pool.home
  pub own : own_cells.home ≡ place.pool.home
  pub meter : place.meter.cores ≡ o.cores
  pub load_is : load ≡ record { home = place.meter.home; history = loads.fresh o.cores }
