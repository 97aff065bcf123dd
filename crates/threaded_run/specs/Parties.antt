-- The parties of a run, before their first shift and behind their last one.
use Rattle.std.specs.Prelude.{◌≡◌, ℕ, ◌+◌, List, length, Option}
use Rattle.packet_fields.specs.declared.packet.PacketInfo.{PacketInfo}
use Rattle.pcap_reader.specs.Reading.{Reading}
use Rattle.bucket_table.specs.Table.{TableOf}
use Rattle.packet_pool.specs.RuledPool.{AtPool}
use Rattle.core_queue.specs.declared.history.LaneHistory.{LaneHistory}
use Rattle.core_queue.specs.RuledLane.{AtLane}
use Rattle.handover_words.specs.declared.history.ShelfHistory.{ShelfHistory}
use Rattle.handover_words.specs.WordShelf.{AtShelf}
use Rattle.load_meter.specs.declared.history.LoadHistory.{LoadHistory}
use Rattle.load_meter.specs.Meter.{AtMeter}
use Rattle.worker_loop.specs.WorkerState.{WorkerView}
use Rattle.worker_loop.specs.Workload.{Workload}
use Rattle.dispatch_loop.specs.declared.dispatcher_end.DispatcherEnd.{DispatcherEnd}
use Rattle.dispatch_loop.specs.DispatcherState.{DispatcherState}
use Rattle.dispatch_loop.specs.Fresh.{fresh_dispatcher_state}
use Rattle.dispatch_loop.specs.Past.{past}
use Rattle.dispatch_loop.specs.Terms.{Terms, cores_of, buckets_of}
use Rattle.dispatch_loop.specs.Tied.{Tied}
use Rattle.run_shifts.specs.DispatcherTurns.{HasFinished}
use Rattle.run_shifts.specs.Parties.{SharedView}
use Rattle.run_shifts.specs.WorkerParties.{AreWorkerParties}
use Rattle.run_shifts.specs.declared.worker_party.WorkerParty.{WorkerParty}
use Rattle.threaded_run.specs.PartyLists.{new_passes, IsFreeSeat, AreOfLanes}

-- a dispatcher on these terms that did nothing yet, with the passes and seats of its ends, and a worker's party for each core
pub record AreParties {S : Type 0} (j : Workload S) (t : Terms) (place : SharedView) (dispatcher : DispatcherState) (senders : List AtLane) (seat : AtShelf) (load : AtMeter) (cells : AtPool) (worker_parties : List (WorkerParty (WorkerView (TableOf S)) (TableOf S))) : Type 0 where
  pub fresh : dispatcher ≡ fresh_dispatcher_state t
  pub lanes : length place.lanes ≡ cores_of t
  pub senders_are : senders ≡ new_passes t.key (buckets_of t) place.lanes
  pub run : place.shelf.run ≡ record { key = t.key; buckets = buckets_of t; ends = cores_of t + 1 }
  pub seat_is : IsFreeSeat place.shelf seat
  pub share : seat.history.shares ≡ 1
  pub load_home : load.home ≡ place.meter.home
  pub load_cores : load.history.cores ≡ cores_of t
  pub cells_home : cells.home ≡ place.pool.home
  pub worker_parties_are : AreWorkerParties j place worker_parties
  pub worker_parties_many : length worker_parties ≡ cores_of t

-- the passes of the lanes and the dispatcher's seat, as they come back: of the same objects, and the seat ended nothing
pub record IsBack (place : SharedView) (senders : List AtLane) (seat : AtShelf) (senders' : List AtLane) (seat' : AtShelf) : Type 0 where
  pub many : length senders' ≡ length senders
  pub lanes : AreOfLanes place.lanes senders'
  pub seat_is : IsFreeSeat place.shelf seat'
  pub share : seat'.history.shares ≡ seat.history.shares

-- the dispatcher has finished on these terms, and is tied to the packets that it sent, and to its lanes
pub record HasRun (packets : Option (List PacketInfo)) (t : Terms) (bytes : Option (List ℕ)) (end : DispatcherEnd) (f : DispatcherState) (lanes : List LaneHistory) (left : Option (List ℕ)) : Type 0 where
  pub terms : f.terms ≡ t
  pub finished : HasFinished end f
  pub sent : List PacketInfo
  pub shelf : ShelfHistory
  pub meter : LoadHistory
  pub reader : Reading
  pub tied : Tied packets (past bytes sent) f lanes shelf meter reader left
