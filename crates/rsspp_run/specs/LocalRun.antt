-- The workers of a serial run and what they share, and how they stand to the run's definition.
use Rattle.std.specs.Prelude.{◌≡◌, ℕ, ◌+◌, ◌-◌, ◌<◌, ◌≤◌, List, [], ◌++◌, map, length, false, Option, Some, slice_index_or, slice_set}
use Rattle.toeplitz.specs.Bucket.{bucket_hash}
use Rattle.toeplitz.specs.declared.key.Key.{Key}
use Rattle.bucket_table.specs.Table.{TableOf}
use Rattle.handover_core.specs.declared.item.Item.{Item}
use Rattle.handover_core.specs.declared.event.Event.{Event}
use Rattle.handover_core.specs.State.{MachineView}
use Rattle.handover_core.specs.Machine.{step}
use Rattle.handover_core.specs.Dispatch.{stream}
use Rattle.handover_core.specs.Sound.{IsSound}
use Rattle.packet_pool.specs.LocalPool.{PoolState}
use Rattle.packet_pool.specs.PoolHistory.{store}
use Rattle.core_queue.specs.declared.item.Seen.{Seen}
use Rattle.core_queue.specs.Cells.{plain}
use Rattle.core_queue.specs.declared.history.LaneHistory.{LaneHistory}
use Rattle.core_queue.specs.LaneHistory.{Lane, lane, InOrder}
use Rattle.core_queue.specs.Local.{LocalState, new_lane}
use Rattle.handover_words.specs.LocalShelf.{LocalView}
use Rattle.handover_words.specs.Stock.{stock}
use Rattle.load_meter.specs.LocalMeter.{MeterState}
use Rattle.worker_loop.specs.declared.worker_turn.WorkerTurn.{WorkerTurn}
use Rattle.worker_loop.specs.Workload.{Workload}
use Rattle.worker_loop.specs.WorkerState.{WorkerView}
use Rattle.worker_loop.specs.Fresh.{fresh_worker}
use Rattle.worker_loop.specs.Custodies.{LogHasSpans, AreEntries}
use Rattle.worker_loop.specs.Given.{GivesNow, KeepsAtFull}
use Rattle.worker_loop.specs.WorkerSnapshot.{WorkerSnapshot, worker_snapshot}
use Rattle.worker_loop.specs.Rules.{IsTurn, cells_done}
use Rattle.worker_loop.specs.Tied.{Tied}
use Rattle.handover_core.specs.Machine.{posts_by}
use Rattle.worker_loop.specs.Shows.{Shows}
use Rattle.worker_loop.specs.Turned.{SameTaken, SameClaims, SameNoted, Tells}
use Rattle.rsspp_run.specs.Serial.{RunState, side_at}

-- what a lane tells, and what it holds
abbrev pub history_of : LocalState → LaneHistory
history_of l = l.history

abbrev pub now_of : LocalState → Option Lane
now_of l = Some (lane l.items l.room)

-- the workers, their lanes, and the shelf, pool and meter that all share, as contracts see them
pub record LocalRunView (T : Type 0) : Type 0 where
  pub key : Key
  pub workers : List (WorkerView T)
  pub lanes : List LocalState
  pub shelf : LocalView T
  pub pool : PoolState
  pub meter : MeterState

module _ {T : Type 0} where
  -- the worker of a core, and its lane
  abbrev pub worker_at : LocalRunView T → ℕ → WorkerView T
  worker_at f c = slice_index_or f.workers c (fresh_worker 0 (bucket_hash f.key 0))

  abbrev pub lane_at : LocalRunView T → ℕ → LocalState
  lane_at f c = slice_index_or f.lanes c (new_lane f.key 0 0)

  -- a worker over its ends
  abbrev pub over : WorkerView T → LocalState → LocalView T → MeterState → WorkerSnapshot T
  over w l v m = worker_snapshot w.state l.history (Some (lane l.items l.room)) v.history (Some (stock v.words v.homes)) m.history (Some m.loads)

  abbrev pub worker_snapshot_at : LocalRunView T → ℕ → WorkerSnapshot T
  worker_snapshot_at f c = over (worker_at f c) (lane_at f c) f.shelf f.meter

-- the worker of a core stands as the run says: it is the core of the machine, with its line and its log, it keeps no cell, and the meter tells what the packets cost that it has worked; its lane was sent what the machine sent the core, which is what was taken and then what it holds, and its log has the custodies of what it took
pub record IsWorkerBy {S : Type 0} (x : Workload S) (r : RunState) (c : ℕ) (w : WorkerView (TableOf S)) (l : LocalState) (v : LocalView (TableOf S)) (m : MeterState) : Type 0 where
  pub tied : Tied x w.state l.history v.history m.history
  pub shows : Shows r.machine c (over w l v m)
  pub kept : w.kept ≡ []
  pub line : (side_at r c).line ≡ w.state.lot.waiting
  pub log : w.state.short ≡ false → (side_at r c).log ≡ w.state.log
  pub told : Tells (Some m.loads) c w.state.cost
  pub sent : map plain l.history.sent ≡ stream c r.machine.dispatched
  pub order : InOrder l.history (now_of l)
  pub spans : LogHasSpans w.state l.history
  pub entries : AreEntries w.state.core w.state.run.buckets w.state.log

abbrev pub IsWorkerAt : {S : Type 0} → Workload S → RunState → LocalRunView (TableOf S) → ℕ → Type 0
IsWorkerAt x r f c = IsWorkerBy x r c (worker_at f c) (lane_at f c) f.shelf f.meter

-- all workers do, and the pool holds the machine's free cells
pub record AreWorkersAt {S : Type 0} (x : Workload S) (r : RunState) (f : LocalRunView (TableOf S)) : Type 0 where
  pub sound : IsSound r.machine
  pub workers : length f.workers ≡ length r.machine.cores
  pub lanes : length f.lanes ≡ length r.machine.cores
  pub sides : length r.sides ≡ length r.machine.cores
  pub free : f.pool.cells ≡ r.machine.free
  pub room : f.pool.room ≡ r.machine.pool
  pub each : (c : ℕ) → c < length r.machine.cores → IsWorkerAt x r f c

-- the worker of a core did a turn, by what `Worker::turn` says of its ends
pub record IsWorkerTurn {S : Type 0} (x : Workload S) (c : ℕ) (turn : WorkerTurn) (f f' : LocalRunView (TableOf S)) : Type 0 where
  pub worker : WorkerView (TableOf S)
  pub lane : LocalState
  pub key : f'.key ≡ f.key
  pub workers : f'.workers ≡ slice_set f.workers c worker
  pub lanes : f'.lanes ≡ slice_set f.lanes c lane
  pub tied : Tied x worker.state lane.history f'.shelf.history f'.meter.history
  pub rule : IsTurn x (worker_snapshot_at f c) turn (over worker lane f'.shelf f'.meter)
  pub full : KeepsAtFull (Some (store f'.pool.cells f'.pool.room)) worker.kept
  pub given : f'.pool.history.given + length worker.kept ≡ f.pool.history.given + length (worker_at f c).kept + cells_done turn (worker_at f c).state
  pub grows : f.pool.history.given ≤ f'.pool.history.given
  pub now : GivesNow (Some (store f.pool.cells f.pool.room)) (f'.pool.history.given - f.pool.history.given) (Some (store f'.pool.cells f'.pool.room))

-- a lane was sent these items, and what was taken of it stays
pub record IsLaneSent (xs : List Item) (l l' : LocalState) : Type 0 where
  pub seen : List Seen
  pub are : map plain seen ≡ xs
  pub sent : l'.history.sent ≡ l.history.sent ++ seen
  pub items : l'.items ≡ l.items ++ seen
  pub room : l'.room ≡ l.room
  pub taken : SameTaken l.history l'.history

-- what the dispatcher did to what all share is this event of the machine: it sent what the event sends, and took as many cells
pub record IsDispatched {S : Type 0} (m : MachineView) (event : Event) (f f' : LocalRunView (TableOf S)) : Type 0 where
  pub key : f'.key ≡ f.key
  pub workers : f'.workers ≡ f.workers
  pub wide : length f'.lanes ≡ length f.lanes
  pub lanes : (c : ℕ) → c < length f.lanes → IsLaneSent (stream c (posts_by m event)) (lane_at f c) (lane_at f' c)
  pub claims : SameClaims f.shelf.history f'.shelf.history
  pub words : f'.shelf.words ≡ f.shelf.words
  pub homes : f'.shelf.homes ≡ f.shelf.homes
  pub loads : f'.meter.loads ≡ f.meter.loads
  pub noted : (c : ℕ) → SameNoted c f.meter.history f'.meter.history
  pub free : f'.pool.cells ≡ (step m event).free
  pub room : f'.pool.room ≡ f.pool.room
