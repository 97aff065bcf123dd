-- What may cross threads: workers, and what parties share.
use denote.RattleType.{RattleType}
use denote.Param.Send.{IsSend, IsSync, sendable}
use Rattle.std.proofs.Crossing.{crosses}
use Rattle.std.proofs.alloc.Global.TheSendSync as heap
use Rattle.atomic_table.proofs.shared.Shared.TheSendSync.{the_sync as board_sync}
use Rattle.atomic_table.proofs.send_lease.SendLease.TheSendSync.{the_sync as lease_sync}
use Rattle.std.specs.declared.clone.Clone as clone
use Rattle.flow_work.specs.declared.work.FlowWork as works
use Rattle.packet_fields.specs.declared.run_name.RunName as names
use Rattle.handover_words.specs.declared.shelved.Shelved as shelved
use Rattle.packet_pool.specs.contracts.cell.Cell as Cell
use Rattle.packet_pool.proofs.cell.Cell.TheLaws.TheKnot as cells
use Rattle.parked_queue.specs.contracts.chains.Chains as Chains
use Rattle.parked_queue.specs.contracts.lot.Lot as Lot
use Rattle.bucket_table.specs.contracts.table.BucketTable as BucketTable
use Rattle.worker_loop.specs.contracts.context.WorkerContext as DispatcherParty
use Rattle.worker_loop.specs.contracts.slot.Slot as Slot
use Rattle.worker_loop.specs.contracts.state.State as State
use Rattle.worker_loop.specs.contracts.worker.Worker as Worker
use Rattle.core_queue.specs.contracts.ruled_lane.RuledLane as RuledLane
use Rattle.handover_words.specs.contracts.word_shelf.WordShelf as WordShelf
use Rattle.packet_pool.specs.contracts.ruled_pool.RuledPool as RuledPool
use Rattle.load_meter.specs.contracts.meter.Meter as Meter
use Rattle.run_shifts.specs.contracts.shared_objects.SharedObjects as SharedObjects

cell_send : IsSend Cell.the_field.row
cell_send = search (cells.crosses, sendable, crosses) depth 40

chains_send : IsSend Chains.the_field.row
chains_send = let c = cell_send in search (sendable, crosses) depth 40

lot_send : IsSend Lot.the_field.row
lot_send = let c = chains_send in search (sendable, crosses) depth 40

dispatcher_party_send : IsSend DispatcherParty.the_field.row
dispatcher_party_send = let c = cell_send in let l = lot_send in search (sendable, crosses) depth 40

slot_send : (T : RattleType) → IsSend T → IsSend (Slot.the_field T).row
slot_send T t = search (sendable, crosses) depth 40

state_send : (T : RattleType) → IsSend T → IsSend (State.the_field T).row
state_send T t = let d = dispatcher_party_send in let s = slot_send T t in search (sendable, crosses) depth 40

module _ (W S : RattleType) (w : works.Ghosts W.Denot S.Denot) where
  pub table_send : IsSend W → IsSend S → IsSend (BucketTable.the_field W S w).row
  table_send a b = search (sendable, crosses) depth 40

  pub worker_send : IsSend W → IsSend S → IsSend (Worker.the_field W S w).row
  worker_send a b = let s = state_send (BucketTable.the_field W S w).row (table_send a b) in search sendable depth 20

lane_sync : (N : RattleType) (n : names.Ghosts N.Denot) → IsSend N → IsSync N → IsSync (RuledLane.the_field N n).row
lane_sync N n a b = let c = cell_send in search (board_sync, lease_sync, heap.the_field_sync, sendable, crosses) depth 40

shelf_sync : (T N : RattleType) (s : shelved.Ghosts T.Denot N.Denot) (n : names.Ghosts N.Denot) → IsSend T → IsSend N → IsSync N → IsSync (WordShelf.the_field T N s n).row
shelf_sync T N s n t a b = search (board_sync, lease_sync, heap.the_field_sync, sendable, crosses) depth 40

pool_sync : IsSync RuledPool.the_field.row
pool_sync = let c = cell_send in search (board_sync, lease_sync, heap.the_field_sync, sendable, crosses) depth 40

meter_sync : IsSync Meter.the_field.row
meter_sync = search (board_sync, lease_sync, heap.the_field_sync, sendable, crosses) depth 40

module _ (W N S : RattleType) (w : works.Ghosts W.Denot S.Denot) (c : clone.Ghosts S.Denot) (n : names.Ghosts N.Denot) where
  pub shared_sync : IsSend W → IsSend S → IsSend N → IsSync N → IsSync (SharedObjects.the_field W N S w c n).row
  shared_sync a b d e = let t = table_send W S w a b in search (lane_sync, shelf_sync, pool_sync, meter_sync, sendable, crosses) depth 20
