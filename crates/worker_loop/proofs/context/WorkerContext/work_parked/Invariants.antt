use Rattle.std.proofs.Common.{◌≡◌, ◌+◌, ◌^◌, ◌<◌, ◌++◌, List, length}
use Rattle.packet_fields.specs.declared.packet.PacketInfo.{PacketInfo}
use Rattle.std.specs.Prelude.{IsSome, IsTrue, sum_by}
use Rattle.packet_pool.specs.Chain.{chain}
use Rattle.handover_core.specs.Legal.{Stand}
use Rattle.parked_queue.specs.Parked.{cells_at}
use Rattle.worker_loop.specs.Workload.{workload, Stands, Grew}
use Rattle.worker_loop.specs.Chains.{Goes, packets_to_mark, bytes_to_mark, infos_to_mark, has_mark, behind_mark, cells_worked, trimmed}
use Rattle.worker_loop.specs.Counts.{more}
use Rattle.worker_loop.specs.Views.{context_run, IsSameContext}
use Rattle.worker_loop.proofs.context.WorkerContext.work_parked.Given as goal

abbrev pub invariant-loop-cell : goal.invariant-loop-cell
invariant-loop-cell g l = record {
  lot : l.self.lot ≡ trimmed l.bucket (cells_at l.bucket l.self.lot) l.fn.self.lot;
  done : l.table.done + packets_to_mark (cells_at l.bucket l.self.lot) ≡ l.fn.table.done + packets_to_mark (cells_at l.bucket l.fn.self.lot);
  bytes : l.table.bytes + bytes_to_mark (cells_at l.bucket l.self.lot) ≡ l.fn.table.bytes + bytes_to_mark (cells_at l.bucket l.fn.self.lot);
  grew : (infos : List PacketInfo) × Grew (workload g.W.FlowWork.opening g.W.FlowWork.after g.W.FlowWork.cost_of g.N.RunName.packets) l.fn.table infos l.table × (infos ++ infos_to_mark (cells_at l.bucket l.self.lot) ≡ infos_to_mark (cells_at l.bucket l.fn.self.lot));
  stays_short : IsTrue l.fn.table.short → IsTrue l.table.short;
  marked : has_mark (cells_at l.bucket l.self.lot) ≡ has_mark (cells_at l.bucket l.fn.self.lot);
  behind : behind_mark (cells_at l.bucket l.self.lot) ≡ behind_mark (cells_at l.bucket l.fn.self.lot);
  goes : (e : Stand) × Goes g.N.RunName.packets (context_run l.self) l.bucket l.table.done (cells_at l.bucket l.self.lot) e;
  stands : Stands (workload g.W.FlowWork.opening g.W.FlowWork.after g.W.FlowWork.cost_of g.N.RunName.packets) (context_run l.self) l.bucket l.table;
  is_open : IsSome l.table.custody;
  custody : l.table.custody ≡ l.fn.table.custody;
  worked : more l.self.worked (packets_to_mark (cells_at l.bucket l.self.lot)) ≡ more l.fn.self.worked (packets_to_mark (cells_at l.bucket l.fn.self.lot));
  kept : length (chain l.self.kept) + cells_worked (cells_at l.bucket l.self.lot) ≡ length (chain l.fn.self.kept) + cells_worked (cells_at l.bucket l.fn.self.lot);
  cost : more l.self.cost (sum_by g.W.FlowWork.cost_of (infos_to_mark (cells_at l.bucket l.self.lot))) ≡ more l.fn.self.cost (sum_by g.W.FlowWork.cost_of (infos_to_mark (cells_at l.bucket l.fn.self.lot)));
  fits : l.self.worked < 2 ^ 64;
  fits_cost : l.self.cost < 2 ^ 64;
  range : l.bucket < length l.fn.self.lot.cells;
  same : IsSameContext l.fn.self l.self;
}

abbrev pub decreases-loop-cell : goal.decreases-loop-cell
decreases-loop-cell g l = length (cells_at l.bucket l.self.lot)
