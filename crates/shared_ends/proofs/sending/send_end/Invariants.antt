use Rattle.std.proofs.Common.{◌≡◌, ◌++◌, ◌∷◌, []}
use Rattle.core_queue.specs.declared.item.Seen.TheVariants.{Close}
use Rattle.core_queue.specs.Cells.{LegalCells}
use Rattle.shared_ends.specs.Sides.{SameRun}
use Rattle.shared_ends.proofs.sending.send_end.Given as goal

abbrev pub invariant-loop : goal.invariant-loop
invariant-loop g l = let e = g.L.LaneEnd.history l.lane in record {
  home : g.L.LaneEnd.home l.lane ≡ g.L.LaneEnd.home l.initial.lane;
  run : SameRun (g.L.LaneEnd.history l.initial.lane) e;
  legal : LegalCells g.N.RunName.packets e.key e.buckets (e.sent ++ Close ∷ []);
}
