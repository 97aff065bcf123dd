use Rattle.std.proofs.Common.{◌≡◌, IfSome}
use Rattle.shared_ends.specs.Packets.{IsPacketAt}
use Rattle.shared_ends.specs.Sides.{SameRun}
use Rattle.shared_ends.proofs.working.take_all.Given as goal

abbrev pub invariant-loop : goal.invariant-loop
invariant-loop g l = let e = g.L.LaneEnd.history l.initial.lane in record {
  lane_home : g.L.LaneEnd.home l.lane ≡ g.L.LaneEnd.home l.initial.lane;
  pool_home : g.P.Pool.home l.pool ≡ g.P.Pool.home l.initial.pool;
  run : SameRun e (g.L.LaneEnd.history l.lane);
  packet : IfSome l.first (IsPacketAt g.N.RunName.packets e.key e.buckets l.fn.bucket 0);
}
