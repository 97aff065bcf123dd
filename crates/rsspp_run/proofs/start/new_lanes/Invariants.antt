use Rattle.std.proofs.Common.{◌≡◌, vec_len, vec_capacity}
use Rattle.rsspp_run.specs.Opening.{AreNewLanes}
use Rattle.rsspp_run.proofs.start.new_lanes.Given as goal

abbrev pub invariant-loop : goal.invariant-loop
invariant-loop g l =
    record {
      are : AreNewLanes l.key l.buckets l.room l.counter l.lanes.items;
      count : vec_len l.lanes ≡ l.counter;
      has_room : vec_capacity l.lanes ≡ l.cores;
    }
