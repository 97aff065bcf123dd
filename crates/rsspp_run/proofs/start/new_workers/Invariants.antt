use Rattle.std.proofs.Common.{◌≡◌, vec_len, vec_capacity}
use Rattle.rsspp_run.specs.Opening.{AreNewWorkers}
use Rattle.rsspp_run.proofs.start.new_workers.Given as goal

abbrev pub invariant-loop-core : goal.invariant-loop-core
invariant-loop-core g l =
    record {
      are : AreNewWorkers l.key l.buckets l.core l.workers.items;
      count : vec_len l.workers ≡ l.core;
      room : vec_capacity l.workers ≡ l.cores;
    }
