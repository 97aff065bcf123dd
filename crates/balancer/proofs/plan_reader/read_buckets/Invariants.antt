use Rattle.std.proofs.Common.{◌≡◌, ◌+◌, ◌≤◌, ◌<◌, length, vec_capacity, All}
use Rattle.std.specs.Io.KnownBytes.{prepend_known}
use Rattle.balancer.specs.declared.limits.TheConstants.{MOST_LOAD}
use Rattle.balancer.proofs.BucketLines.{BucketsSoFar}
use Rattle.balancer.proofs.plan_reader.read_buckets.Given as goal

abbrev pub invariant-buckets : goal.invariant-buckets
invariant-buckets g l =
    record {
      so_far : BucketsSoFar l.cores l.line (prepend_known l.fn.window (g.S.Source.left l.fn.source)) (prepend_known l.window (g.S.Source.left l.source)) l.owners.items l.loads.items;
      owners : length l.owners.items + 4 ≡ l.line;
      loads : length l.loads.items + 4 ≡ l.line;
      cores : All (λ owner. owner < l.cores) l.owners.items;
      light : All (λ load. load ≤ MOST_LOAD) l.loads.items;
      room : vec_capacity l.numbers ≡ vec_capacity l.fn.numbers;
      quiet : g.S.Source.faults l.source ≡ g.S.Source.faults l.fn.source;
      origin : g.S.Source.origin l.source ≡ g.S.Source.origin l.fn.source;
    }
