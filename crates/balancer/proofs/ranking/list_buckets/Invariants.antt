use Rattle.std.proofs.Common.{◌≡◌, vec_capacity}
use Rattle.balancer.specs.Ranking.{all_ranked}
use Rattle.balancer.proofs.ranking.list_buckets.Given as goal

abbrev pub invariant-loop-bucket : goal.invariant-loop-bucket
invariant-loop-bucket l =
    record {
      all : l.room.items ≡ all_ranked l.loads l.owners l.bucket;
      room : vec_capacity l.room ≡ vec_capacity l.fn.room;
    }
