use Rattle.std.proofs.Common.{List, length, ap, arith}
use Rattle.balancer.specs.declared.ranked.Ranked.{Ranked}
use Rattle.balancer.proofs.Ranks.{length-all_ranked}
use Rattle.balancer.proofs.ranking.list_buckets.Goals as goal

pub push_reserved-requires : goal.push_reserved-requires
push_reserved-requires c = omega (arith, ap (λ (xs : List Ranked). length xs) c.loop-bucket.invariant.all, length-all_ranked c.args.loads.now c.args.owners.now c.loop-bucket.bucket, c.loop-bucket.invariant.room, c.requires.room, c.loop-bucket-test.true)
