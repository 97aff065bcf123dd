use Rattle.std.proofs.Common.{rules, arith}
use Rattle.std.proofs.lemmas.List.Sorted.{IsPartitionPoint-from_clause}
use Rattle.balancer.specs.Ranking.{is_below}
use Rattle.balancer.proofs.Ranks.{parted}
use Rattle.balancer.proofs.ranking.place_of.Goals as goal

pub returns-clause-below : goal.returns-clause-below
returns-clause-below c = let point = IsPartitionPoint-from_clause (is_below c.args.core c.args.load) _ _ c.partition_point.ensures.partitioned (parted c.args.core c.args.load _ c.requires) (λ a r q k. search rules) in
    λ k d h. point.0 k d (omega arith) h

pub returns-clause-behind : goal.returns-clause-behind
returns-clause-behind c = let point = IsPartitionPoint-from_clause (is_below c.args.core c.args.load) _ _ c.partition_point.ensures.partitioned (parted c.args.core c.args.load _ c.requires) (λ a r q k. search rules) in
    λ k d h l. point.1 k d h l
