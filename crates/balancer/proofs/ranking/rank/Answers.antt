use Rattle.std.proofs.Common.{◌≡◌, List, rules, subst}
use Rattle.std.specs.Prelude.{IsPermutation}
use Rattle.std.proofs.lemmas.Fn.{always_returns_same}
use Rattle.balancer.specs.declared.ranked.Ranked.{Ranked}
use Rattle.balancer.proofs.Ranks.{key_of, sorted_in_order, is_ranking}
use Rattle.balancer.proofs.ranking.rank.Goals as goal

pub returns-clause-ranking : goal.returns-clause-ranking
returns-clause-ranking c = is_ranking c.args.loads.now c.args.owners.now c.sort_unstable_by_key.new.self.items
    (subst (λ (xs : List Ranked). IsPermutation xs c.sort_unstable_by_key.new.self.items) c.list_buckets.ensures.all c.sort_unstable_by_key.ensures.permutation)
    (sorted_in_order _ (c.sort_unstable_by_key.ensures.sorted key_of (always_returns_same _ (λ a r. r ≡ key_of a.0.now) _ (λ a r f' k. search rules))))
