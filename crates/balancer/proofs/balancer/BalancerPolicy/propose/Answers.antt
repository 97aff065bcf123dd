use Rattle.std.proofs.Common.{◌≡◌, List, ap, sym, subst, refl, ◌∙◌}
use Rattle.indirection.specs.declared.proposal.Proposal.{Proposal}
use Rattle.balancer.specs.BalancerView.{BalancerView, stated_by}
use Rattle.balancer.specs.Greedy.{opening}
use Rattle.balancer.specs.Policies.{AreProposals}
use Rattle.balancer.proofs.Proposed.{greedy_proposals}
use Rattle.balancer.proofs.balancer.BalancerPolicy.propose.Goals as goal

pub returns : goal.returns
returns c = (
  (refl, λ _. tt, ap stated_by (c.propose.follows.holds-at-none)),
  record {
    value = c.propose.ensures.value ∙ ap (λ n. Rattle.balancer.specs.Greedy.greedy_round n c.args.limit c.args.loads.now c.args.table.now.owners) c.requires.cores;
    legal = subst (λ (ps : List Proposal). AreProposals c.args.table.now.cores c.args.limit c.args.table.now.owners ps) (sym c.propose.ensures.value)
        (greedy_proposals c.args.limit (opening c.args.table.now.cores c.args.loads.now c.args.table.now.owners));
    stays = tt;
  },
)
