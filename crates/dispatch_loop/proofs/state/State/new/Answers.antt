use Rattle.std.proofs.Common.{◌≡◌, ◌∙◌, ◌≤◌, ap, sym, subst, length, ℕ, List, arith}
use Rattle.std.proofs.lemmas.List.{length-replicate}
use Rattle.balancer.specs.declared.policy_name.PolicyName.{PolicyName}
use Rattle.balancer.specs.Policies.{Stated, Follows}
use Rattle.indirection.specs.declared.proposal.Proposal.{Proposal}
use Rattle.indirection.specs.JournalView.{JournalState}
use Rattle.indirection.specs.Views.{TableView, LoadsView}
use Rattle.dispatch_loop.specs.declared.limits.TheConstants.{MOST_LIMIT}
use Rattle.dispatch_loop.specs.OptionsView.{OptionsView}
use Rattle.dispatch_loop.proofs.state.State.new.Goals as goal

pub returns-clause-fit : goal.returns-clause-fit
returns-clause-fit g c =
    let o = c.args.options.now in let stated = g.B.Policy.stated in let made = c.in_ok-rounds.ensures in let of_policy = c.requires.policy in
    let start : c.reserve_orders.new.self.start ≡ o.start = ap (λ (z : JournalState). z.start) c.in_ok-reserve_orders.ensures.ok ∙ ap (λ (z : JournalState). z.start) c.in_ok-journal.ensures ∙ ap (λ (z : OptionsView). z.start) c.options.view_is in
    let cores : o.cores ≡ c.reserve_orders.new.self.start.cores = sym (ap (λ (z : TableView). z.cores) start ∙ c.requires.accepted.cores) in
    record {
      cores = ap (λ (z : TableView). z.cores) (c.in_ok-routing.ensures.table ∙ ap (λ (z : OptionsView). z.start) c.options.view_is ∙ sym start);
      bases = ap (λ (z : LoadsView). length z.base) made.loads ∙ (length-replicate o.start.cores 0 ∙ ap (λ (z : TableView). z.cores) (sym start));
      policy_cores = ap (λ z. (stated z).cores) made.policy.1 ∙ (of_policy.cores ∙ cores);
      policy_buckets = ap (λ z. (stated z).buckets) made.policy.1 ∙ (of_policy.buckets ∙ ap (λ (z : TableView). length z.owners) (sym start));
      follows = subst (λ (y : PolicyName × Stated). Follows y.0 y.1 g.B.Policy.proposals) (λ i. (sym made.policy.0 i, ap stated (sym made.policy.1) i)) of_policy.follows;
      few = let e = ap (λ (z : List Proposal). length z) made.proposals.0 in omega arith;
      room = made.proposals.1;
    }
