use Rattle.std.proofs.Common.{◌≡◌, ℕ, List, length, ap, sym, ◌∙◌, subst}
use Rattle.indirection.specs.Views.{TableView}
use Rattle.balancer.specs.Standing.{AreLoads}
use Rattle.balancer.proofs.AllMoves.{length-behind}
use Rattle.balancer.proofs.plan.make_text.Goals as goal

pub weigh-requires-clause-loads : goal.weigh-requires-clause-loads
weigh-requires-clause-loads c =
    let owners : length c.owners.result.now ≡ length c.args.plan.table.owners = ap (λ (os : List ℕ). length os) (c.owners.ensures.value ∙ ap (λ (t : TableView). t.owners) c.make_moves.ensures) ∙ length-behind c.args.plan.table.owners c.propose-proposals.result.now in
    let cores : length c.deref_mut.result.now ≡ c.args.plan.table.cores = c.deref_mut.ensures.len ∙ (c.in-Ok.ensures.len ∙ (c.cores-2.ensures.value ∙ ap (λ (t : TableView). t.cores) c.make_moves.ensures)) in
    subst (λ (n : ℕ). AreLoads n (length c.owners.result.now) c.args.plan.loads) (sym cores) (subst (λ (n : ℕ). AreLoads c.args.plan.table.cores n c.args.plan.loads) (sym owners) c.requires.loads)
