use Rattle.std.proofs.Common.{◌≡◌, ◌<◌, ℕ, length, get_or, take, ap, sym, ◌∙◌, subst}
use Rattle.std.proofs.lemmas.List.Elements.{All-get_or}
use Rattle.indirection.specs.Views.{TableView}
use Rattle.balancer.specs.Moves.{IsMove}
use Rattle.balancer.proofs.AllMoves.{length-behind}
use Rattle.balancer.proofs.plan.make_moves.Goals as goal

pub set-requires-clause-bucket : goal.set-requires-clause-bucket
set-requires-clause-bucket c =
    let long : length c.loop-proposal.table.owners ≡ length c.args.table.now.owners = ap (λ (t : TableView). length t.owners) c.loop-proposal.invariant ∙ length-behind c.args.table.now.owners (take c.loop-proposal.proposal-index c.args.proposals.now) in
    let move = All-get_or (λ p. IsMove c.args.table.now.cores (length c.args.table.now.owners) p) c.args.proposals.now c.loop-proposal.proposal-index (record { bucket = 0; from = 0; to = 0; gain = 0 }) c.loop-proposal-test.true c.requires in
    subst (λ (n : ℕ). (get_or c.args.proposals.now c.loop-proposal.proposal-index (record { bucket = 0; from = 0; to = 0; gain = 0 })).bucket < n) (sym long) move.bucket
