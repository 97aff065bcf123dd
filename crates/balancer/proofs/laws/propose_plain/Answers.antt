use Rattle.std.proofs.Common.{◌≡◌, List, length, ap, sym, ◌∙◌, subst, refl}
use Rattle.indirection.specs.declared.proposal.Proposal.{Proposal}
use Rattle.balancer.specs.BalancerView.{BalancerView}
use Rattle.balancer.specs.Greedy.{opening, greedy_round, Lowers}
use Rattle.balancer.specs.Moves.{AreMoves}
use Rattle.balancer.proofs.AllMoves.{greedy_moves}
use Rattle.balancer.proofs.Chosen.{greedy_lowers}
use Rattle.balancer.proofs.laws.propose_plain.Goals as goal

pub returns : goal.returns
returns c =
    let made : c.proposals.result.now ≡ greedy_round c.args.table.now.cores c.args.limit c.args.loads.now c.args.table.now.owners = c.proposals.ensures ∙ ap (λ (b : BalancerView). b.proposals) c.make_plain_round.ensures in (
      (refl, λ _. tt, c.make_plain_round.ensures ∙ ap (λ (ps : List Proposal). let b : BalancerView = record { cores = c.args.balancer.now.cores; buckets = c.args.balancer.now.buckets; proposals = ps } in b) (sym made)),
      record {
        value = made;
        moves = subst (λ (ps : List Proposal). AreMoves c.args.table.now.cores (length c.args.table.now.owners) ps) (sym made) (greedy_moves c.args.limit (opening c.args.table.now.cores c.args.loads.now c.args.table.now.owners));
        lowers = subst (λ (ps : List Proposal). Lowers (opening c.args.table.now.cores c.args.loads.now c.args.table.now.owners) ps) (sym made) (greedy_lowers c.args.limit (opening c.args.table.now.cores c.args.loads.now c.args.table.now.owners));
        stays = tt;
      },
    )
