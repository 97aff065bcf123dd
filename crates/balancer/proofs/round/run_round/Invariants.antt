use Rattle.std.proofs.Common.{◌≡◌, ◌≤◌, ◌-◌, ◌++◌, length, map, vec_capacity, vec_len}
use Rattle.indirection.specs.declared.proposal.Proposal.{Proposal}
use Rattle.balancer.specs.Ranking.{IsRanking}
use Rattle.balancer.specs.Greedy.{greedy, opening}
use Rattle.balancer.specs.Standing.{round_state_of, IsWeighed}
use Rattle.balancer.proofs.round.run_round.Given as goal

abbrev pub invariant-round : goal.invariant-round
invariant-round l =
    record {
      weighed : IsWeighed (round_state_of (length l.carried) l.loads l.owners l.proposals.items) l.carried;
      so_far : greedy l.limit (opening (length l.fn.carried) l.fn.loads l.fn.owners) ≡ l.proposals.items ++ greedy (l.limit - l.counter) (round_state_of (length l.carried) l.loads l.owners l.proposals.items);
      few : vec_len l.proposals ≤ l.counter;
      ranking : IsRanking l.loads l.owners (map (λ (p : Proposal). p.bucket) l.proposals.items) l.ranking;
      room : vec_capacity l.proposals ≡ vec_capacity l.fn.proposals;
    }
