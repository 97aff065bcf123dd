use Rattle.std.proofs.Common.{◌≡◌, ◌≤◌, ◌-◌, ◌++◌, length, vec_capacity, vec_len}
use Rattle.balancer.specs.Greedy.{greedy, opening}
use Rattle.balancer.specs.Standing.{round_state_of, IsWeighed}
use Rattle.balancer.proofs.round.run_plain_round.Given as goal

abbrev pub invariant-plain : goal.invariant-plain
invariant-plain l =
    record {
      weighed : IsWeighed (round_state_of (length l.carried) l.loads l.owners l.proposals.items) l.carried;
      so_far : greedy l.limit (opening (length l.fn.carried) l.fn.loads l.fn.owners) ≡ l.proposals.items ++ greedy (l.limit - l.counter) (round_state_of (length l.carried) l.loads l.owners l.proposals.items);
      few : vec_len l.proposals ≤ l.counter;
      room : vec_capacity l.proposals ≡ vec_capacity l.fn.proposals;
    }
