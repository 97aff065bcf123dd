use Rattle.std.proofs.Common.{◌≡◌, ◌<◌, ◌+◌, ◌==◌, length, vec_len, vec_capacity}
use Rattle.std.specs.List.{position_or_len}
use Rattle.balancer.proofs.Spelled.{So}
use Rattle.balancer.proofs.number.push_numbers.Given as goal

abbrev pub invariant-parts : goal.invariant-parts
invariant-parts l =
    record {
      end : l.end ≡ position_or_len (λ x. x == 32) l.rest;
      so : So l.text l.numbers.items l.rest;
      room : vec_len l.numbers + length l.rest < vec_capacity l.numbers;
      kept : vec_capacity l.numbers ≡ vec_capacity l.fn.numbers;
    }

abbrev pub decreases-parts : goal.decreases-parts
decreases-parts l = length l.rest
