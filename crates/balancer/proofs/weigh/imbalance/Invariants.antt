use Rattle.std.proofs.Common.{◌≡◌, ◌*◌, ◌≤◌, ◌^◌, take, length, sum}
use Rattle.std.specs.List.{sum_by}
use Rattle.balancer.specs.Imbalance.{apart}
use Rattle.balancer.proofs.weigh.imbalance.Given as goal

abbrev pub invariant-loop-load : goal.invariant-loop-load
invariant-loop-load l =
    record {
      sum_is : l.sum ≡ sum_by (λ x. apart (length l.carried * x) (sum l.carried) * apart (length l.carried * x) (sum l.carried)) (take l.load-index l.carried);
      small : l.sum ≤ l.load-index * 2 ^ 116;
    }
