use Rattle.std.proofs.Common.{◌≡◌, ℕ, ◌+◌, ◌<◌, ◌≤◌, get_or, true}
use Rattle.balancer.specs.declared.ranked.Ranked.{Ranked}
use Rattle.balancer.specs.Standing.{round_state_at}
use Rattle.balancer.proofs.Ranks.{is_taken}
use Rattle.balancer.proofs.free.last_free.Given as goal

abbrev pub invariant-loop-passed : goal.invariant-loop-passed
invariant-loop-passed l = (k : ℕ) (d : Ranked) → l.place ≤ k + l.passed → k < l.place → is_taken (round_state_at l.s) (get_or l.ranking k d) ≡ true
