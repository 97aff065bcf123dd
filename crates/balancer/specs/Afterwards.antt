-- What `Balancer::propose` leaves once its proposals are no longer borrowed.
use Rattle.std.specs.Prelude.{◌≡◌, List}
use Rattle.std.specs.Borrow.{Fml, MutBor}
use Rattle.std.specs.Io.BufRead.{Rests}
use Rattle.indirection.specs.declared.proposal.Proposal.{Proposal}
use Rattle.balancer.specs.contracts.balancer.Balancer.{the_row}
use Rattle.balancer.specs.BalancerView.{BalancerView}

-- the balancer is for the same cores and buckets, and these are what it proposed last
abbrev pub StaysMade : MutBor BalancerView → List Proposal → Fml
StaysMade b proposals = Rests the_row b (λ new. new ≡ record b.now { proposals = proposals })
