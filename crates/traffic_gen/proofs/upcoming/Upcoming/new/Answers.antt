use Rattle.std.proofs.Common.{ap, ◌∙◌, ◌++◌, List, ℕ, ◌-◌}
use Rattle.traffic_gen.specs.Traffic.{records_from}
use Rattle.traffic_gen.proofs.Giving.{traffic_is}
use Rattle.traffic_gen.proofs.upcoming.Upcoming.new.Goals as goal

pub returns-clause-bytes : goal.returns-clause-bytes
returns-clause-bytes c =
    ap (λ (l : List ℕ). l ++ records_from c.args.number 0 (c.args.count - 0)) c.of_header.ensures ∙ traffic_is c.args.count c.args.number
