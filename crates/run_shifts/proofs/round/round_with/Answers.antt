use Rattle.std.proofs.Common.{rules, ◌∙◌}
use Rattle.run_shifts.proofs.round.round_with.Goals as goal

pub returns-clause-lent : goal.returns-clause-lent
returns-clause-lent g c = let e = c.shifts-worker_parties.ensures.own.1 in record {
  first = e.first;
  second = e.second;
  first_left = e.first_left;
  second_left = e.second_left;
  shows_first = e.shows_first;
  shows_second = e.shows_second;
  leaves_first = e.leaves_first ∙ search rules;
  leaves_second = e.leaves_second ∙ search rules;
  met = e.met;
}
