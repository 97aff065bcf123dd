use Rattle.flow_report.proofs.Keys.{keys_sorted, keys_among}
use Rattle.flow_report.proofs.laws.report_keys.Goals as goal

pub returns-clause-sorted : goal.returns-clause-sorted
returns-clause-sorted c = keys_sorted

pub returns-clause-among : goal.returns-clause-among
returns-clause-among c = keys_among
