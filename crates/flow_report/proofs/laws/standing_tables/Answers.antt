use Rattle.flow_report.proofs.Together.{no_shared_key, packets_are}
use Rattle.flow_report.proofs.laws.standing_tables.Goals as goal

pub returns-clause-apart : goal.returns-clause-apart
returns-clause-apart g c = λ packets bucket_of tables together. no_shared_key g.W.FlowWork.opening g.W.FlowWork.after bucket_of packets tables together

pub returns-clause-done : goal.returns-clause-done
returns-clause-done g c = λ packets bucket_of tables together. packets_are g.W.FlowWork.opening g.W.FlowWork.after bucket_of packets tables together
