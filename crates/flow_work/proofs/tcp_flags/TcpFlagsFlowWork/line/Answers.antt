use Rattle.std.proofs.lemmas.List.{append-nil}
use Rattle.flow_work.proofs.tcp_flags.TcpFlagsFlowWork.line.Goals as goal

pub returns-clause-ok : goal.returns-clause-ok
returns-clause-ok c = simp append-nil at c.push_all.ensures.ok
