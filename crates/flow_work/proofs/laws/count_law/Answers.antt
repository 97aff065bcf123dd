use Rattle.flow_work.specs.Count.{no_packets}
use Rattle.flow_work.proofs.Folds.{packets_from, bytes_from}
use Rattle.flow_work.proofs.laws.count_law.Goals as goal
use Rattle.std.proofs.Common.{arith}

pub returns-clause-packets : goal.returns-clause-packets
returns-clause-packets c = λ ps. let e = packets_from no_packets ps in omega (arith, e)

pub returns-clause-bytes : goal.returns-clause-bytes
returns-clause-bytes c = bytes_from no_packets
