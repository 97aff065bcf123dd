use Rattle.flow_work.specs.TcpFlags.{no_flags}
use Rattle.flow_work.proofs.Folds.{bits_from, syn_from, fin_from, rst_from}
use Rattle.flow_work.proofs.laws.flags_law.Goals as goal

pub returns-clause-flags : goal.returns-clause-flags
returns-clause-flags c = bits_from no_flags

pub returns-clause-syn : goal.returns-clause-syn
returns-clause-syn c = syn_from no_flags

pub returns-clause-fin : goal.returns-clause-fin
returns-clause-fin c = fin_from no_flags

pub returns-clause-rst : goal.returns-clause-rst
returns-clause-rst c = rst_from no_flags
