use Rattle.rsspp_run.proofs.TableSums.{done_all, keys_own}
use Rattle.rsspp_run.proofs.end_laws.tables_share_the_packets.Goals as goal

pub returns-clause-keys : goal.returns-clause-keys
returns-clause-keys g c = λ packets t all tables b table are is. keys_own g.W.FlowWork.opening g.W.FlowWork.after packets t all tables are b table is

pub returns-clause-done : goal.returns-clause-done
returns-clause-done g c = λ packets t all tables are some. done_all g.W.FlowWork.opening g.W.FlowWork.after packets t all tables are some
