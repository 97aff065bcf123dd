use Rattle.bucket_table.proofs.FlowWords.{one_flow}
use Rattle.bucket_table.proofs.laws.words_tell_flows_apart.Goals as goal

pub returns : goal.returns
returns c = one_flow
