use Rattle.std.proofs.Common.{◌∙◌, arith}
use Rattle.bucket_table.proofs.FlowWords.{hashed}
use Rattle.bucket_table.proofs.flow_hash_key.FlowHashKey.hash_of.Goals as goal

pub returns : goal.returns
returns c = c.hash_one.ensures ∙ hashed c.args.self.now c.args.flow (omega arith) (omega arith) (omega arith) (omega arith)
