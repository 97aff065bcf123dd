use Rattle.std.proofs.Common.{◌≡◌, sym, ap, ◌∙◌, arith}
use Rattle.std.specs.Hash.{le_bytes}
use Rattle.bucket_table.specs.FlowHash.{number_of, with_word}
use Rattle.bucket_table.proofs.FlowHash.{number_of-le_bytes}
use Rattle.bucket_table.proofs.flow_hasher.FlowHasherHasher.write_u16.Goals as goal

pub returns : goal.returns
unfolding le_bytes
returns c =
    let word : number_of (le_bytes 2 c.args.i) ≡ c.args.i = number_of-le_bytes 2 c.args.i (omega arith) in
    c.write_word.ensures ∙ ap (with_word c.args.self.now) c.from.ensures ∙ ap (with_word c.args.self.now) (sym word)
