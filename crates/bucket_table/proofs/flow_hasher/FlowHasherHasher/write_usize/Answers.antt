use Rattle.std.proofs.Common.{◌≡◌, sym, ap, ◌∙◌, arith}
use Rattle.std.specs.Hash.{le_bytes}
use Rattle.bucket_table.specs.FlowHash.{number_of, with_word}
use Rattle.bucket_table.proofs.FlowHash.{number_of-le_bytes}
use Rattle.bucket_table.proofs.flow_hasher.FlowHasherHasher.write_usize.Goals as goal

pub returns : goal.returns
unfolding le_bytes
returns c =
    let word : number_of (le_bytes 8 c.args.i) ≡ c.args.i = number_of-le_bytes 8 c.args.i (omega arith) in
    c.write_word.ensures ∙ ap (with_word c.args.self.now) (sym word)
