use Rattle.std.proofs.Common.{◌/◌, ◌^◌, sym, ap, ◌∙◌, arith}
use Rattle.std.proofs.lemmas.Nat.{and_mask}
use Rattle.std.specs.Hash.{le_bytes}
use Rattle.bucket_table.specs.FlowHash.{with_word}
use Rattle.bucket_table.proofs.FlowHash.{number_of-low, number_of-high}
use Rattle.bucket_table.proofs.flow_hasher.FlowHasherHasher.write_u128.Goals as goal

pub returns : goal.returns
unfolding le_bytes
returns c =
    let i = c.args.i in
    let low = and_mask i 64 ∙ sym (number_of-low i) in
    let high = sym (number_of-high i (omega arith)) in
    c.write_word-2.ensures
    ∙ ap (λ h. with_word h (i / 2 ^ 64)) (c.write_word.ensures ∙ ap (with_word c.args.self.now) low)
    ∙ ap (with_word _) high
