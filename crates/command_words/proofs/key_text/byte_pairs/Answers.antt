use Rattle.std.proofs.Common.{◌≡◌, ◌≢◌, ◌∙◌, ◌<◌, ◌+◌, ◌*◌, length, get_or, arith, sym, ap₂, below_more, get_or-set_other, get_or-set_same, length-set}
use Rattle.std.proofs.lemmas.List.{ext_get_or}
use Rattle.command_words.specs.Values.{byte_pairs}
use Rattle.command_words.proofs.ListLemmas.{pair_at, pairs_length}
use Rattle.command_words.proofs.key_text.byte_pairs.Goals as goal

pub loop-i-preserved : goal.loop-i-preserved
loop-i-preserved c =
    let i = c.loop-i.i in
    let t = c.args.digits.now in
    let inside : 2 * i + 1 < length t = omega arith in
    let value : 16 * c.digit_value-high.result + c.digit_value-low.result ≡ get_or (byte_pairs t) i 0 =
    ap₂ (λ a b. 16 * a + b) c.digit_value-high.ensures.value c.digit_value-low.ensures.value ∙ sym (pair_at t i inside) in
    let lt : i < length c.loop-i.key = omega (arith, c.loop-i.invariant.size) in
    record {
      size = length-set c.loop-i.key i (16 * c.digit_value-high.result + c.digit_value-low.result) ∙ c.loop-i.invariant.size;
      same = below_more _ _
          (λ k h. let ne : k ≢ i = omega arith in rw get_or-set_other (c.loop-i.invariant.same k h))
          (rw get_or-set_same value);
    }

pub returns : goal.returns
returns c =
    let n : length c.args.digits.now ≡ 2 * 40 = omega arith in
    let same : length c.loop-i.key ≡ length (byte_pairs c.args.digits.now) = c.loop-i.invariant.size ∙ sym (pairs_length c.args.digits.now 40 n) in
    ext_get_or 0 c.loop-i.key (byte_pairs c.args.digits.now) same (λ k h. let lt : k < c.loop-i.i = omega (arith, c.loop-i.invariant.size) in c.loop-i.invariant.same k lt)
