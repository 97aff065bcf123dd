use Rattle.std.proofs.Common.{◌≡◌, ◌<◌, ℕ, List, length, min, take, drop, fold, sym, ap, ◌∙◌, arith}
use Rattle.std.proofs.lemmas.List.{take_min, drop_min}
use Rattle.bucket_table.specs.FlowHash.{number_of, with_word, write}
use Rattle.bucket_table.proofs.FlowHash.{words_of-more}
use Rattle.bucket_table.proofs.flow_hasher.FlowHasherHasher.write.Goals as goal

pub loop-rest-preserved : goal.loop-rest-preserved
loop-rest-preserved c =
    let rest : List ℕ = c.loop-rest.rest.now in
    let some : 0 < length rest = grind arith in
    let count : c.min.result ≡ min 8 (length rest) = omega arith in
    let word : c.number_of.result ≡ number_of (take 8 rest) = c.number_of.ensures.value ∙ ap number_of (c.split_at.ensures.front ∙ ap (λ n. take n rest) count ∙ take_min 8 rest) in
    let more : c.split_at.result.1.now ≡ drop 8 rest = c.split_at.ensures.back ∙ ap (λ n. drop n rest) count ∙ drop_min 8 rest in
    ap (λ h. write h c.split_at.result.1.now) c.write_word.ensures
    ∙ ap (λ w. write (with_word c.loop-rest.self w) c.split_at.result.1.now) word
    ∙ ap (λ xs. write (with_word c.loop-rest.self (number_of (take 8 rest))) xs) more
    ∙ ap (fold with_word c.loop-rest.self) (sym (words_of-more rest some))
    ∙ c.loop-rest.invariant
