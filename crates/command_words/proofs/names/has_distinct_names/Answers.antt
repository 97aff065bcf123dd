use Rattle.std.proofs.Common.{sym, ◌≡◌, ◌∙◌, ◌<◌, ◌+◌, false, length, arith, map, drop}
use Rattle.std.specs.String.{string_bytes}
use Rattle.command_words.specs.Words.{is_distinct, names_of}
use Rattle.command_words.proofs.LookLemmas.{repeats_at, word_at}
use Rattle.command_words.proofs.names.has_distinct_names.Goals as goal

pub returns-then-repeats : goal.returns-then-repeats
returns-then-repeats c =
    let i = c.loop-i.i in
    let lt : i < length c.args.words.now = omega arith in
    let at = word_at c.args.words.now i c.index-words-i.result c.as_str.result.now lt c.index-words-i.is c.as_str.ensures.value in
    let ends = repeats_at c.args.words.now i c.as_str.result.now c.repeats.result lt at c.repeats.ensures in
    let bad : is_distinct (names_of (drop i (map string_bytes c.args.words.now))) ≡ false = rw c.if-repeats.true at ends in
    sym bad ∙ c.loop-i.invariant

pub loop-i-preserved : goal.loop-i-preserved
loop-i-preserved c =
    let i = c.loop-i.i in
    let lt : i < length c.args.words.now = omega arith in
    let at = word_at c.args.words.now i c.index-words-i.result c.as_str.result.now lt c.index-words-i.is c.as_str.ensures.value in
    let ends = repeats_at c.args.words.now i c.as_str.result.now c.repeats.result lt at c.repeats.ensures in
    let good : is_distinct (names_of (drop i (map string_bytes c.args.words.now))) ≡ is_distinct (names_of (drop (i + 1) (map string_bytes c.args.words.now))) = rw c.if-repeats.false at ends in
    sym good ∙ c.loop-i.invariant
