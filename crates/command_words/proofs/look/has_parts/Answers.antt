use Rattle.std.proofs.Common.{rules, sym, ap, ◌≡◌, ◌∙◌, ◌<◌, ◌≤◌, ◌&&◌, true, false, not, length, arith, map, get_or, Some, None, []}
use Rattle.std.specs.Prelude.{nat_lt}
use Rattle.std.proofs.lemmas.List.{length-map}
use Rattle.std.specs.String.{string_bytes}
use Rattle.command_words.specs.Look.{step}
use Rattle.command_words.proofs.LookLemmas.{closes, steps, stops, word_at}
use Rattle.command_words.proofs.look.has_parts.Goals as goal

pub returns-in-None : goal.returns-in-None
returns-in-None c =
    let ws = map string_bytes c.args.words.now in
    let i = c.loop-word.word-index in
    let lt : i < length ws = omega (arith, length-map c.args.words.now string_bytes) in
    let lt2 : i < length c.args.words.now = omega arith in
    let at = word_at c.args.words.now i c.word-item.result c.as_str.result.now lt2 c.word-item.is c.as_str.ensures.value in
    let stop : step c.loop-word.look (get_or ws i []) ≡ None = ap (step c.loop-word.look) at ∙ sym c.after.ensures ∙ c.in-None.is in
    stops ws c.loop-word.look i [] lt stop c.loop-word.invariant

pub loop-word-preserved : goal.loop-word-preserved
loop-word-preserved c =
    let ws = map string_bytes c.args.words.now in
    let i = c.loop-word.word-index in
    let lt : i < length ws = omega (arith, length-map c.args.words.now string_bytes) in
    let lt2 : i < length c.args.words.now = omega arith in
    let at = word_at c.args.words.now i c.word-item.result c.as_str.result.now lt2 c.word-item.is c.as_str.ensures.value in
    let next : step c.loop-word.look (get_or ws i []) ≡ Some c.in-Some.next = ap (step c.loop-word.look) at ∙ sym c.after.ensures ∙ c.in-Some.is in
    steps ws c.loop-word.look i [] (Some c.in-Some.next) lt next c.loop-word.invariant

pub returns-then-not-look : goal.returns-then-not-look
returns-then-not-look c =
    let ws = map string_bytes c.args.words.now in
    let over : length ws ≤ c.loop-word.word-index = omega (arith, length-map c.args.words.now string_bytes) in
    let shut : c.loop-word.look.opened ≡ false = search rules in
    ap (λ b. not b && nat_lt 0 c.loop-word.look.places) (sym shut) ∙ closes ws c.loop-word.look c.loop-word.word-index over c.loop-word.invariant

pub returns-else-not-look : goal.returns-else-not-look
returns-else-not-look c =
    let ws = map string_bytes c.args.words.now in
    let over : length ws ≤ c.loop-word.word-index = omega (arith, length-map c.args.words.now string_bytes) in
    let open_ : c.loop-word.look.opened ≡ true = search rules in
    ap not open_ ∙ ap (λ b. not b && nat_lt 0 c.loop-word.look.places) (sym open_) ∙ closes ws c.loop-word.look c.loop-word.word-index over c.loop-word.invariant
