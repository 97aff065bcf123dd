use Rattle.std.proofs.Common.{◌≡◌, ◌<◌, ◌+◌, ◌-◌, ◌++◌, [], ℕ, Bor, List, length, map, drop, get_or, arith, sym, subst, Some, None}
use Rattle.std.specs.Prelude.{option_map}
use Rattle.std.proofs.lemmas.List.{length-map}
use Rattle.command_words.specs.Words.{Text}
use Rattle.command_words.specs.Values.{each_in, number_within}
use Rattle.command_words.proofs.ListLemmas.{each_more, each_stops, text_at}
use Rattle.command_words.proofs.owners.owners_of.Goals as goal

pub returns-in-None : goal.returns-in-None
returns-in-None c =
    let ws = map (λ (s : Bor Text). s.now) c.args.texts.now in
    let i = c.loop-text.text-index in
    let lt : i < length ws = omega (arith, length-map c.args.texts.now (λ (s : Bor Text). s.now)) in
    let lt2 : i < length c.args.texts.now = omega arith in
    let d : Bor Text = record { ref_ptr = (0, 0); now = [] } in
    let at = text_at c.args.texts.now i d lt2 in
    let none : number_within 0 (c.args.cores - 1) (get_or c.args.texts.now i d).now ≡ None = rw (sym c.from.ensures) (sym c.in-None.ensures.value) in
    each_stops (number_within 0 (c.args.cores - 1)) ws i (get_or c.args.texts.now i d).now c.loop-text.owners.items (each_in (number_within 0 (c.args.cores - 1)) ws) lt at
    none c.loop-text.invariant

pub loop-text-preserved : goal.loop-text-preserved
loop-text-preserved c =
    let ws = map (λ (s : Bor Text). s.now) c.args.texts.now in
    let i = c.loop-text.text-index in
    let lt : i < length ws = omega (arith, length-map c.args.texts.now (λ (s : Bor Text). s.now)) in
    let lt2 : i < length c.args.texts.now = omega arith in
    let d : Bor Text = record { ref_ptr = (0, 0); now = [] } in
    let at = text_at c.args.texts.now i d lt2 in
    let some : number_within 0 (c.args.cores - 1) (get_or c.args.texts.now i d).now ≡ Some c.in-Some.core = rw (sym c.from.ensures) (sym c.in-Some.ensures.value) in
    let more = each_more (number_within 0 (c.args.cores - 1)) ws i (get_or c.args.texts.now i d).now c.loop-text.owners.items c.in-Some.core
    (each_in (number_within 0 (c.args.cores - 1)) ws) lt at some c.loop-text.invariant in
    subst (λ (acc : List ℕ). option_map (λ xs. acc ++ xs) (each_in (number_within 0 (c.args.cores - 1)) (drop (i + 1) ws)) ≡ each_in (number_within 0 (c.args.cores - 1)) ws)
    (sym c.in_ok-push-in-Some.ensures.items) more
