use Rattle.std.proofs.Common.{◌≡◌, ◌<◌, ◌+◌, ◌++◌, [], Bor, List, length, map, drop, get_or, arith, sym, subst, Some, None}
use Rattle.std.specs.Prelude.{option_map}
use Rattle.std.proofs.lemmas.List.{length-map}
use Rattle.command_words.specs.Words.{Text}
use Rattle.command_words.specs.Values.{each_in, order_in}
use Rattle.command_words.proofs.ListLemmas.{each_more, each_stops, parts_read, text_at}
use Rattle.indirection.specs.declared.move_order.MoveOrder.{MoveOrder}
use Rattle.command_words.proofs.orders.orders_of.Goals as goal

pub returns-in-None : goal.returns-in-None
returns-in-None c =
    let ws = map (λ (s : Bor Text). s.now) c.args.texts.now in
    let i = c.loop-text.text-index in
    let read = order_in c.args.cores c.args.buckets in
    let lt : i < length ws = omega (arith, length-map c.args.texts.now (λ (s : Bor Text). s.now)) in
    let lt2 : i < length c.args.texts.now = omega arith in
    let d : Bor Text = record { ref_ptr = (0, 0); now = [] } in
    let at = text_at c.args.texts.now i d lt2 in
    let none : read (get_or c.args.texts.now i d).now ≡ None = parts_read c.args.cores c.args.buckets (get_or c.args.texts.now i d).now c.in_ok-parts.parts.items c.as_slice.result.now None c.as_slice.ensures.value c.in_ok-parts.ensures c.in-None.ensures in
    each_stops read ws i (get_or c.args.texts.now i d).now c.loop-text.orders.items (each_in read ws) lt at none c.loop-text.invariant

pub loop-text-preserved : goal.loop-text-preserved
loop-text-preserved c =
    let ws = map (λ (s : Bor Text). s.now) c.args.texts.now in
    let i = c.loop-text.text-index in
    let read = order_in c.args.cores c.args.buckets in
    let lt : i < length ws = omega (arith, length-map c.args.texts.now (λ (s : Bor Text). s.now)) in
    let lt2 : i < length c.args.texts.now = omega arith in
    let d : Bor Text = record { ref_ptr = (0, 0); now = [] } in
    let at = text_at c.args.texts.now i d lt2 in
    let some : read (get_or c.args.texts.now i d).now ≡ Some c.in-Some.order =
    parts_read c.args.cores c.args.buckets (get_or c.args.texts.now i d).now c.in_ok-parts.parts.items c.as_slice.result.now (Some c.in-Some.order) c.as_slice.ensures.value c.in_ok-parts.ensures c.in-Some.ensures in
    let more = each_more read ws i (get_or c.args.texts.now i d).now c.loop-text.orders.items c.in-Some.order (each_in read ws) lt at some c.loop-text.invariant in
    subst (λ (acc : List MoveOrder). option_map (λ xs. acc ++ xs) (each_in read (drop (i + 1) ws)) ≡ each_in read ws) (sym c.in_ok-push-in-Some.ensures.items) more
