-- A core works no more packets than were sent.
use Rattle.std.proofs.Common.{suc, ◌≡◌, ℕ, ◌+◌, ◌≤◌, ◌^◌, if◌then◌else◌, List, [], ◌∷◌, ◌++◌, length, count_by, sum_by, ◌*◌, refl, ap, arith}
use Rattle.std.proofs.lemmas.List.Sums.{sum_by-cons}
use Rattle.indirection.proofs.Tests.{by_test}
use Rattle.handover_core.specs.declared.item.Kind.TheVariants.{First, Next, Mark}
use Rattle.handover_core.specs.declared.item.Item.{Item}
use Rattle.handover_core.specs.declared.item.Item.TheVariants.{Of, End}
use Rattle.handover_core.specs.declared.post.Post.{Post}
use Rattle.handover_core.specs.Dispatch.{stream}
use Rattle.handover_core.specs.State.{MachineView, core_at}
use Rattle.handover_core.specs.Sound.{IsSound, is_mark_item}
use Rattle.worker_loop.specs.Counts.{more}
use Rattle.worker_loop.specs.Schedule.{is_packet, worked_of, item_cost, worked_cost}
use Rattle.flow_work.specs.declared.work.TheConstants.{MOST_COST}

packets_in : List Item → ℕ
packets_in [] = 0
packets_in (x ∷ xs) = (if is_packet x then 1 else 0) + packets_in xs

marks_in : List Post → ℕ
marks_in [] = 0
marks_in (p ∷ ps) = (if is_mark_item p.item then 1 else 0) + marks_in ps

counted_packets : (xs : List Item) → count_by is_packet xs ≡ packets_in xs
unfolding packets_in
counted_packets [] = refl
counted_packets (x ∷ xs) = let ih = counted_packets xs in let s = sum_by-cons (λ (y : Item). if is_packet y then 1 else 0) x xs in omega arith

counted_marks : (ps : List Post) → count_by (λ (p : Post). is_mark_item p.item) ps ≡ marks_in ps
unfolding marks_in
counted_marks [] = refl
counted_marks (p ∷ ps) = let ih = counted_marks ps in let s = sum_by-cons (λ (q : Post). if is_mark_item q.item then 1 else 0) p ps in omega arith

front_packets : (xs ys : List Item) → packets_in xs ≤ packets_in (xs ++ ys)
unfolding packets_in
front_packets [] ys = omega arith
front_packets (x ∷ xs) ys = let ih = front_packets xs ys in omega arith

one_kind : (x : Item) → (if is_packet x then 1 else 0) + (if is_mark_item x then 1 else 0) ≤ 1
one_kind (Of First b place) = omega arith
one_kind (Of Next b place) = omega arith
one_kind (Of Mark b place) = omega arith
one_kind End = omega arith

some_kind : (x : Item) → (if is_mark_item x then 1 else 0) ≤ 1
some_kind x = let o = one_kind x in omega arith

sent_packets : (c : ℕ) (ps : List Post) → packets_in (stream c ps) + marks_in ps ≤ length ps
unfolding packets_in marks_in
sent_packets c [] = omega arith
sent_packets c (p ∷ ps) =
    let ih = sent_packets c ps in
    by_test p.core c (λ t. packets_in ((if t then p.item ∷ [] else []) ++ stream c ps) + marks_in (p ∷ ps) ≤ suc (length ps))
    (λ _. let o = one_kind p.item in omega arith)
    (λ _. let o = some_kind p.item in omega arith)

-- at most the packets that were sent, and one for each core
pub worked_few : (m : MachineView) (c : ℕ) → IsSound m → worked_of (core_at m c) ≤ length m.packets + length m.cores
worked_few m c sound =
    let posts = sound.posts in let moves = sound.counted.moves in
    let taken = counted_packets (core_at m c).taken in
    let front = front_packets (core_at m c).taken (core_at m c).queue in
    let all = ap packets_in (sound.streamed.streams c) in
    let marks = counted_marks m.dispatched in
    let few = sent_packets c m.dispatched in
    let sent = sound.shaped.sent in
    omega arith

-- what the packets cost that a core has worked

items_small : (costs : ℕ → ℕ → ℕ) → ((b place : ℕ) → costs b place ≤ MOST_COST) → (xs : List Item) → sum_by (item_cost costs) xs ≤ MOST_COST * packets_in xs
unfolding packets_in
items_small costs small [] = omega arith
items_small costs small (Of First b place ∷ xs) = let ih = items_small costs small xs in let s = sum_by-cons (item_cost costs) (Of First b place) xs in let c = small b place in omega arith
items_small costs small (Of Next b place ∷ xs) = let ih = items_small costs small xs in let s = sum_by-cons (item_cost costs) (Of Next b place) xs in let c = small b place in omega arith
items_small costs small (Of Mark b place ∷ xs) = let ih = items_small costs small xs in let s = sum_by-cons (item_cost costs) (Of Mark b place) xs in omega arith
items_small costs small (End ∷ xs) = let ih = items_small costs small xs in let s = sum_by-cons (item_cost costs) End xs in omega arith

-- at most the greatest cost for each packet that was sent, and for each core
pub cost_few : (costs : ℕ → ℕ → ℕ) → ((b place : ℕ) → costs b place ≤ MOST_COST) → (m : MachineView) (c : ℕ) → IsSound m → worked_cost costs (core_at m c) ≤ MOST_COST * (length m.packets + length m.cores)
cost_few costs small m c sound =
    let posts = sound.posts in let moves = sound.counted.moves in
    let each = items_small costs small (core_at m c).taken in
    let front = front_packets (core_at m c).taken (core_at m c).queue in
    let all = ap packets_in (sound.streamed.streams c) in
    let marks = counted_marks m.dispatched in
    let few = sent_packets c m.dispatched in
    let sent = sound.shaped.sent in
    omega arith

-- so the cost that the worker notes is what its core has worked
pub cost_whole : (costs : ℕ → ℕ → ℕ) → ((b place : ℕ) → costs b place ≤ MOST_COST) → (m : MachineView) (c : ℕ) → IsSound m → length m.cores ≤ 2 ^ 32 → more 0 (worked_cost costs (core_at m c)) ≡ worked_cost costs (core_at m c)
cost_whole costs small m c sound cores = let w = cost_few costs small m c sound in let few = sound.shaped.few in omega arith

-- so the worker's count is what its core has worked
pub worked_whole : (m : MachineView) (c : ℕ) → IsSound m → length m.cores ≤ 2 ^ 32 → more 0 (worked_of (core_at m c)) ≡ worked_of (core_at m c)
worked_whole m c sound cores = let w = worked_few m c sound in let few = sound.shaped.few in omega arith
