-- There is room for each item that is sent or taken.
use Rattle.std.proofs.Common.{◌≡◌, ℕ, ◌+◌, ◌<◌, ◌≤◌, List, [], ◌∷◌, ◌++◌, length, map, get_or, set, Bool, true, false, ◌||◌, ◌&&◌, ◌==◌, refl, sym, ap, ◌∙◌, subst, ⊎_elim, arith, length-append}
use Rattle.std.proofs.lemmas.Bool.{cases_eq}
use Rattle.std.proofs.lemmas.List.{map-set, get_or-set_same, get_or-set_other, get_or_default, length-set}
use Rattle.std.proofs.lemmas.List.Sums.{get_or-le-sum_by}
use Rattle.std.proofs.lemmas.List.Folds.{list_any-append}
use Rattle.std.specs.Prelude.{if◌then◌else◌}
use Rattle.std.specs.List.{list_any}
use Rattle.handover_core.specs.declared.item.Item.{Item}
use Rattle.handover_core.specs.declared.item.Item.TheVariants.{Of, End}
use Rattle.handover_core.specs.declared.post.Post.{Post}
use Rattle.handover_core.specs.declared.worker_core.WorkerCore.{WorkerCore}
use Rattle.handover_core.specs.Dispatch.{stream}
use Rattle.handover_core.specs.State.{CoreState, MachineView, blank_core, core_at}
use Rattle.handover_core.specs.Machine.{is_end, has_end, end_sent_to}
use Rattle.handover_core.specs.Cores.{core_state, HasRoom, HaveRoom}
use Rattle.handover_core.specs.Sound.{cells_in, IsSound}
use Rattle.indirection.proofs.Tests.{by_test}
use Rattle.handover_core.proofs.Counted.{cells_of, cells-split, cells-item, cells-nothing}
use Rattle.handover_core.proofs.Machines.{core-at}
use Rattle.handover_core.proofs.Ends.{no_end-open, open-no_end}

-- a list without an End has a cell for each item
no_end-cells : (xs : List Item) → has_end xs ≡ false → length xs ≡ cells_of xs
no_end-cells [] e = sym cells-nothing
no_end-cells (Of kind b place ∷ xs) e = let i = no_end-cells xs e in let f = cells-item kind b place xs in omega arith
no_end-cells (End ∷ xs) e = absurd (cc)

or-right_false : (a b : Bool) → (a || b) ≡ false → b ≡ false
or-right_false true b e = absurd (cc)
or-right_false false b e = e

or-left_false : (a b : Bool) → (a || b) ≡ false → a ≡ false
or-left_false true b e = absurd (cc)
or-left_false false b e = refl

-- a queue to which no End was sent has at most as many items as there are cells in use
pub open-queue : (m : MachineView) (c : ℕ) → IsSound m → c < length m.cores → end_sent_to m c ≡ false → length (core_at m c).queue + m.free ≤ m.pool
open-queue m c s l e =
    let o = open-no_end (stream c m.dispatched) (no_end-open c m.dispatched e) in
    let h = subst (λ (z : List Item). has_end z ≡ false) (sym (s.streamed.streams c)) o in
    let q = or-right_false (has_end (core_at m c).taken) (has_end (core_at m c).queue) (sym (list_any-append is_end (core_at m c).taken (core_at m c).queue) ∙ h) in
    let n = no_end-cells (core_at m c).queue q in
    let k = cells-split (core_at m c) in
    let b = get_or-le-sum_by cells_in m.cores c blank_core l in
    let t = s.counted.cells in omega arith

-- where no End was sent at all, none was sent to a core
and-or : (a b c d : Bool) → (b || d) ≡ false → (c ≡ false) → ((a && b) || c) ≡ false
and-or true b c d e f = let g = or-left_false b d e in cc
and-or false b c d e f = f

pub not-sent-to : (ds : List Post) (c : ℕ) → list_any (λ (p : Post). is_end p.item) ds ≡ false → list_any (λ (p : Post). (p.core == c) && is_end p.item) ds ≡ false
not-sent-to [] c e = refl
not-sent-to (p ∷ ds) c e = and-or (p.core == c) (is_end p.item) (list_any (λ (p : Post). (p.core == c) && is_end p.item) ds) (list_any (λ (p : Post). is_end p.item) ds) e
    (not-sent-to ds c (or-right_false (is_end p.item) (list_any (λ (p : Post). is_end p.item) ds) e))

-- a stream is no longer than what was sent
stream-length : (c : ℕ) (ds : List Post) → length (stream c ds) ≤ length ds
stream-length c [] = omega arith
stream-length c (p ∷ ds) = let i = stream-length c ds in
    by_test p.core c (λ t. length ((if t then p.item ∷ [] else []) ++ stream c ds) ≤ length (p ∷ ds)) (λ _. omega arith) (λ _. omega arith)

pub taken-length : (m : MachineView) (c : ℕ) → IsSound m → length (core_at m c).taken + length (core_at m c).queue ≤ length m.packets + m.first_moves + length m.cores
taken-length m c s =
    let a = length-append (core_at m c).taken (core_at m c).queue in
    let b = ap (λ (z : List Item). length z) (s.streamed.streams c) in
    let d = stream-length c m.dispatched in
    let p = s.posts in omega arith

-- the cores after one was changed
pub cores-set : (cores : List WorkerCore) (c : ℕ) (w : WorkerCore) (s : CoreState) → core_state w ≡ s → map core_state (set cores c w) ≡ set (map core_state cores) c s
cores-set cores c w s e = map-set core_state cores c w ∙ ap (λ (x : CoreState). set (map core_state cores) c x) e

pub rooms-set : (q t : ℕ) (cores : List WorkerCore) (c : ℕ) (w : WorkerCore) → ((d : WorkerCore) → HasRoom q t (get_or cores c d) → HasRoom q t w) → HaveRoom q t cores → HaveRoom q t (set cores c w)
rooms-set q t cores c w f h k d l = ⊎_elim
    (λ (e : k ≡ c). subst (λ (x : ℕ). x < length cores → HasRoom q t (get_or (set cores c w) x d)) (sym e)
    (λ lc. subst (HasRoom q t) (sym (get_or-set_same cores c w d lc)) (f d (h c d lc))) (let n = length-set cores c w in omega arith))
    (λ (ne : k ≡ c → ⊥). subst (HasRoom q t) (sym (get_or-set_other cores c k w d ne)) (h k d (let n = length-set cores c w in omega arith))) (cases_eq k c)

-- a core that was changed, as the state sees it
pub updated : (cores : List WorkerCore) (c : ℕ) (old new : WorkerCore) (f : CoreState → CoreState) → c < length cores → old ≡ get_or cores c old → core_state new ≡ f (core_state old)
    → map core_state (set cores c new) ≡ set (map core_state cores) c (f (get_or (map core_state cores) c blank_core))
updated cores c old new f l i e =
    cores-set cores c new (f (core_state old)) e ∙ ap (λ (s : CoreState). set (map core_state cores) c (f s)) (ap core_state i ∙ sym (core-at cores c old l))

pub rooms-updated : (q t : ℕ) (cores : List WorkerCore) (c : ℕ) (old new : WorkerCore) → c < length cores → old ≡ get_or cores c old → (HasRoom q t old → HasRoom q t new) → HaveRoom q t cores → HaveRoom q t (set cores c new)
rooms-updated q t cores c old new l i f h = rooms-set q t cores c new (λ d r. f (subst (HasRoom q t) (get_or_default cores c d old l ∙ sym i) r)) h
