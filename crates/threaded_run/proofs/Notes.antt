-- The custodies that were ended on a shelf, as its note has them and as the cores ended them.
use Rattle.std.proofs.Common.{◌≡◌, ℕ, suc, ◌+◌, ◌<◌, if◌then◌else◌, eqb, List, [], ◌∷◌, ◌++◌, length, map, reverse, Some, refl, sym, ap, ◌∙◌, subst, arith, append_assoc}
use Rattle.std.specs.Prelude.{slice_get, slice_index}
use Rattle.std.specs.List.{flat_map}
use Rattle.std.proofs.lemmas.List.{reverse-append}
use Rattle.std.proofs.lemmas.List.Concat.{flat_map-cons}
use Rattle.indirection.proofs.Tests.{by_test, by_less}
use Rattle.indirection.specs.JournalView.{JournalView}
use Rattle.indirection.specs.Tries.{tries}
use Rattle.indirection.specs.Story.{Parcel, count_in}
use Rattle.indirection.specs.Stints.{Stint, stints}
use Rattle.indirection.specs.Due.{Rules}
use Rattle.indirection.specs.Lawful.{IsLawfulSoFar}
use Rattle.handover_core.specs.Spans.{Span, spans_at}
use Rattle.handover_words.specs.declared.history.Stretch.{Stretch}
use Rattle.handover_words.specs.ShelfRule.{JoinsTo}
use Rattle.handover_words.specs.SortedSpans as shelf
use Rattle.handover_words.specs.SortedSpans.{place_into}
use Rattle.worker_loop.specs.Custodies.{ended_spans}
use Rattle.rsspp_run.specs.Custody.{Meet, stint_span, all_spans, times_in, AreTo}
use Rattle.rsspp_run.proofs.CustodySorts.{note_is}

times_append : (s : Span) (xs ys : List Span) → times_in s (xs ++ ys) ≡ times_in s xs + times_in s ys
times_append s [] ys = omega arith
times_append s (x ∷ xs) ys = let ih = times_append s xs ys in omega arith

times_reverse : (s : Span) (xs : List Span) → times_in s (reverse xs) ≡ times_in s xs
times_reverse s [] = refl
times_reverse s (x ∷ xs) =
    let ih = times_reverse s xs in let a = ap (times_in s) (reverse-append (x ∷ []) xs) in let b = times_append s (reverse xs) (x ∷ []) in omega arith

times_placed : (s p : Span) (qs : List Span) → times_in s (place_into p qs) ≡ times_in s (p ∷ qs)
times_placed s p [] = refl
times_placed s p (q ∷ qs) =
    let ih = times_placed s p qs in by_less q.1 p.1 (λ t. times_in s (if t then p ∷ q ∷ qs else q ∷ place_into p qs) ≡ times_in s (p ∷ q ∷ qs)) (λ _. refl) (λ _. omega arith)

-- a custody of the bucket stands as often in the order of places as in the order of time
times_sorted : (s : Span) (b : ℕ) (es : List Stretch) → times_in s (shelf.sorted_spans b es) ≡ times_in s (ended_spans b es)
times_sorted s b [] = refl
times_sorted s b (e ∷ es) =
    let ih = times_sorted s b es in
    by_test e.bucket b (λ t. times_in s (if t then place_into (e.from, e.to) (shelf.sorted_spans b es) else shelf.sorted_spans b es) ≡ times_in s ((if t then (e.from, e.to) ∷ [] else []) ++ ended_spans b es))
    (λ _. let p = times_placed s (e.from, e.to) (shelf.sorted_spans b es) in omega arith) (λ _. ih)

history_append : (b : ℕ) (xs ys : List Stretch) → ended_spans b (xs ++ ys) ≡ ended_spans b xs ++ ended_spans b ys
history_append b [] ys = refl
history_append b (x ∷ xs) ys =
    ap (λ (z : List Span). (if eqb x.bucket b then (x.from, x.to) ∷ [] else []) ++ z) (history_append b xs ys)
    ∙ sym (append_assoc (if eqb x.bucket b then (x.from, x.to) ∷ [] else []) (ended_spans b xs) (ended_spans b ys))

times_both : (s : Span) (b : ℕ) (xs ys : List Stretch) → times_in s (ended_spans b (xs ++ ys)) ≡ times_in s (ended_spans b xs) + times_in s (ended_spans b ys)
times_both s b xs ys = ap (times_in s) (history_append b xs ys) ∙ times_append s (ended_spans b xs) (ended_spans b ys)

times_backward : (s : Span) (b : ℕ) (es : List Stretch) → times_in s (ended_spans b (reverse es)) ≡ times_in s (ended_spans b es)
times_backward s b [] = refl
times_backward s b (e ∷ es) =
    let ih = times_backward s b es in let a = ap (λ (l : List Stretch). times_in s (ended_spans b l)) (reverse-append (e ∷ []) es) in
    let m = times_both s b (reverse es) (e ∷ []) in let n = times_both s b (e ∷ []) es in omega arith

meet_snoc : (from to : ℕ) (ps : List Span) (p : Span) → Meet from ps p.0 → p.0 < p.1 → p.1 ≡ to → Meet from (ps ++ p ∷ []) to
meet_snoc from to [] p m l e = (sym m, omega arith, e)
meet_snoc from to (q ∷ ps) p m l e = (m.0, m.1, meet_snoc q.1 to ps p m.2 l e)

-- a chain with its last pair first, turned round
joins_meet : (cs : List Span) (to : ℕ) → JoinsTo cs to → Meet 0 (reverse cs) to
joins_meet [] to h = sym h
joins_meet (c ∷ cs) to h = subst (λ (l : List Span). Meet 0 l to) (sym (reverse-append (c ∷ []) cs)) (meet_snoc 0 to (reverse cs) c (joins_meet cs c.0 h.2) h.1 h.0)

-- what parties ended together, where each ended what its core has of the stints
pub all_ended : {X : Type 0} (ended : X → List Stretch) (s : Span) (b : ℕ) (ss : List Stint) (xs : List X) (k : ℕ)
    → ((c : ℕ) (x : X) → slice_get xs c ≡ Some x → ended_spans b (reverse (ended x)) ≡ spans_at (k + c) ss) → times_in s (all_spans ss k) + times_in s (ended_spans b (flat_map ended xs)) ≡ times_in s (all_spans ss (k + length xs))
all_ended ended s b ss [] k each =
    let none : times_in s (ended_spans b (flat_map ended [])) ≡ 0 = refl in
    let same : times_in s (all_spans ss k) ≡ times_in s (all_spans ss (k + 0)) = ap (λ (n : ℕ). times_in s (all_spans ss n)) (let q : k ≡ k + 0 = omega arith in q) in omega arith
all_ended ended s b ss (x ∷ xs) k each =
    let ih = all_ended ended s b ss xs (suc k) (λ c y at. each (suc c) y at ∙ ap (λ (n : ℕ). spans_at n ss) (let q : k + suc c ≡ suc k + c = omega arith in q)) in
    let a = ap (λ (l : List Stretch). times_in s (ended_spans b l)) (flat_map-cons ended x xs) in
    let m = times_both s b (ended x) (flat_map ended xs) in
    let here : times_in s (ended_spans b (ended x)) ≡ times_in s (spans_at k ss) = sym (times_backward s b (ended x)) ∙ (ap (times_in s) (each 0 x refl) ∙ ap (λ (n : ℕ). times_in s (spans_at n ss)) (let q : k + 0 ≡ k = omega arith in q)) in
    let more = times_append s (all_spans ss k) (spans_at k ss) in
    let last : times_in s (all_spans ss (suc k + length xs)) ≡ times_in s (all_spans ss (k + suc (length xs))) = ap (λ (n : ℕ). times_in s (all_spans ss n)) (let q : suc k + length xs ≡ k + suc (length xs) = omega arith in q) in
    omega arith

-- the note of a bucket: in their order its custodies are the stints, and they end where these do
pub bucket_note : {X : Type 0} (rules : Rules) (xs : List Parcel) (j : JournalView) (cores b done : ℕ) (ended : X → List Stretch) (ps : List X) (all : List Stretch)
    → IsLawfulSoFar rules xs j → slice_index j.start b < cores → AreTo cores (tries j.entries) → JoinsTo (shelf.sorted_spans b all) done → all ≡ flat_map ended ps → length ps ≡ cores
    → ((c : ℕ) (p : X) → slice_get ps c ≡ Some p → ended_spans b (reverse (ended p)) ≡ spans_at c (stints j xs b))
    → (reverse (shelf.sorted_spans b all) ≡ map stint_span (stints j xs b)) × (done ≡ count_in b xs)
bucket_note rules xs j cores b done ended ps all lawful owner to joins is wide each =
    note_is rules xs j cores b done (reverse (shelf.sorted_spans b all)) lawful owner to (joins_meet (shelf.sorted_spans b all) done joins)
    (λ s.
    let r = times_reverse s (shelf.sorted_spans b all) in let o = times_sorted s b all in let i = ap (λ (l : List Stretch). times_in s (ended_spans b l)) is in
    let e = all_ended ended s b (stints j xs b) ps 0 (λ c p at. each c p at ∙ ap (λ (n : ℕ). spans_at n (stints j xs b)) (let q : c ≡ 0 + c = omega arith in q)) in
    let w : times_in s (all_spans (stints j xs b) (0 + length ps)) ≡ times_in s (all_spans (stints j xs b) cores) = ap (λ (n : ℕ). times_in s (all_spans (stints j xs b) n)) (let q : 0 + length ps ≡ cores = omega arith in q) in
    omega arith)
