-- How many packets stand in the stream of a core.
use Rattle.std.proofs.Common.{◌≡◌, ℕ, zero, suc, ◌+◌, ◌≤◌, if◌then◌else◌, Bool, List, [], ◌∷◌, ◌++◌, length, map, count_by, refl, ap, arith}
use Rattle.std.proofs.lemmas.List.Sums.{sum_by-cons, count_by-le-length}
use Rattle.indirection.proofs.Tests.{by_test}
use Rattle.indirection.proofs.Told.{parcels_of-told}
use Rattle.indirection.specs.declared.outcome.Outcome.{Outcome}
use Rattle.indirection.specs.declared.outcome.Outcome.TheVariants.{Moved, Placed, Same, InPassage}
use Rattle.indirection.specs.Each.{gather_from}
use Rattle.indirection.specs.JournalView.{JournalView}
use Rattle.indirection.specs.Tries.{ask_bucket}
use Rattle.indirection.specs.Story.{Parcel, Step, Rounds, Tries, Sends, told, parcels_of, owner_then}
use Rattle.handover_core.specs.declared.item.Kind.{Kind}
use Rattle.handover_core.specs.declared.item.Kind.TheVariants.{First, Next, Mark}
use Rattle.handover_core.specs.declared.item.Item.TheVariants.{Of, End}
use Rattle.handover_core.specs.declared.post.Post.{Post}
use Rattle.handover_core.specs.Dispatch.{stream, ends, posts, mark_posts, dispatches}
use Rattle.core_queue.specs.declared.item.Seen.{Seen}
use Rattle.core_queue.specs.declared.item.Seen.TheVariants.{Packet, Close}
use Rattle.core_queue.specs.Cells.{plain}
use Rattle.worker_loop.specs.Chains.{is_mark}
use Rattle.worker_loop.specs.Counts.{packets_taken}
use Rattle.worker_loop.specs.Schedule.{is_packet}

counted : {X : Type 0} (p : X → Bool) (x : X) (xs : List X) → count_by p (x ∷ xs) ≡ (if p x then 1 else 0) + count_by p xs
counted p x xs = sum_by-cons (λ y. if p y then 1 else 0) x xs

one_cell : (k : Kind) (b place : ℕ) → ◌≡◌ {A = ℕ} (if is_mark k then 0 else 1) (if is_packet (Of k b place) then 1 else 0)
one_cell First b place = refl
one_cell Next b place = refl
one_cell Mark b place = refl

-- what was taken has as many packets with its cells as without
pub taken_packets : (xs : List Seen) → packets_taken xs ≡ count_by is_packet (map plain xs)
taken_packets [] = refl
taken_packets (Packet f ∷ xs) =
    let ih = taken_packets xs in let k = one_cell f.kind f.bucket f.place in let c = counted is_packet (Of f.kind f.bucket f.place) (map plain xs) in omega arith
taken_packets (Close ∷ xs) = let ih = taken_packets xs in let c = counted is_packet End (map plain xs) in omega arith

abbrev sends : Post → Bool
sends p = is_packet p.item

append_count : (ps qs : List Post) → count_by sends (ps ++ qs) ≡ count_by sends ps + count_by sends qs
append_count [] qs = omega arith
append_count (p ∷ ps) qs = let ih = append_count ps qs in let a = counted sends p ps in let b = counted sends p (ps ++ qs) in omega arith

stream_few : (c : ℕ) (ps : List Post) → count_by is_packet (stream c ps) ≤ count_by sends ps
stream_few c [] = omega arith
stream_few c (p ∷ ps) =
    let ih = stream_few c ps in let k = counted sends p ps in
    by_test p.core c (λ t. count_by is_packet ((if t then p.item ∷ [] else []) ++ stream c ps) ≤ count_by sends (p ∷ ps))
    (λ _. let m = counted is_packet p.item (stream c ps) in omega arith) (λ _. omega arith)

marks_none : (core b : ℕ) (o : Outcome) → count_by sends (mark_posts core b o) ≡ 0
marks_none core b (Moved tail) = refl
marks_none core b Placed = refl
marks_none core b Same = refl
marks_none core b (InPassage tail sent word) = refl

one_at_most : (start : List ℕ) (before : List Step) (s : Step) → count_by sends (posts start before s) ≤ length (parcels_of (s ∷ []))
one_at_most start before (Rounds h) = omega arith
one_at_most start before (Tries a o) = let m = marks_none (owner_then start before (ask_bucket a)) (ask_bucket a) o in omega arith
one_at_most start before (Sends p) = count_by-le-length sends (posts start before (Sends p))

one_step : (s : Step) (ss : List Step) → length (parcels_of (s ∷ ss)) ≡ length (parcels_of (s ∷ [])) + length (parcels_of ss)
one_step (Rounds h) ss = omega arith
one_step (Tries a o) ss = omega arith
one_step (Sends p) ss = omega arith

gathered_few : (start : List ℕ) (before steps : List Step) → count_by sends (gather_from (posts start) before steps) ≤ length (parcels_of steps)
gathered_few start before [] = omega arith
gathered_few start before (s ∷ ss) =
    let a = append_count (posts start before s) (gather_from (posts start) (before ++ s ∷ []) ss) in let o = one_at_most start before s in
    let ih = gathered_few start (before ++ s ∷ []) ss in let l = one_step s ss in omega arith

ends_none : (n : ℕ) → count_by sends (ends n) ≡ 0
ends_none zero = refl
ends_none (suc n) = let a = append_count (ends n) (record { core = n; item = End } ∷ []) in let ih = ends_none n in let o = counted sends (record { core = n; item = End }) [] in omega arith

-- the stream of a core has no more packets than the run
pub stream_packets : (c cores : ℕ) (xs : List Parcel) (j : JournalView) → count_by is_packet (stream c (dispatches cores xs j)) ≤ length xs
stream_packets c cores xs j =
    let s = stream_few c (dispatches cores xs j) in let a = append_count (gather_from (posts j.start) [] (told 0 xs j.entries)) (ends cores) in
    let g = gathered_few j.start [] (told 0 xs j.entries) in let e = ends_none cores in let p = ap length (parcels_of-told j.entries 0 xs) in omega arith
