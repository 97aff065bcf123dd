-- What a dispatcher keeps of its buckets and cores goes with one more step.
use Rattle.std.proofs.Common.{◌≡◌, ℕ, ◌+◌, ◌<◌, ◌≤◌, List, [], ◌∷◌, ◌++◌, length, get_or, refl, sym, ap, ◌∙◌, subst, arith, Bool, true, false, if◌then◌else◌, ◌==◌, length-append}
use Rattle.std.specs.Prelude.{slice_index, slice_set}
use Rattle.std.proofs.Math.ListN.{set}
use Rattle.std.proofs.lemmas.List.{append-nil, get_or-set_same, get_or-set_other, length-set}
use Rattle.std.proofs.lemmas.List.Sums.{count_by-le-length}
use Rattle.indirection.proofs.Tests.{by_test}
use Rattle.indirection.proofs.Steps.{owner_from-append, tail_from-append, count_in-append, tries_of-append, parcels_of-append, tries_of-round, tries_of-send, parcels_of-round, parcels_of-try}
use Rattle.indirection.specs.declared.outcome.Outcome.{Outcome}
use Rattle.indirection.specs.declared.outcome.Outcome.TheVariants.{Moved, Placed, Same, InPassage}
use Rattle.indirection.specs.Outcomes.{IsOutcome}
use Rattle.indirection.specs.Views.{LoadsView}
use Rattle.indirection.specs.Tries.{Ask, Proposed, Ordered, Try, ask_bucket, ask_to, owner_by, owner_after, tail_by, tail_from}
use Rattle.indirection.specs.Story.{Parcel, RoundHead, Step, Rounds, Tries, Sends, parcels_of, tries_of, try_of, count_in, owner_then, start_then, sent_then}
use Rattle.packet_fields.specs.declared.packet.PacketInfo.{PacketInfo}
use Rattle.handover_core.specs.Dispatch.{dispatched}
use Rattle.handover_core.proofs.DispatcherSide.{IsTold-send, IsTold-try}
use Rattle.flow_work.specs.declared.work.TheConstants.{MOST_COST, MOST_PACKETS}
use Rattle.dispatch_loop.specs.Terms.{cores_of, buckets_of}
use Rattle.dispatch_loop.specs.DispatcherState.{DispatcherState}
use Rattle.dispatch_loop.specs.Decided.{decided_owners, decided_starts}
use Rattle.dispatch_loop.specs.Past.{parcel_of}
use Rattle.dispatch_loop.specs.Does.{with_round, without_round, noted, decided, with_packet, bucket_for, owner_for, more_at, IsDecided}
use Rattle.dispatch_loop.specs.Tied.{IsDealt}
use Rattle.dispatch_loop.proofs.StoryMore.{sent_from-push, dispatched-push}

-- a list with one entry more, or another

pub more-get : (xs : List ℕ) (k n j : ℕ) → k < length xs → slice_index (more_at k n xs) j ≡ slice_index xs j + (if k == j then n else 0)
more-get xs k n j h = by_test k j (λ t. slice_index (more_at k n xs) j ≡ slice_index xs j + (if t then n else 0))
    (λ e. subst (λ (i : ℕ). get_or (set xs k (get_or xs k 0 + n)) i 0 ≡ get_or xs i 0 + n) e (get_or-set_same xs k (get_or xs k 0 + n) 0 h))
    (λ ne. get_or-set_other xs k j (get_or xs k 0 + n) 0 (λ e. ne (sym e)) ∙ omega arith)

pub if-most : (t : Bool) (n m : ℕ) → n ≤ m → (if t then n else 0) ≤ m
if-most true n m h = h
if-most false n m h = omega arith

pub set-get : (xs : List ℕ) (k v j : ℕ) → k < length xs → slice_index (slice_set xs k v) j ≡ (if k == j then v else slice_index xs j)
set-get xs k v j h = by_test k j (λ t. slice_index (slice_set xs k v) j ≡ (if t then v else slice_index xs j))
    (λ e. subst (λ (i : ℕ). get_or (set xs k v) i 0 ≡ v) e (get_or-set_same xs k v 0 h))
    (λ ne. get_or-set_other xs k j v 0 (λ e. ne (sym e)))

if-same : (t : Bool) (x : ℕ) → x ≡ (if t then x else x)
if-same true x = refl
if-same false x = refl

owners-get : (xs : List ℕ) (k to j : ℕ) (o : Outcome) → k < length xs → slice_index (decided_owners xs k to o) j ≡ (if k == j then owner_by (slice_index xs j) to o else slice_index xs j)
owners-get xs k to j (Moved tail) h = set-get xs k to j h
owners-get xs k to j Placed h = set-get xs k to j h
owners-get xs k to j Same h = if-same (k == j) (slice_index xs j)
owners-get xs k to j (InPassage tail sent word) h = if-same (k == j) (slice_index xs j)

starts-get : (xs : List ℕ) (k j : ℕ) (o : Outcome) → k < length xs → slice_index (decided_starts xs k o) j ≡ (if k == j then tail_by (slice_index xs j) o else slice_index xs j)
starts-get xs k j (Moved tail) h = set-get xs k tail j h
starts-get xs k j Placed h = if-same (k == j) (slice_index xs j)
starts-get xs k j Same h = if-same (k == j) (slice_index xs j)
starts-get xs k j (InPassage tail sent word) h = if-same (k == j) (slice_index xs j)

pub length-owners : (xs : List ℕ) (k to : ℕ) (o : Outcome) → length (decided_owners xs k to o) ≡ length xs
length-owners xs k to (Moved tail) = length-set xs k to
length-owners xs k to Placed = length-set xs k to
length-owners xs k to Same = refl
length-owners xs k to (InPassage tail sent word) = refl

pub length-starts : (xs : List ℕ) (k : ℕ) (o : Outcome) → length (decided_starts xs k o) ≡ length xs
length-starts xs k (Moved tail) = length-set xs k tail
length-starts xs k Placed = refl
length-starts xs k Same = refl
length-starts xs k (InPassage tail sent word) = refl

-- a round

pub dealt-round : (f : DispatcherState) (loads : LoadsView) (ss : List Step) (h : RoundHead) → IsDealt f ss → IsDealt (with_round f loads) (ss ++ Rounds h ∷ [])
dealt-round f loads ss h d = record {
  owners_wide = d.owners_wide;
  starts_wide = d.starts_wide;
  counts_wide = d.counts_wide;
  cores_wide = d.cores_wide;
  inside = d.inside;
  sent = d.sent ∙ ap (λ (z : List Parcel). length z) (sym (parcels_of-round ss h));
  owners = λ b l. d.owners b l ∙ ap (λ (z : List Try). owner_after f.terms.start.owners z b) (sym (tries_of-round ss h));
  starts = λ b l. d.starts b l ∙ ap (λ (z : List Try). tail_from b 0 z) (sym (tries_of-round ss h));
  counts = λ b l. d.counts b l ∙ ap (λ (z : List Parcel). count_in b z) (sym (parcels_of-round ss h));
  cores = λ c l. let e = d.cores c l in let q = sent_from-push c f.terms.start.owners [] ss (Rounds h) in omega arith;
  few = d.few;
  told = rw (dispatched-push f.terms.start.owners ss (Rounds h), tries_of-round ss h, parcels_of-round ss h, append-nil (dispatched f.terms.start.owners ss)) d.told;
}

pub dealt-refused : (f : DispatcherState) (ss : List Step) → IsDealt f ss → IsDealt (without_round f) ss
dealt-refused f ss d = record {
  owners_wide = d.owners_wide;
  starts_wide = d.starts_wide;
  counts_wide = d.counts_wide;
  cores_wide = d.cores_wide;
  inside = d.inside;
  sent = d.sent;
  owners = d.owners;
  starts = d.starts;
  counts = d.counts;
  cores = d.cores;
  few = d.few;
  told = d.told;
}

-- a try

pub dealt-noted : (f : DispatcherState) (a : Ask) (o : Outcome) (ss : List Step) → IsDealt f ss → IsDealt (noted f a o) ss
dealt-noted f (Proposed at p) o ss d = record {
  owners_wide = d.owners_wide;
  starts_wide = d.starts_wide;
  counts_wide = d.counts_wide;
  cores_wide = d.cores_wide;
  inside = d.inside;
  sent = d.sent;
  owners = d.owners;
  starts = d.starts;
  counts = d.counts;
  cores = d.cores;
  few = d.few;
  told = d.told;
}
dealt-noted f (Ordered m) o ss d = record {
  owners_wide = d.owners_wide;
  starts_wide = d.starts_wide;
  counts_wide = d.counts_wide;
  cores_wide = d.cores_wide;
  inside = d.inside;
  sent = d.sent;
  owners = d.owners;
  starts = d.starts;
  counts = d.counts;
  cores = d.cores;
  few = d.few;
  told = d.told;
}

-- an outcome by what is kept is one by the steps
pub outcome_then : (f : DispatcherState) (ss : List Step) (a : Ask) (o : Outcome) → IsDealt f ss → ask_bucket a < buckets_of f.terms → IsDecided f a o
    → IsOutcome (owner_then f.terms.start.owners ss (ask_bucket a)) (ask_to a) (sent_then ss (ask_bucket a)) (start_then ss (ask_bucket a)) o
outcome_then f ss a o d h is = rw (← d.owners (ask_bucket a) h, ← d.counts (ask_bucket a) h, ← d.starts (ask_bucket a) h) is

pub dealt-decided : (f : DispatcherState) (ss : List Step) (a : Ask) (o : Outcome) → IsDealt f ss → ask_bucket a < buckets_of f.terms → ask_to a < cores_of f.terms → IsDecided f a o → IsDealt (decided f (ask_bucket a) (ask_to a) o) (ss ++ Tries a o ∷ [])
dealt-decided f ss a o d h to is = record {
  inside = λ b l. subst (λ (n : ℕ). n < cores_of f.terms) (sym (owners-get f.owners q (ask_to a) b o (let w = d.owners_wide in omega arith))) (by-either (q == b) (slice_index f.owners b) o (d.inside b l));
  owners_wide = length-owners f.owners q (ask_to a) o ∙ d.owners_wide;
  starts_wide = length-starts f.starts q o ∙ d.starts_wide;
  counts_wide = d.counts_wide;
  cores_wide = d.cores_wide;
  sent = d.sent ∙ ap (λ (z : List Parcel). length z) (sym (parcels_of-try ss a o));
  owners = λ b l. owners-get f.owners q (ask_to a) b o (let w = d.owners_wide in omega arith)
      ∙ (ap (λ (n : ℕ). if q == b then owner_by n (ask_to a) o else n) (d.owners b l)
      ∙ (sym (owner_from-append b (slice_index start b) (tries_of ss) (try_of a o ∷ [])) ∙ ap (λ (z : List Try). owner_after start z b) (sym (tries_of-append ss (Tries a o ∷ [])))));
  starts = λ b l. starts-get f.starts q b o (let w = d.starts_wide in omega arith)
      ∙ (ap (λ (n : ℕ). if q == b then tail_by n o else n) (d.starts b l)
      ∙ (sym (tail_from-append b 0 (tries_of ss) (try_of a o ∷ [])) ∙ ap (λ (z : List Try). tail_from b 0 z) (sym (tries_of-append ss (Tries a o ∷ [])))));
  counts = λ b l. d.counts b l ∙ ap (λ (z : List Parcel). count_in b z) (sym (parcels_of-try ss a o));
  cores = λ c l. let e = d.cores c l in let p = sent_from-push c start [] ss (Tries a o) in omega arith;
  few = d.few;
  told = rw (dispatched-push start ss (Tries a o), tries_of-append ss (Tries a o ∷ []), parcels_of-try ss a o)
      (IsTold-try start (tries_of ss) (parcels_of ss) (dispatched start ss) a o d.told (outcome_then f ss a o d h is));
} where
  q : ℕ
  q = ask_bucket a

  start : List ℕ
  start = f.terms.start.owners

  by-outcome : (n : ℕ) (x : Outcome) → n < cores_of f.terms → owner_by n (ask_to a) x < cores_of f.terms
  by-outcome n (Moved tail) l = to
  by-outcome n Placed l = to
  by-outcome n Same l = l
  by-outcome n (InPassage tail sent word) l = l

  by-either : (t : Bool) (n : ℕ) (x : Outcome) → n < cores_of f.terms → (if t then owner_by n (ask_to a) x else n) < cores_of f.terms
  by-either true n x l = by-outcome n x l
  by-either false n x l = l

-- a packet

pub dealt-send : (f : DispatcherState) (ss : List Step) (info : PacketInfo) → IsDealt f ss → bucket_for f info < buckets_of f.terms → owner_for f info < cores_of f.terms → f.sent < MOST_PACKETS → f.terms.cost info ≤ MOST_COST
    → IsDealt (with_packet f info) (ss ++ Sends (parcel_of f.terms info) ∷ [])
dealt-send f ss info d h inside few cheap = record {
  owners_wide = d.owners_wide;
  starts_wide = d.starts_wide;
  counts_wide = length-set f.counts q _ ∙ d.counts_wide;
  cores_wide = length-set f.sent_to (owner_for f info) _ ∙ d.cores_wide;
  inside = d.inside;
  sent = let e = ap (λ (z : List Parcel). length z) (parcels_of-append ss (Sends p ∷ [])) ∙ length-append (parcels_of ss) (p ∷ []) in let s = d.sent in omega arith;
  owners = λ b l. d.owners b l ∙ ap (λ (z : List Try). owner_after start z b) (sym (tries_of-send ss p));
  starts = λ b l. d.starts b l ∙ ap (λ (z : List Try). tail_from b 0 z) (sym (tries_of-send ss p));
  counts = λ b l. more-get f.counts q 1 b (let w = d.counts_wide in omega arith)
      ∙ (let e = d.counts b l in let s = ap (λ (z : List Parcel). count_in b z) (parcels_of-append ss (Sends p ∷ [])) ∙ count_in-append b (parcels_of ss) (p ∷ []) in omega arith);
  cores = λ c l. more-get f.sent_to (owner_for f info) p.cost c (let w = d.cores_wide in omega arith)
      ∙ (ap (λ (n : ℕ). slice_index f.sent_to c + (if n == c then p.cost else 0)) (d.owners q h)
      ∙ (let e = d.cores c l in let s = sent_from-push c start [] ss (Sends p) in omega arith));
  few = λ c. let e = more-get f.sent_to (owner_for f info) p.cost c (let w = d.cores_wide in omega arith) in let l = d.few c in let o = if-most (owner_for f info == c) p.cost MOST_COST cheap in omega arith;
  told = rw (dispatched-push start ss (Sends p), tries_of-send ss p, parcels_of-append ss (Sends p ∷ []))
      (IsTold-send start (tries_of ss) (parcels_of ss) (dispatched start ss) p d.told (let s = d.sent in let c = count_by-le-length (λ (z : Parcel). z.bucket == q) (parcels_of ss) in omega arith));
} where
  q : ℕ
  q = bucket_for f info

  start : List ℕ
  start = f.terms.start.owners

  p : Parcel
  p = parcel_of f.terms info
