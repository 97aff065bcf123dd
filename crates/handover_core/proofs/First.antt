-- The first state is sound.
use Rattle.std.proofs.Common.{◌≡◌, ℕ, ◌*◌, ◌<◌, ◌≤◌, List, [], ◌∷◌, ◌++◌, length, map, get_or, true, if◌then◌else◌, refl, sym, ap, ◌∙◌, subst, ⊎_elim, Some, arith}
use Rattle.std.proofs.lemmas.Bool.{cases_lt}
use Rattle.std.proofs.lemmas.List.{length-map, length-replicate, get_or-replicate, get_or_past, get_or_default}
use Rattle.std.proofs.lemmas.List.Sums.{sum_by-cons}
use Rattle.std.proofs.lemmas.List.Folds.{sum_by-replicate}
use Rattle.std.proofs.Math.ListN.{get_or-map}
use Rattle.std.specs.Prelude.{slice_index, sum_by, count_by, replicate}
use Rattle.indirection.proofs.Tests.{by_test}
use Rattle.handover_core.specs.declared.item.Item.{Item}
use Rattle.handover_core.specs.State.{Hand, Away, CoreState, blank_bucket, blank_core, bucket_at, core_at, hand_at, hand_in, first_state}
use Rattle.handover_core.specs.declared.bucket_state.BucketState.{BucketState}
use Rattle.handover_core.specs.Machine.{waiting_places}
use Rattle.handover_core.specs.Bucket.{Idle, Awaits, Fits, home, IsBucket}
use Rattle.handover_core.specs.Runs.{IsMade}
use Rattle.handover_core.specs.Promises.{worked}
use Rattle.indirection.specs.Tries.{upto}
use Rattle.handover_core.proofs.EndsLeft.{count-all}
use Rattle.handover_core.proofs.Worked.{worked-shelf}
use Rattle.handover_core.specs.Sound.{AreOf, bucket_snapshot, cells_in, due, IsShaped, IsStreamed, AreBuckets, IsCounted, ArePosts, IsSound}

fresh_core : ℕ → CoreState
fresh_core n = record { queue = []; taken = []; hands = replicate n Away }

fresh_bucket : ℕ → BucketState
fresh_bucket o = record { owner = o; start = 0; seen = 0; word = 1; shelf = Some 0 }

past-replicate : {A : Type 0} (n i : ℕ) (a d : A) → n ≤ i → get_or (replicate n a) i d ≡ d
past-replicate {A} n i a d l = get_or_past (replicate n a) i d (subst (λ (k : ℕ). k ≤ i) (sym (length-replicate n a)) l)

-- each core of it is fresh, or none
core-first : (P : CoreState → Type 0) (owners : List ℕ) (cores : ℕ) (packets : List ℕ) (pool moves c : ℕ) → P (fresh_core (length owners)) → P blank_core → P (core_at (first_state owners cores packets pool moves) c)
unfolding fresh_core
core-first P owners cores packets pool moves c a b =
    ⊎_elim (λ (l : c < cores). subst P (sym (get_or-replicate cores c (fresh_core (length owners)) blank_core l)) a)
    (λ (l : cores ≤ c). subst P (sym (past-replicate cores c (fresh_core (length owners)) blank_core l)) b) (cases_lt c cores)

-- each bucket of it is fresh
bucket-first : (owners : List ℕ) (cores : ℕ) (packets : List ℕ) (pool moves b : ℕ) → b < length owners → bucket_at (first_state owners cores packets pool moves) b ≡ fresh_bucket (slice_index owners b)
unfolding fresh_bucket
bucket-first owners cores packets pool moves b l =
    get_or_default (map fresh_bucket owners) b blank_bucket (fresh_bucket 0) (let n = length-map owners fresh_bucket in omega arith) ∙ get_or-map fresh_bucket owners b 0

hand-none : (n b : ℕ) → get_or (replicate n Away) b Away ≡ Away
hand-none n b = ⊎_elim (λ (l : b < n). get_or-replicate n b Away Away l) (λ (l : n ≤ b). past-replicate n b Away Away l) (cases_lt b n)

pub hand-first : (owners : List ℕ) (cores : ℕ) (packets : List ℕ) (pool moves c b : ℕ) → hand_at (first_state owners cores packets pool moves) c b ≡ Away
unfolding fresh_core
hand-first owners cores packets pool moves c b = core-first (λ (s : CoreState). hand_in s b ≡ Away) owners cores packets pool moves c (hand-none (length owners) b) refl

queue-first : (owners : List ℕ) (cores : ℕ) (packets : List ℕ) (pool moves c : ℕ) → (core_at (first_state owners cores packets pool moves) c).queue ≡ []
unfolding fresh_core
queue-first owners cores packets pool moves c = core-first (λ (s : CoreState). s.queue ≡ []) owners cores packets pool moves c refl refl

pub taken-first : (owners : List ℕ) (cores : ℕ) (packets : List ℕ) (pool moves c : ℕ) → (core_at (first_state owners cores packets pool moves) c).taken ≡ []
unfolding fresh_core
taken-first owners cores packets pool moves c = core-first (λ (s : CoreState). s.taken ≡ []) owners cores packets pool moves c refl refl

none-first : (owners : List ℕ) (cores : ℕ) (packets : List ℕ) (pool moves c : ℕ) → (core_at (first_state owners cores packets pool moves) c).taken ++ (core_at (first_state owners cores packets pool moves) c).queue ≡ []
unfolding fresh_core
none-first owners cores packets pool moves c = core-first (λ (s : CoreState). s.taken ++ s.queue ≡ []) owners cores packets pool moves c refl refl

pub owner-first : (owners : List ℕ) (cores : ℕ) (packets : List ℕ) (pool moves b : ℕ) → b < length (first_state owners cores packets pool moves).buckets → (bucket_at (first_state owners cores packets pool moves) b).owner ≡ slice_index owners b
unfolding fresh_bucket
owner-first owners cores packets pool moves b l = ap (λ (s : BucketState). s.owner) (bucket-first owners cores packets pool moves b (let n = length-map owners fresh_bucket in omega arith))

pub start-first : (owners : List ℕ) (cores : ℕ) (packets : List ℕ) (pool moves b : ℕ) → (bucket_at (first_state owners cores packets pool moves) b).start ≡ 0
unfolding fresh_bucket
start-first owners cores packets pool moves b =
    ⊎_elim (λ (l : b < length owners). ap (λ (s : BucketState). s.start) (bucket-first owners cores packets pool moves b l))
    (λ (l : length owners ≤ b). ap (λ (s : BucketState). s.start) (get_or_past (map fresh_bucket owners) b blank_bucket (let n = length-map owners fresh_bucket in omega arith))) (cases_lt b (length owners))

shaped-first : (owners : List ℕ) (cores : ℕ) (packets : List ℕ) (pool moves : ℕ) → IsMade owners cores packets pool → IsShaped (first_state owners cores packets pool moves)
unfolding fresh_core fresh_bucket
shaped-first owners cores packets pool moves i = record {
  hands = λ c l. ap (λ (s : CoreState). length s.hands) (get_or-replicate cores c (fresh_core (length owners)) blank_core (within c l)) ∙ (length-replicate (length owners) Away ∙ sym buckets);
  owners = λ b l. rw (bucket-first owners cores packets pool moves b (let n = buckets in omega arith), length-replicate cores (fresh_core (length owners))) (i.owned b 0 (let n = buckets in omega arith));
  packets = λ k l. let n = buckets in let p = i.sorted k 0 l in omega arith;
  items = λ c. subst (λ (z : List Item). AreOf (length (map fresh_bucket owners)) z) (sym (queue-first owners cores packets pool moves c)) tt;
  few = i.few;
  sent = omega arith;
  pool = i.cells;
} where
  buckets : length (map fresh_bucket owners) ≡ length owners
  buckets = length-map owners fresh_bucket

  within : (c : ℕ) → c < length (replicate cores (fresh_core (length owners))) → c < cores
  within c l = let n = length-replicate cores (fresh_core (length owners)) in omega arith

streamed-first : (owners : List ℕ) (cores : ℕ) (packets : List ℕ) (pool moves : ℕ) → IsStreamed (first_state owners cores packets pool moves)
streamed-first owners cores packets pool moves = record {
  streams = λ c. none-first owners cores packets pool moves c;
  legal = λ c. tt;
  dispatcher = λ _. record {
    stands = λ b. let s = start-first owners cores packets pool moves b in record { below = omega arith; owner = sym s; others = λ c ne. tt };
    open_lists = λ c. refl;
    legal = λ c. tt;
  };
  ends = λ e. absurd (cc);
}

bucket_snapshot-first : (owners : List ℕ) (cores : ℕ) (packets : List ℕ) (pool moves b : ℕ) → b < length owners → IsBucket (bucket_snapshot (first_state owners cores packets pool moves) b)
unfolding fresh_bucket
bucket_snapshot-first owners cores packets pool moves b l = record {
  stage = home;
  is_in = record {
    word = rw e refl;
    shelf = rw e refl;
    bounds = let s = start-first owners cores packets pool moves b in omega arith;
    fits = λ c. rw (hand-first owners cores packets pool moves c b, queue-first owners cores packets pool moves c)
        (by_test c (bucket_snapshot (first_state owners cores packets pool moves) b).owner
        (λ t. Fits (if t then Awaits (bucket_snapshot (first_state owners cores packets pool moves) b).start 0 else Idle) ((bucket_snapshot (first_state owners cores packets pool moves) b).ended c) Away [])
        (λ _. let s = start-first owners cores packets pool moves b in (0, omega arith, refl)) (λ _. refl));
  };
  joins = sym (start-first owners cores packets pool moves b);
} where
  e : bucket_at (first_state owners cores packets pool moves) b ≡ fresh_bucket (slice_index owners b)
  e = bucket-first owners cores packets pool moves b l

buckets-first : (owners : List ℕ) (cores : ℕ) (packets : List ℕ) (pool moves : ℕ) → AreBuckets (first_state owners cores packets pool moves)
unfolding fresh_bucket
buckets-first owners cores packets pool moves = record {
  buckets = λ b l. bucket_snapshot-first owners cores packets pool moves b (let n = length-map owners fresh_bucket in omega arith);
  seen = λ b l n. rw (bucket-first owners cores packets pool moves b (let n = length-map owners fresh_bucket in omega arith)) (λ e. absurd (cc));
}

due-first : (owners : List ℕ) → sum_by due (map fresh_bucket owners) ≡ 2 * length owners
unfolding fresh_bucket
due-first [] = refl
due-first (o ∷ os) = let e = sum_by-cons due (fresh_bucket o) (map fresh_bucket os) in let i = due-first os in omega arith

counted-first : (owners : List ℕ) (cores : ℕ) (packets : List ℕ) (pool moves : ℕ) → IsCounted (first_state owners cores packets pool moves)
unfolding fresh_core fresh_bucket
counted-first owners cores packets pool moves = record {
  cells = let e = sum_by-replicate cells_in cores (fresh_core (length owners)) in let f = sum_by-replicate (λ (h : Hand). length (waiting_places h)) (length owners) Away in
      let g : cells_in (fresh_core (length owners)) ≡ 0 = omega arith in
      let k : sum_by cells_in (replicate cores (fresh_core (length owners))) ≡ 0 = e ∙ (ap (λ (n : ℕ). cores * n) g ∙ omega arith) in omega arith;
  moves = omega arith;
  turns = let e = due-first owners in let n = length-map owners fresh_bucket in omega arith;
}

posts-first : (owners : List ℕ) (cores : ℕ) (packets : List ℕ) (pool moves : ℕ) → ArePosts (first_state owners cores packets pool moves)
unfolding fresh_core
posts-first owners cores packets pool moves =
    let n = length-replicate cores (fresh_core (length owners)) in
    let e : count_by (λ c. true) (upto (length (replicate cores (fresh_core (length owners))))) ≡ cores = ap (λ (k : ℕ). count_by (λ c. true) (upto k)) n ∙ count-all cores in
    omega arith

pub first-sound : (owners : List ℕ) (cores : ℕ) (packets : List ℕ) (pool moves : ℕ) → IsMade owners cores packets pool → IsSound (first_state owners cores packets pool moves)
first-sound owners cores packets pool moves i = record {
  shaped = shaped-first owners cores packets pool moves i;
  streamed = streamed-first owners cores packets pool moves;
  buckets = buckets-first owners cores packets pool moves;
  counted = counted-first owners cores packets pool moves;
  posts = posts-first owners cores packets pool moves;
}

pub worked-first : (owners : List ℕ) (cores : ℕ) (packets : List ℕ) (pool moves b : ℕ) → b < length owners → worked (first_state owners cores packets pool moves) b ≡ 0
unfolding fresh_bucket
worked-first owners cores packets pool moves b l = worked-shelf (first_state owners cores packets pool moves) b 0 (ap (λ (s : BucketState). s.shelf) (bucket-first owners cores packets pool moves b l))
