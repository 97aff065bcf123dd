-- The stint that has a packet's place is of the core that owns its bucket at its position.
use Rattle.std.proofs.Common.{◌≡◌, ℕ, zero, suc, ◌+◌, ◌<◌, ◌≤◌, Bool, true, false, List, [], ◌∷◌, ◌++◌, length, All, get_or, if◌then◌else◌, ⊎_elim, refl, sym, ap, ◌∙◌, subst, arith, eq-eqb}
use Rattle.std.specs.Prelude.{Any, slice_index, nat_lt}
use Rattle.std.proofs.lemmas.Bool.{cases_lt}
use Rattle.std.proofs.lemmas.List.Elements.{All-append, All-nil}
use Rattle.std.proofs.lemmas.List.Sums.{sum_by-cons}
use Rattle.indirection.specs.declared.outcome.Outcome.{Outcome}
use Rattle.indirection.specs.declared.outcome.Outcome.TheVariants.{Moved, Placed, Same, InPassage}
use Rattle.indirection.specs.JournalView.{JournalView}
use Rattle.indirection.specs.Each.{Each, EachFrom}
use Rattle.indirection.specs.Outcomes.{IsOutcome}
use Rattle.indirection.specs.Tries.{Try, ask_bucket, ask_to, owner_by, owner_from, tail_by, tail_from, tail_list, tails, tries}
use Rattle.indirection.specs.Stints.{Stint, stint, stints_from, stints, ended, Joins, Rises}
use Rattle.indirection.specs.Story.{Parcel, Step, Rounds, Tries, Sends, told, parcels_of, tries_of, count_in, owner_then, start_then, sent_then}
use Rattle.indirection.specs.Owner.{owner_of}
use Rattle.indirection.specs.Due.{Rules}
use Rattle.indirection.specs.Lawful.{Fits, IsLawfulSoFar}
use Rattle.indirection.specs.JournalFacts.{HasPlace}
use Rattle.indirection.proofs.Each.{EachFrom-front, EachFrom-rest}
use Rattle.indirection.proofs.Steps.{parcels_of-append, parcels_of-round, parcels_of-try, tries_of-append, count_in-append}
use Rattle.indirection.proofs.Stints.{Rises-more}
use Rattle.indirection.proofs.Tails.{story_rises, lawful_stints}
use Rattle.indirection.proofs.Told.{parcels_of-told, tries_of-told}
use Rattle.indirection.proofs.Positions.{owner_of-sent}
use Rattle.indirection.proofs.Splits.{IsParcelCut, parcel_cut}
use Rattle.indirection.proofs.Tests.{by_test}

-- ---- lists of stints

all_more : (P Q : Stint → Type 0) (ss : List Stint) → ((s : Stint) → P s → Q s) → All P ss → All Q ss
all_more P Q ss more all = λ k d l. more (get_or ss k d) (all k d l)

all_one : (P : Stint → Type 0) (s : Stint) → P s → All P (s ∷ [])
all_one P s holds zero d l = holds
all_one P s holds (suc k) d l = absurd (omega arith)

-- one stint, where it has a packet or not
all_stint : (P : Stint → Type 0) (core from to : ℕ) → P (record { core = core; from = from; to = to }) → All P (stint core from to)
all_stint P core from to holds =
    elim (nat_lt from to) as (λ (t : Bool). All P (if t then record { core = core; from = from; to = to } ∷ [] else []))
    [ true ↦ all_one P (record { core = core; from = from; to = to }) holds | false ↦ All-nil P ]

-- ---- tries behind a place and before it

-- what comes of a try of a bucket behind its place k
abbrev IsLater : ℕ → Outcome → Type 0
IsLater k (Moved tail) = k < tail
IsLater k Placed = ⊥
IsLater k Same = Unit {0}
IsLater k (InPassage tail sent word) = Unit {0}

abbrev AllLater : ℕ → ℕ → List Try → Type 0
AllLater b k [] = Unit {0}
AllLater b k (t ∷ ts) = (ask_bucket t.ask ≡ b → IsLater k t.outcome) × AllLater b k ts

-- and before it
abbrev IsEarlier : ℕ → Outcome → Type 0
IsEarlier k (Moved tail) = tail ≤ k
IsEarlier k Placed = Unit {0}
IsEarlier k Same = Unit {0}
IsEarlier k (InPassage tail sent word) = Unit {0}

abbrev AllEarlier : ℕ → ℕ → List Try → Type 0
AllEarlier b k [] = Unit {0}
AllEarlier b k (t ∷ ts) = (ask_bucket t.ask ≡ b → IsEarlier k t.outcome) × AllEarlier b k ts

is_later : (owner to n s k : ℕ) (o : Outcome) → k < n → IsOutcome owner to n s o → IsLater k o
is_later owner to n s k (Moved tail) more is = let same = is.3 in omega arith
is_later owner to n s k Placed more is = absurd (let none = is.1 in omega arith)
is_later owner to n s k Same more is = tt
is_later owner to n s k (InPassage tail sent word) more is = tt

-- the tries behind steps with more packets of the bucket
later_tries : (rules : Rules) (b k : ℕ) (done after : List Step) → k < sent_then done b → EachFrom (Fits rules) done after → AllLater b k (tries_of after)
later_tries rules b k done [] more each = tt
later_tries rules b k done (Rounds h ∷ after) more each = later_tries rules b k (done ++ Rounds h ∷ []) after (rw (parcels_of-round done h) more) each.1
later_tries rules b k done (Tries a o ∷ after) more each = (
  λ ours. is_later (owner_then rules.start done (ask_bucket a)) (ask_to a) (sent_then done b) (start_then done (ask_bucket a)) k o more
      (subst (λ (x : ℕ). IsOutcome (owner_then rules.start done (ask_bucket a)) (ask_to a) (sent_then done x) (start_then done (ask_bucket a)) o) ours each.0.1),
  later_tries rules b k (done ++ Tries a o ∷ []) after (rw (parcels_of-try done a o) more) each.1,
)
later_tries rules b k done (Sends q ∷ after) more each =
    later_tries rules b k (done ++ Sends q ∷ []) after (rw (parcels_of-append done (Sends q ∷ [])) (omega (arith, count_in-append b (parcels_of done) (q ∷ [])))) each.1

rises_le : (low : ℕ) (xs : List ℕ) (high : ℕ) → Rises low xs high → low ≤ high
rises_le low [] high r = r
rises_le low (x ∷ xs) high r = let first = r.0 in let later = rises_le x xs high r.1 in omega arith

earlier_outcome : (low k : ℕ) (o : Outcome) (rest : List ℕ) → Rises low (tail_list o ++ rest) k → IsEarlier k o × ((next : ℕ) × Rises next rest k)
earlier_outcome low k (Moved tail) rest r = (rises_le tail rest k r.1, (tail, r.1))
earlier_outcome low k Placed rest r = (tt, (low, r))
earlier_outcome low k Same rest r = (tt, (low, r))
earlier_outcome low k (InPassage tail sent word) rest r = (tt, (low, r))

-- tries whose tails rise up to k at most
earlier_tries : (b k low : ℕ) (ts : List Try) → Rises low (tails b ts) k → AllEarlier b k ts
earlier_tries b k low [] r = tt
earlier_tries b k low (t ∷ ts) r =
    let first : (ask_bucket t.ask ≡ b → IsEarlier k t.outcome) × ((next : ℕ) × Rises next (tails b ts) k) =
    by_test (ask_bucket t.ask) b
    (λ (test : Bool). Rises low ((if test then tail_list t.outcome else []) ++ tails b ts) k → (ask_bucket t.ask ≡ b → IsEarlier k t.outcome) × ((next : ℕ) × Rises next (tails b ts) k))
    (λ _ rise. let e = earlier_outcome low k t.outcome (tails b ts) rise in (λ _. e.0, e.1))
    (λ other rise. (λ ours. absurd (other ours), (low, rise))) r in
    (first.0, earlier_tries b k first.1.0 ts first.1.1)

-- ---- stints with the place

abbrev OfCore : ℕ → ℕ → Stint → Type 0
OfCore k core s = HasPlace k s → s.core ≡ core

later_outcome : (b k total core to from : ℕ) (o : Outcome) (ts : List Try) → ((c f : ℕ) → k < f → All (λ s. k < s.from) (stints_from b total c f ts)) → k < from → IsLater k o
    → All (λ s. k < s.from) (ended core from o ++ stints_from b total (owner_by core to o) (tail_by from o) ts)
later_outcome b k total core to from (Moved tail) ts rest past later = All-append (λ s. k < s.from) (stint core from tail) (stints_from b total to tail ts) (all_stint (λ s. k < s.from) core from tail past) (rest to tail later)
later_outcome b k total core to from Placed ts rest past later = absurd later
later_outcome b k total core to from Same ts rest past later = rest core from past
later_outcome b k total core to from (InPassage tail sent word) ts rest past later = rest core from past

-- behind the place each stint begins behind it
later_stints : (b k total : ℕ) (ts : List Try) (core from : ℕ) → k < from → AllLater b k ts → All (λ s. k < s.from) (stints_from b total core from ts)
later_stints b k total [] core from past later = all_stint (λ s. k < s.from) core from total past
later_stints b k total (t ∷ ts) core from past later =
    by_test (ask_bucket t.ask) b
    (λ (test : Bool). All (λ s. k < s.from) (if test then ended core from t.outcome ++ stints_from b total (owner_by core (ask_to t.ask) t.outcome) (tail_by from t.outcome) ts else stints_from b total core from ts))
    (λ ours. later_outcome b k total core (ask_to t.ask) from t.outcome ts (λ c f l. later_stints b k total ts c f l later.1) past (later.0 ours))
    (λ _. later_stints b k total ts core from past later.1)

core_outcome : (b k total core to from : ℕ) (o : Outcome) (ts : List Try) → ((f : ℕ) → All (OfCore k core) (stints_from b total core f ts)) → AllLater b k ts → IsLater k o
    → All (OfCore k core) (ended core from o ++ stints_from b total (owner_by core to o) (tail_by from o) ts)
core_outcome b k total core to from (Moved tail) ts rest all later =
    All-append (OfCore k core) (stint core from tail) (stints_from b total to tail ts)
    (all_stint (OfCore k core) core from tail (λ _. refl))
    (all_more (λ s. k < s.from) (OfCore k core) (stints_from b total to tail ts) (λ s past has. absurd (let begins = has.0 in omega arith)) (later_stints b k total ts to tail later all))
core_outcome b k total core to from Placed ts rest all later = absurd later
core_outcome b k total core to from Same ts rest all later = rest from
core_outcome b k total core to from (InPassage tail sent word) ts rest all later = rest from

-- with all tries behind the place, the stint that has it is the first
core_stints : (b k total : ℕ) (ts : List Try) (core from : ℕ) → AllLater b k ts → All (OfCore k core) (stints_from b total core from ts)
core_stints b k total [] core from later = all_stint (OfCore k core) core from total (λ _. refl)
core_stints b k total (t ∷ ts) core from later =
    by_test (ask_bucket t.ask) b
    (λ (test : Bool). All (OfCore k core) (if test then ended core from t.outcome ++ stints_from b total (owner_by core (ask_to t.ask) t.outcome) (tail_by from t.outcome) ts else stints_from b total core from ts))
    (λ ours. core_outcome b k total core (ask_to t.ask) from t.outcome ts (λ f. core_stints b k total ts core f later.1) later.1 (later.0 ours))
    (λ _. core_stints b k total ts core from later.1)

passed_outcome : (b k total core to from owner : ℕ) (o : Outcome) (ts : List Try) → IsEarlier k o → All (OfCore k owner) (stints_from b total (owner_by core to o) (tail_by from o) ts)
    → All (OfCore k owner) (ended core from o ++ stints_from b total (owner_by core to o) (tail_by from o) ts)
passed_outcome b k total core to from owner (Moved tail) ts early all =
    All-append (OfCore k owner) (stint core from tail) (stints_from b total to tail ts) (all_stint (OfCore k owner) core from tail (λ has. absurd (let ends = has.1 in omega arith))) all
passed_outcome b k total core to from owner Placed ts early all = all
passed_outcome b k total core to from owner Same ts early all = all
passed_outcome b k total core to from owner (InPassage tail sent word) ts early all = all

-- the stints that tries before the place end don't have it
passed_stints : (b k total owner : ℕ) (front rest : List Try) (core from : ℕ) → AllEarlier b k front → All (OfCore k owner) (stints_from b total (owner_from b core front) (tail_from b from front) rest)
    → All (OfCore k owner) (stints_from b total core from (front ++ rest))
passed_stints b k total owner [] rest core from early all = all
passed_stints b k total owner (t ∷ front) rest core from early all =
    by_test (ask_bucket t.ask) b
    (λ (test : Bool). All (OfCore k owner) (stints_from b total (owner_from b (if test then owner_by core (ask_to t.ask) t.outcome else core) front) (tail_from b (if test then tail_by from t.outcome else from) front) rest)
    → All (OfCore k owner) (if test then ended core from t.outcome ++ stints_from b total (owner_by core (ask_to t.ask) t.outcome) (tail_by from t.outcome) (front ++ rest) else stints_from b total core from (front ++ rest)))
    (λ ours all. passed_outcome b k total core (ask_to t.ask) from owner t.outcome (front ++ rest) (early.0 ours) (passed_stints b k total owner front rest (owner_by core (ask_to t.ask) t.outcome) (tail_by from t.outcome) early.1 all))
    (λ _ all. passed_stints b k total owner front rest core from early.1 all) all

-- stints that join two numbers have each place between them
joined_place : (k from : ℕ) (ss : List Stint) (to : ℕ) → Joins from ss to → from ≤ k → k < to → Any (HasPlace k) ss
joined_place k from [] to joins low high = absurd (omega arith)
joined_place k from (s ∷ ss) to joins low high =
    ⊎_elim
    (λ (l : k < s.to). (0, s, omega arith, refl, (let begins = joins.0 in omega arith, l)))
    (λ (l : s.to ≤ k). let later = joined_place k s.to ss to joins.2 l high in (suc later.0, later.1, let within = later.2 in omega arith, later.3, later.4))
    (cases_lt k s.to)

-- ---- in a lawful journal

more_in : (before behind : List Parcel) (p : Parcel) → count_in p.bucket before < count_in p.bucket (before ++ p ∷ behind)
more_in before behind p =
    let one : count_in p.bucket (p ∷ behind) ≡ 1 + count_in p.bucket behind = sum_by-cons _ p behind ∙ ap (λ (t : Bool). (if t then 1 else 0) + count_in p.bucket behind) (eq-eqb p.bucket p.bucket refl) in
    omega (arith, count_in-append p.bucket before (p ∷ behind), one)

pub lawful_stint : (rules : Rules) (before behind : List Parcel) (p : Parcel) (j : JournalView) → IsLawfulSoFar rules (before ++ p ∷ behind) j → Any (HasPlace (count_in p.bucket before)) (stints j (before ++ p ∷ behind) p.bucket)
lawful_stint rules before behind p j lawful =
    joined_place (count_in p.bucket before) 0 (stints j (before ++ p ∷ behind) p.bucket) (count_in p.bucket (before ++ p ∷ behind))
    (lawful_stints rules (before ++ p ∷ behind) j p.bucket lawful) (omega arith) (more_in before behind p)

pub lawful_core : (rules : Rules) (before behind : List Parcel) (p : Parcel) (j : JournalView) → IsLawfulSoFar rules (before ++ p ∷ behind) j
    → All (λ s. HasPlace (count_in p.bucket before) s → s.core ≡ owner_of j p.bucket (length before)) (stints j (before ++ p ∷ behind) p.bucket)
lawful_core rules before behind p j lawful =
    subst (λ (o : ℕ). All (OfCore k o) (stints j xs b)) owner
    (subst (λ (ts : List Try). All (OfCore k (owner_from b (slice_index j.start b) (tries_of c.front))) (stints_from b (count_in b xs) (slice_index j.start b) 0 ts)) all_tries
    (passed_stints b k (count_in b xs) (owner_from b (slice_index j.start b) (tries_of c.front)) (tries_of c.front) (tries_of c.after) (slice_index j.start b) 0 early
    (core_stints b k (count_in b xs) (tries_of c.after) (owner_from b (slice_index j.start b) (tries_of c.front)) (tail_from b 0 (tries_of c.front)) late))) where
      xs : List Parcel
      xs = before ++ p ∷ behind

      b : ℕ
      b = p.bucket

      k : ℕ
      k = count_in b before

      c : IsParcelCut (told 0 xs j.entries) before p
      c = parcel_cut (told 0 xs j.entries) before p behind (parcels_of-told j.entries 0 xs)

      each : Each (Fits rules) (c.front ++ Sends p ∷ c.after)
      each = subst (λ (ss : List Step). Each (Fits rules) ss) c.parts lawful.steps

      front_each : Each (Fits rules) c.front
      front_each = EachFrom-front (Fits rules) [] c.front (Sends p ∷ c.after) each

      all_tries : tries_of c.front ++ tries_of c.after ≡ tries j.entries
      all_tries = sym (tries_of-append c.front (Sends p ∷ c.after)) ∙ (ap tries_of (sym c.parts) ∙ tries_of-told j.entries 0 xs)

      counted : sent_then c.front b ≡ k
      counted = ap (λ (ps : List Parcel). count_in b ps) c.parcels_are

      early : AllEarlier b k (tries_of c.front)
      early = let risen = story_rises rules c.front front_each b in
          earlier_tries b k 0 (tries_of c.front) (Rises-more 0 (tails b (tries_of c.front)) (tail_from b 0 (tries_of c.front)) k risen.tails_rise (let newest = risen.newest in omega (arith, counted)))

      sent : k < sent_then (c.front ++ Sends p ∷ []) b
      sent = rw (parcels_of-append c.front (Sends p ∷ []), c.parcels_are) (more_in before [] p)

      late : AllLater b k (tries_of c.after)
      late = later_tries rules b k (c.front ++ Sends p ∷ []) c.after sent (EachFrom-rest (Fits rules) [] c.front (Sends p ∷ c.after) each).1

      owner : owner_from b (slice_index j.start b) (tries_of c.front) ≡ owner_of j b (length before)
      owner = sym (owner_of-sent rules xs j c.front c.after p b lawful c.parts) ∙ ap (λ (ps : List Parcel). owner_of j b (length ps)) c.parcels_are
