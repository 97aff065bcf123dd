-- A sort puts the logs in order.
use Rattle.std.proofs.Common.{◌≡◌, ℕ, suc, add-one, ◌+◌, ◌<◌, ◌≤◌, if◌then◌else◌, cond, Bool, true, false, eqb, ltb, List, [], ◌∷◌, ◌++◌, length, get_or, map, ◌⊎◌, inl, inr, ⊎_elim, refl, sym, ap, ◌∙◌, subst, arith, eq-eqb, ne_eqb}
use Rattle.std.specs.Prelude.{◌||◌, ◌&&◌, sum_by, slice_index, IsPermutation, IsSortedByKey}
use Rattle.std.specs.declared.cmp.Ordering.{Ordering}
use Rattle.std.specs.declared.cmp.Ordering.TheVariants.{Less, Equal, Greater}
use Rattle.std.specs.Ordering.{is_lt, nat_cmp, ordering_then}
use Rattle.std.proofs.lemmas.Bool.{cases_eq, cases_lt, lt-ltb, le-ltb}
use Rattle.std.proofs.lemmas.List.Sorted.{sum_by-IsPermutation}
use Rattle.std.proofs.lemmas.List.Sums.{sum_by-cons}
use Rattle.indirection.proofs.Tests.{by_test, by_less}
use Rattle.indirection.proofs.Tails.{lawful_stints}
use Rattle.bucket_table.specs.declared.custody.Custody.{Custody}
use Rattle.indirection.specs.declared.outcome.Outcome.{Outcome}
use Rattle.indirection.specs.declared.outcome.Outcome.TheVariants.{Moved, Placed, Same, InPassage}
use Rattle.indirection.specs.JournalView.{JournalView}
use Rattle.indirection.specs.Story.{Parcel, count_in}
use Rattle.indirection.specs.Tries.{Try, ask_bucket, ask_to, owner_by, tail_by, tries}
use Rattle.indirection.specs.Stints.{Stint, stint, stints, stints_from, ended}
use Rattle.indirection.specs.Due.{Rules}
use Rattle.indirection.specs.Lawful.{IsLawfulSoFar}
use Rattle.handover_core.specs.Spans.{Span, spans_at}
use Rattle.worker_loop.specs.Custodies.{ended_spans, stretch_of, AreEntries}
use Rattle.rsspp_run.specs.Custody.{custody_upto, all_logs, Before, AllAre, IsOrdered, same_custody, times, AreOfCores, AreTo, Meet, times_in, all_spans, stint_span}
use Rattle.rsspp_run.specs.Serial.{place_custody, by_place}
use Rattle.rsspp_run.proofs.CustodySums.{logs_in_order}
use Rattle.rsspp_run.proofs.CustodyNotes.{note_stints}

abbrev test : Custody → Custody → Bool
test y x = ltb y.bucket x.bucket || (eqb y.bucket x.bucket && ltb y.from x.from)

before_or : (y x : Custody) → (Before y x × (test y x ≡ true)) ⊎ (¬ (Before y x) × (test y x ≡ false))
before_or y x = ⊎_elim
    (λ (l : y.bucket < x.bucket). inl (inl l, ap (λ (t : Bool). t || (eqb y.bucket x.bucket && ltb y.from x.from)) (lt-ltb y.bucket x.bucket l)))
    (λ (far : x.bucket ≤ y.bucket). let rest : test y x ≡ (eqb y.bucket x.bucket && ltb y.from x.from) = ap (λ (t : Bool). t || (eqb y.bucket x.bucket && ltb y.from x.from)) (le-ltb y.bucket x.bucket far) in ⊎_elim
    (λ (e : y.bucket ≡ x.bucket). let last : test y x ≡ ltb y.from x.from = rest ∙ ap (λ (t : Bool). t && ltb y.from x.from) (eq-eqb y.bucket x.bucket e) in ⊎_elim
    (λ (l : y.from < x.from). inl (inr (e, l), last ∙ lt-ltb y.from x.from l))
    (λ (l : x.from ≤ y.from). inr (λ h. ⊎_elim (λ (a : y.bucket < x.bucket). absurd (omega arith)) (λ (a : (y.bucket ≡ x.bucket) × (y.from < x.from)). let z = a.1 in absurd (omega arith)) h, last ∙ le-ltb y.from x.from l)) (cases_lt y.from x.from))
    (λ (ne : y.bucket ≡ x.bucket → ⊥). inr (λ h. ⊎_elim (λ (a : y.bucket < x.bucket). absurd (omega arith)) (λ (a : (y.bucket ≡ x.bucket) × (y.from < x.from)). absurd (ne a.0)) h, rest ∙ ap (λ (t : Bool). t && ltb y.from x.from) (ne_eqb y.bucket x.bucket ne))) (cases_eq y.bucket x.bucket))
    (cases_lt y.bucket x.bucket)

not_both : (x y : Custody) → Before y x → ¬ (Before x y)
not_both x y h k = ⊎_elim
    (λ (a : y.bucket < x.bucket). ⊎_elim (λ (b : x.bucket < y.bucket). omega arith) (λ (b : (x.bucket ≡ y.bucket) × (x.from < y.from)). let z = b.0 in omega arith) k)
    (λ (a : (y.bucket ≡ x.bucket) × (y.from < x.from)). let p = a.0 in let q = a.1 in ⊎_elim (λ (b : x.bucket < y.bucket). omega arith) (λ (b : (x.bucket ≡ y.bucket) × (x.from < y.from)). let z = b.1 in omega arith) k) h

later_bucket : (y x : Custody) → ¬ (Before y x) → x.bucket ≤ y.bucket
later_bucket y x h = ⊎_elim (λ (l : y.bucket < x.bucket). absurd (h (inl l))) (λ (l : x.bucket ≤ y.bucket). l) (cases_lt y.bucket x.bucket)

later_place : (y x : Custody) → ¬ (Before y x) → y.bucket ≡ x.bucket → x.from ≤ y.from
later_place y x h e = ⊎_elim (λ (l : y.from < x.from). absurd (h (inr (e, l)))) (λ (l : x.from ≤ y.from). l) (cases_lt y.from x.from)

not_trans : (z y x : Custody) → ¬ (Before z y) → ¬ (Before y x) → ¬ (Before z x)
not_trans z y x h k b =
    let p = later_bucket z y h in let q = later_bucket y x k in
    ⊎_elim (λ (l : z.bucket < x.bucket). omega arith)
    (λ (l : (z.bucket ≡ x.bucket) × (z.from < x.from)). let e = l.0 in let f = l.1 in let e1 : z.bucket ≡ y.bucket = omega arith in let e2 : y.bucket ≡ x.bucket = omega arith in
    let u = later_place z y h e1 in let v = later_place y x k e2 in omega arith) b

all_later : (y x : Custody) (ys : List Custody) → ¬ (Before y x) → AllAre (λ z. ¬ (Before z y)) ys → AllAre (λ z. ¬ (Before z x)) ys
all_later y x [] h k = tt
all_later y x (z ∷ ys) h k = (not_trans z y x k.0 h, all_later y x ys h k.1)

all_place : (P : Custody → Type 0) (x : Custody) (ys : List Custody) → P x → AllAre P ys → AllAre P (place_custody x ys)
all_place P x [] h k = (h, tt)
all_place P x (y ∷ ys) h k = ⊎_elim
    (λ (t : Before y x × (test y x ≡ true)). subst (λ (b : Bool). AllAre P (if b then y ∷ place_custody x ys else x ∷ y ∷ ys)) (sym t.1) (k.0, all_place P x ys h k.1))
    (λ (t : ¬ (Before y x) × (test y x ≡ false)). subst (λ (b : Bool). AllAre P (if b then y ∷ place_custody x ys else x ∷ y ∷ ys)) (sym t.1) (h, k)) (before_or y x)

place_ordered : (x : Custody) (ys : List Custody) → IsOrdered ys → IsOrdered (place_custody x ys)
place_ordered x [] o = (tt, tt)
place_ordered x (y ∷ ys) o = ⊎_elim
    (λ (t : Before y x × (test y x ≡ true)). subst (λ (b : Bool). IsOrdered (if b then y ∷ place_custody x ys else x ∷ y ∷ ys)) (sym t.1)
    (all_place (λ z. ¬ (Before z y)) x ys (not_both x y t.0) o.0, place_ordered x ys o.1))
    (λ (t : ¬ (Before y x) × (test y x ≡ false)). subst (λ (b : Bool). IsOrdered (if b then y ∷ place_custody x ys else x ∷ y ∷ ys)) (sym t.1) ((t.0, all_later y x ys t.0 o.0), o)) (before_or y x)

pub by_place_ordered : (xs : List Custody) → IsOrdered (by_place xs)
by_place_ordered [] = tt
by_place_ordered (x ∷ xs) = place_ordered x (by_place xs) (by_place_ordered xs)

-- a list in which no entry stands before the one ahead of it
neighbours_ordered : (xs : List Custody) → ((k : ℕ) (d : Custody) → suc k < length xs → ¬ (Before (get_or xs (suc k) d) (get_or xs k d))) → IsOrdered xs
neighbours_ordered [] h = tt
neighbours_ordered (x ∷ []) h = (tt, tt)
neighbours_ordered (x ∷ y ∷ ys) h =
    let first : ¬ (Before y x) = h 0 x (omega arith) in
    let rest : IsOrdered (y ∷ ys) = neighbours_ordered (y ∷ ys) (λ k d lt. h (suc k) d (omega arith)) in
    ((first, all_later y x ys first rest.0), rest)

-- the key by which the code sorts
abbrev pub key_of : Custody → ℕ × ℕ
key_of c = (c.bucket, c.from)

abbrev pub by_key : ℕ × ℕ → ℕ × ℕ → Ordering
by_key x y = ordering_then (nat_cmp x.0 y.0) (nat_cmp x.1 y.1)

less_by_key : (y x : Custody) → Before y x → is_lt (by_key (key_of y) (key_of x)) ≡ true
less_by_key y x (inl l) = ap (λ (t : Bool). is_lt (ordering_then (cond t Less (cond (eqb y.bucket x.bucket) Equal Greater)) (nat_cmp y.from x.from))) (lt-ltb y.bucket x.bucket l)
less_by_key y x (inr h) =
    (λ i. is_lt (ordering_then (cond (le-ltb y.bucket x.bucket (let e = h.0 in let k : x.bucket ≤ y.bucket = omega arith in k) i) Less (cond (eq-eqb y.bucket x.bucket h.0 i) Equal Greater)) (nat_cmp y.from x.from)))
    ∙ ap (λ (t : Bool). is_lt (cond t Less (cond (eqb y.from x.from) Equal Greater))) (lt-ltb y.from x.from h.1)

not_less : (y x : Custody) → is_lt (by_key (key_of y) (key_of x)) ≡ false → ¬ (Before y x)
not_less y x is b = let e : true ≡ false = sym (less_by_key y x b) ∙ is in absurd (cc)

pub sorted_ordered : (xs : List Custody) → IsSortedByKey key_of by_key xs → IsOrdered xs
sorted_ordered xs up = neighbours_ordered xs (λ k d lt. subst (λ (n : ℕ). ¬ (Before (get_or xs n d) (get_or xs k d))) (add-one k) (not_less (get_or xs (k + 1) d) (get_or xs k d) (up k d (omega arith) (omega arith))))

place_times : (z x : Custody) (ys : List Custody) → times z (place_custody x ys) ≡ times z (x ∷ ys)
place_times z x [] = refl
place_times z x (y ∷ ys) = let ih = place_times z x ys in ⊎_elim
    (λ (t : Before y x × (test y x ≡ true)). let a = ap (λ (b : Bool). times z (if b then y ∷ place_custody x ys else x ∷ y ∷ ys)) t.1 in omega arith)
    (λ (t : ¬ (Before y x) × (test y x ≡ false)). ap (λ (b : Bool). times z (if b then y ∷ place_custody x ys else x ∷ y ∷ ys)) t.1) (before_or y x)

pub by_place_times : (z : Custody) (xs : List Custody) → times z (by_place xs) ≡ times z xs
by_place_times z [] = refl
by_place_times z (x ∷ xs) = let ih = by_place_times z xs in let a = place_times z x (by_place xs) in omega arith

times_sum : (z : Custody) (xs : List Custody) → times z xs ≡ sum_by (λ (y : Custody). if same_custody z y then 1 else 0) xs
times_sum z [] = refl
times_sum z (x ∷ xs) = ap {B = ℕ} (λ (n : ℕ). (if same_custody z x then 1 else 0) + n) (times_sum z xs) ∙ sym (sum_by-cons (λ (y : Custody). if same_custody z y then 1 else 0) x xs)

pub permuted_times : (z : Custody) (xs ys : List Custody) → IsPermutation xs ys → times z ys ≡ times z xs
permuted_times z xs ys h = times_sum z ys ∙ (sum_by-IsPermutation (λ (y : Custody). if same_custody z y then 1 else 0) xs ys h ∙ sym (times_sum z xs))

-- stints are of cores
of_stint : (n core from to : ℕ) (rest : List Stint) → core < n → AreOfCores n rest → AreOfCores n (stint core from to ++ rest)
of_stint n core from to rest near h = by_less from to (λ t. AreOfCores n ((if t then record { core = core; from = from; to = to } ∷ [] else []) ++ rest)) (λ _. (near, h)) (λ _. h)

of_tried : (n b total core from to : ℕ) (o : Outcome) (ts : List Try) → core < n → to < n → ((c f : ℕ) → c < n → AreOfCores n (stints_from b total c f ts)) → AreOfCores n (ended core from o ++ stints_from b total (owner_by core to o) (tail_by from o) ts)
of_tried n b total core from to (Moved tail) ts near near' ih = of_stint n core from tail (stints_from b total to tail ts) near (ih to tail near')
of_tried n b total core from to Placed ts near near' ih = ih to from near'
of_tried n b total core from to Same ts near near' ih = ih core from near
of_tried n b total core from to (InPassage tail sent word) ts near near' ih = ih core from near

of_stints : (n b total core from : ℕ) (ts : List Try) → core < n → AreTo n ts → AreOfCores n (stints_from b total core from ts)
of_stints n b total core from [] near h = by_less from total (λ t. AreOfCores n (if t then record { core = core; from = from; to = total } ∷ [] else [])) (λ _. (near, tt)) (λ _. tt)
of_stints n b total core from (t ∷ ts) near h = by_test (ask_bucket t.ask) b
    (λ q. AreOfCores n (if q then ended core from t.outcome ++ stints_from b total (owner_by core (ask_to t.ask) t.outcome) (tail_by from t.outcome) ts else stints_from b total core from ts))
    (λ _. of_tried n b total core from (ask_to t.ask) t.outcome ts near h.0 (λ c f l. of_stints n b total c f ts l h.1)) (λ _. of_stints n b total core from ts near h.1)

module _ (rules : Rules) (xs : List Parcel) (j : JournalView) (cores n : ℕ) (logs : ℕ → List Custody) (lawful : IsLawfulSoFar rules xs j) (owners : (b : ℕ) → b < n → slice_index j.start b < cores) (to : AreTo cores (tries j.entries))
    (entries : (c : ℕ) → c < cores → AreEntries c n (logs c)) (split : (c b : ℕ) → c < cores → b < n → ended_spans b (map stretch_of (logs c)) ≡ spans_at c (stints j xs b)) where
  pub in_order : (cs : List Custody) → IsOrdered cs → IsPermutation (all_logs logs cores) cs → cs ≡ custody_upto (stints j xs) n
  in_order cs o p = logs_in_order logs (stints j xs) (λ b. count_in b xs) cores n cs entries (λ b l. of_stints cores b (count_in b xs) (slice_index j.start b) 0 (tries j.entries) (owners b l) to)
      (λ b l. lawful_stints rules xs j b lawful) split o (λ x. permuted_times x (all_logs logs cores) cs p)

  pub placed : by_place (all_logs logs cores) ≡ custody_upto (stints j xs) n
  placed = logs_in_order logs (stints j xs) (λ b. count_in b xs) cores n (by_place (all_logs logs cores)) entries (λ b l. of_stints cores b (count_in b xs) (slice_index j.start b) 0 (tries j.entries) (owners b l) to)
      (λ b l. lawful_stints rules xs j b lawful) split (by_place_ordered (all_logs logs cores)) (λ x. by_place_times x (all_logs logs cores))

pub note_is : (rules : Rules) (xs : List Parcel) (j : JournalView) (cores b done : ℕ) (h : List Span) → IsLawfulSoFar rules xs j → slice_index j.start b < cores → AreTo cores (tries j.entries) → Meet 0 h done
    → ((s : Span) → times_in s h ≡ times_in s (all_spans (stints j xs b) cores)) → (h ≡ map stint_span (stints j xs b)) × (done ≡ count_in b xs)
note_is rules xs j cores b done h lawful owner to meet same =
    note_stints (stints j xs b) (count_in b xs) done cores h (lawful_stints rules xs j b lawful) (of_stints cores b (count_in b xs) (slice_index j.start b) 0 (tries j.entries) owner to) meet same
