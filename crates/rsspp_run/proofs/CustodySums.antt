-- How often an entry stands in all logs, and in the custody of a journal.
use Rattle.std.proofs.Common.{◌≡◌, ◌≢◌, ℕ, zero, suc, ◌+◌, ◌<◌, ◌≤◌, if◌then◌else◌, Bool, true, false, eqb, List, [], ◌∷◌, ◌++◌, map, inl, inr, ⊎_elim, refl, sym, ap, ◌∙◌, arith, eq-eqb, ne_eqb}
use Rattle.std.proofs.lemmas.Bool.{cases_eq, cases_lt}
use Rattle.indirection.proofs.Tests.{by_test}
use Rattle.bucket_table.specs.declared.custody.Custody.{Custody}
use Rattle.indirection.specs.Stints.{Stint, Joins}
use Rattle.handover_core.specs.Spans.{Span, spans_at}
use Rattle.worker_loop.specs.Custodies.{ended_spans, stretch_of, AreEntries}
use Rattle.rsspp_run.specs.Custody.{custody_of, custody_upto, all_logs, Before, AllAre, IsOrdered, IsRising, same_span, same_custody, times, times_in, AreOfCores}
use Rattle.rsspp_run.proofs.CustodyOrders.{one_order}

times_append : (x : Custody) (xs ys : List Custody) → times x (xs ++ ys) ≡ times x xs + times x ys
times_append x [] ys = omega arith
times_append x (y ∷ xs) ys = let h = times_append x xs ys in omega arith

times_in_append : (s : Span) (xs ys : List Span) → times_in s (xs ++ ys) ≡ times_in s xs + times_in s ys
times_in_append s [] ys = omega arith
times_in_append s (y ∷ xs) ys = let h = times_in_append s xs ys in omega arith

abbrev span_of : Custody → Span
span_of x = (x.from, x.to)

-- one log
log_here : (x : Custody) (c n : ℕ) (l : List Custody) → c ≡ x.core → AreEntries c n l → times x l ≡ times_in (span_of x) (ended_spans x.bucket (map stretch_of l))
log_here x c n [] e h = refl
log_here x c n (y ∷ l) e h =
    let ih = log_here x c n l e h.2 in
    let a : times x (y ∷ l) ≡ (if (if eqb y.bucket x.bucket then same_span (span_of x) (span_of y) else false) then 1 else 0) + times x l
    = ap {B = ℕ} (λ (t : Bool). (if (if t then (if eqb y.bucket x.bucket then same_span (span_of x) (span_of y) else false) else false) then 1 else 0) + times x l) (eq-eqb y.core x.core (h.0 ∙ e)) in
    a ∙ by_test y.bucket x.bucket (λ t. (if (if t then same_span (span_of x) (span_of y) else false) then 1 else 0) + times x l ≡ times_in (span_of x) ((if t then span_of y ∷ [] else []) ++ ended_spans x.bucket (map stretch_of l)))
    (λ _. ap {B = ℕ} (λ (m : ℕ). (if same_span (span_of x) (span_of y) then 1 else 0) + m) ih) (λ _. omega arith)

log_away : (x : Custody) (c n : ℕ) (l : List Custody) → c ≢ x.core → AreEntries c n l → times x l ≡ 0
log_away x c n [] ne h = refl
log_away x c n (y ∷ l) ne h =
    let ih = log_away x c n l ne h.2 in
    let a = ap {B = ℕ} (λ (t : Bool). (if (if t then (if eqb y.bucket x.bucket then same_span (span_of x) (span_of y) else false) else false) then 1 else 0) + times x l) (ne_eqb y.core x.core (λ q. ne (sym h.0 ∙ q))) in omega arith

history_past : (b c n : ℕ) (l : List Custody) → AreEntries c n l → n ≤ b → ended_spans b (map stretch_of l) ≡ []
history_past b c n [] h far = refl
history_past b c n (y ∷ l) h far = ap (λ (t : Bool). (if t then span_of y ∷ [] else []) ++ ended_spans b (map stretch_of l)) (ne_eqb y.bucket b (λ q. let z = h.1 in omega arith)) ∙ history_past b c n l h.2 far

-- the stints of one bucket
bucket_here : (x : Custody) (b : ℕ) (ss : List Stint) → b ≡ x.bucket → times x (map (custody_of b) ss) ≡ times_in (span_of x) (spans_at x.core ss)
bucket_here x b [] e = refl
bucket_here x b (s ∷ ss) e =
    let ih = bucket_here x b ss e in
    let a : times x (map (custody_of b) (s ∷ ss)) ≡ (if (if eqb s.core x.core then same_span (span_of x) (s.from, s.to) else false) then 1 else 0) + times x (map (custody_of b) ss)
    = ap {B = ℕ} (λ (t : Bool). (if (if eqb s.core x.core then (if t then same_span (span_of x) (s.from, s.to) else false) else false) then 1 else 0) + times x (map (custody_of b) ss)) (eq-eqb b x.bucket e) in
    a ∙ by_test s.core x.core (λ t. (if (if t then same_span (span_of x) (s.from, s.to) else false) then 1 else 0) + times x (map (custody_of b) ss) ≡ times_in (span_of x) ((if t then (s.from, s.to) ∷ [] else []) ++ spans_at x.core ss))
    (λ _. ap {B = ℕ} (λ (m : ℕ). (if same_span (span_of x) (s.from, s.to) then 1 else 0) + m) ih) (λ _. omega arith)

none_if : (t : Bool) → (if t then false else false) ≡ false
none_if true = refl
none_if false = refl

bucket_away : (x : Custody) (b : ℕ) (ss : List Stint) → b ≢ x.bucket → times x (map (custody_of b) ss) ≡ 0
bucket_away x b [] ne = refl
bucket_away x b (s ∷ ss) ne =
    let ih = bucket_away x b ss ne in
    let q : same_custody x (custody_of b s) ≡ false = ap (λ (t : Bool). if eqb s.core x.core then (if t then same_span (span_of x) (s.from, s.to) else false) else false) (ne_eqb b x.bucket ne) ∙ none_if (eqb s.core x.core) in
    let a = ap {B = ℕ} (λ (t : Bool). (if t then 1 else 0) + times x (map (custody_of b) ss)) q in omega arith

spans_none : (c n : ℕ) (ss : List Stint) → AreOfCores n ss → n ≤ c → spans_at c ss ≡ []
spans_none c n [] h far = refl
spans_none c n (s ∷ ss) h far = ap (λ (t : Bool). (if t then (s.from, s.to) ∷ [] else []) ++ spans_at c ss) (ne_eqb s.core c (λ q. let z = h.0 in omega arith)) ∙ spans_none c n ss h.1 far

module _ (logs : ℕ → List Custody) (st : ℕ → List Stint) (cores n : ℕ) (entries : (c : ℕ) → c < cores → AreEntries c n (logs c)) where
  logs_past : (x : Custody) (m : ℕ) → m ≤ cores → m ≤ x.core → times x (all_logs logs m) ≡ 0
  logs_past x zero below far = refl
  logs_past x (suc m) below far = let a = times_append x (all_logs logs m) (logs m) in let b = logs_past x m (omega arith) (omega arith) in let c = log_away x m n (logs m) (λ q. omega arith) (entries m (omega arith)) in omega arith

  logs_at : (x : Custody) (m : ℕ) → m ≤ cores → x.core < m → times x (all_logs logs m) ≡ times_in (span_of x) (ended_spans x.bucket (map stretch_of (logs x.core)))
  logs_at x zero below near = absurd (omega arith)
  logs_at x (suc m) below near =
      let a = times_append x (all_logs logs m) (logs m) in
      ⊎_elim
      (λ (q : m ≡ x.core). let b = logs_past x m (omega arith) (omega arith) in let c = log_here x m n (logs m) q (entries m (omega arith)) in
      let d : times_in (span_of x) (ended_spans x.bucket (map stretch_of (logs m))) ≡ times_in (span_of x) (ended_spans x.bucket (map stretch_of (logs x.core))) = ap (λ (i : ℕ). times_in (span_of x) (ended_spans x.bucket (map stretch_of (logs i)))) q in omega arith)
      (λ (ne : m ≡ x.core → ⊥). let le : x.core < m = below_other x.core m near ne in let b = logs_at x m (omega arith) le in let c = log_away x m n (logs m) ne (entries m (omega arith)) in omega arith) (cases_eq m x.core) where
        below_other : (i k : ℕ) → i < suc k → (k ≡ i → ⊥) → i < k
        below_other i k l ne = ⊎_elim (λ (z : i < k). z) (λ (z : k ≤ i). absurd (ne (omega arith))) (cases_lt i k)

  upto_past : (x : Custody) (m : ℕ) → m ≤ x.bucket → times x (custody_upto st m) ≡ 0
  upto_past x zero far = refl
  upto_past x (suc m) far = let a = times_append x (custody_upto st m) (map (custody_of m) (st m)) in let b = upto_past x m (omega arith) in let c = bucket_away x m (st m) (λ q. omega arith) in omega arith

  upto_at : (x : Custody) (m : ℕ) → x.bucket < m → times x (custody_upto st m) ≡ times_in (span_of x) (spans_at x.core (st x.bucket))
  upto_at x zero near = absurd (omega arith)
  upto_at x (suc m) near =
      let a = times_append x (custody_upto st m) (map (custody_of m) (st m)) in
      ⊎_elim
      (λ (q : m ≡ x.bucket). let b = upto_past x m (omega arith) in let c = bucket_here x m (st m) q in
      let d : times_in (span_of x) (spans_at x.core (st m)) ≡ times_in (span_of x) (spans_at x.core (st x.bucket)) = ap (λ (i : ℕ). times_in (span_of x) (spans_at x.core (st i))) q in omega arith)
      (λ (ne : m ≡ x.bucket → ⊥). let le : x.bucket < m = below_other x.bucket m near ne in let b = upto_at x m le in let c = bucket_away x m (st m) ne in omega arith) (cases_eq m x.bucket) where
        below_other : (i k : ℕ) → i < suc k → (k ≡ i → ⊥) → i < k
        below_other i k l ne = ⊎_elim (λ (z : i < k). z) (λ (z : k ≤ i). absurd (ne (omega arith))) (cases_lt i k)

  module _ (in_cores : (b : ℕ) → b < n → AreOfCores cores (st b)) (split : (c b : ℕ) → c < cores → b < n → ended_spans b (map stretch_of (logs c)) ≡ spans_at c (st b)) where
    pub same_times : (x : Custody) → times x (all_logs logs cores) ≡ times x (custody_upto st n)
    same_times x = ⊎_elim
        (λ (c : x.core < cores). ⊎_elim
        (λ (b : x.bucket < n). logs_at x cores (omega arith) c ∙ (ap (times_in (span_of x)) (split x.core x.bucket c b) ∙ sym (upto_at x n b)))
        (λ (b : n ≤ x.bucket). logs_at x cores (omega arith) c ∙ (ap (times_in (span_of x)) (history_past x.bucket x.core n (logs x.core) (entries x.core c) b) ∙ sym (upto_past x n b))) (cases_lt x.bucket n))
        (λ (c : cores ≤ x.core). logs_past x cores (omega arith) c ∙ ⊎_elim
        (λ (b : x.bucket < n). sym (upto_at x n b ∙ ap (times_in (span_of x)) (spans_none x.core cores (st x.bucket) (in_cores x.bucket b) c)))
        (λ (b : n ≤ x.bucket). sym (upto_past x n b)) (cases_lt x.bucket n)) (cases_lt x.core cores)

-- the custody of a journal rises
all_map : (P : Custody → Type 0) (b : ℕ) (ss : List Stint) → ((s : Stint) → P (custody_of b s)) → AllAre P (map (custody_of b) ss)
all_map P b [] h = tt
all_map P b (s ∷ ss) h = (h s, all_map P b ss h)

all_append : (P : Custody → Type 0) (xs ys : List Custody) → AllAre P xs → AllAre P ys → AllAre P (xs ++ ys)
all_append P [] ys h k = k
all_append P (x ∷ xs) ys h k = (h.0, all_append P xs ys h.1 k)

joins_later : (b low from to : ℕ) (x : Custody) (ss : List Stint) → x.bucket ≡ b → x.from < from → Joins from ss to → AllAre (Before x) (map (custody_of b) ss)
joins_later b low from to x [] e l h = tt
joins_later b low from to x (s ∷ ss) e l h = let z = h.0 in let y = h.1 in (inr (e, omega arith), joins_later b low s.to to x ss e (omega arith) h.2)

joins_rise : (b from to : ℕ) (ss : List Stint) → Joins from ss to → IsRising (map (custody_of b) ss)
joins_rise b from to [] h = tt
joins_rise b from to (s ∷ ss) h = let z = h.0 in let y = h.1 in (joins_later b 0 s.to to (custody_of b s) ss refl (omega arith) h.2, joins_rise b s.to to ss h.2)

rise_append : (n : ℕ) (xs ys : List Custody) → IsRising xs → IsRising ys → AllAre (λ x. x.bucket < n) xs → ((x : Custody) → x.bucket < n → AllAre (Before x) ys) → IsRising (xs ++ ys)
rise_append n [] ys h k all later = k
rise_append n (x ∷ xs) ys h k all later = (all_append (Before x) xs ys h.0 (later x all.0), rise_append n xs ys h.1 k all.1 later)

all_more : (m n : ℕ) (xs : List Custody) → m ≤ n → AllAre (λ x. x.bucket < m) xs → AllAre (λ x. x.bucket < n) xs
all_more m n [] le h = tt
all_more m n (x ∷ xs) le h = (let z = h.0 in omega arith, all_more m n xs le h.1)

upto_in : (st : ℕ → List Stint) (n : ℕ) → AllAre (λ x. x.bucket < n) (custody_upto st n)
upto_in st zero = tt
upto_in st (suc n) = all_append (λ x. x.bucket < suc n) (custody_upto st n) (map (custody_of n) (st n)) (all_more n (suc n) (custody_upto st n) (omega arith) (upto_in st n)) (all_map (λ x. x.bucket < suc n) n (st n) (λ s. omega arith))

pub upto_rises : (st : ℕ → List Stint) (total : ℕ → ℕ) (n : ℕ) → ((b : ℕ) → b < n → Joins 0 (st b) (total b)) → IsRising (custody_upto st n)
upto_rises st total zero h = tt
upto_rises st total (suc n) h = rise_append n (custody_upto st n) (map (custody_of n) (st n)) (upto_rises st total n (λ b l. h b (omega arith))) (joins_rise n 0 (total n) (st n) (h n (omega arith))) (upto_in st n) (λ x l. all_map (Before x) n (st n) (λ s. inl l))

-- the law: the logs in order are the custody of the journal
pub logs_in_order : (logs : ℕ → List Custody) (st : ℕ → List Stint) (total : ℕ → ℕ) (cores n : ℕ) (cs : List Custody) → ((c : ℕ) → c < cores → AreEntries c n (logs c)) → ((b : ℕ) → b < n → AreOfCores cores (st b))
    → ((b : ℕ) → b < n → Joins 0 (st b) (total b)) → ((c b : ℕ) → c < cores → b < n → ended_spans b (map stretch_of (logs c)) ≡ spans_at c (st b))
    → IsOrdered cs → ((x : Custody) → times x cs ≡ times x (all_logs logs cores)) → cs ≡ custody_upto st n
logs_in_order logs st total cores n cs entries in_cores joins split ordered same =
    one_order cs (custody_upto st n) ordered (upto_rises st total n joins) (λ x. same x ∙ same_times logs st cores n entries in_cores split x)
