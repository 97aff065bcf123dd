-- A chain of stretches that has each stint of all cores as often is the chain of the stints.
use Rattle.std.proofs.Common.{◌≡◌, ◌≢◌, ℕ, zero, suc, ◌+◌, ◌<◌, ◌≤◌, if◌then◌else◌, Bool, true, false, eqb, List, [], ◌∷◌, ◌++◌, map, ◌⊎◌, inl, inr, ⊎_elim, refl, sym, ap, ◌∙◌, subst, arith, eq-eqb, ne_eqb}
use Rattle.std.proofs.lemmas.Bool.{cases_eq, cases_lt}
use Rattle.indirection.specs.Stints.{Stint, Joins}
use Rattle.handover_core.specs.Spans.{Span, spans_at}
use Rattle.rsspp_run.specs.Custody.{Meet, stint_span, all_spans, same_span, times_in, AreOfCores}

times_append : (s : Span) (xs ys : List Span) → times_in s (xs ++ ys) ≡ times_in s xs + times_in s ys
times_append s [] ys = omega arith
times_append s (y ∷ xs) ys = let h = times_append s xs ys in omega arith

same_self : (s : Span) → same_span s s ≡ true
same_self s = ap (λ (t : Bool). if t then eqb s.1 s.1 else false) (eq-eqb s.0 s.0 refl) ∙ eq-eqb s.1 s.1 refl

none_if : (t : Bool) → (if t then false else false) ≡ false
none_if true = refl
none_if false = refl

same_or : (s t : Span) → (s ≡ t) ⊎ (same_span s t ≡ false)
same_or s t = ⊎_elim (λ (a : t.0 ≡ s.0). ⊎_elim (λ (b : t.1 ≡ s.1). inl (λ i. (sym a i, sym b i)))
    (λ (n : t.1 ≡ s.1 → ⊥). inr (ap (λ (q : Bool). if eqb t.0 s.0 then q else false) (ne_eqb t.1 s.1 n) ∙ none_if (eqb t.0 s.0))) (cases_eq t.1 s.1))
    (λ (n : t.0 ≡ s.0 → ⊥). inr (ap (λ (q : Bool). if q then eqb t.1 s.1 else false) (ne_eqb t.0 s.0 n))) (cases_eq t.0 s.0)

-- what stands in a chain begins there or later
occurs : (s : Span) (from to : ℕ) (ps : List Span) → Meet from ps to → 0 < times_in s ps → from ≤ s.0
occurs s from to [] m some = absurd (omega arith)
occurs s from to (p ∷ ps) m some = ⊎_elim (λ (e : s ≡ p). let a = ap (λ (z : Span). z.0) e in let b = m.0 in omega arith)
    (λ (n : same_span s p ≡ false). let z = ap {B = ℕ} (λ t. (if t then 1 else 0) + times_in s ps) n in let h = occurs s p.1 to ps m.2 (omega arith) in let b = m.1 in omega arith) (same_or s p)

once : (s : Span) (ps : List Span) → times_in s (s ∷ ps) ≡ 1 + times_in s ps
once s ps = ap {B = ℕ} (λ t. (if t then 1 else 0) + times_in s ps) (same_self s)

pub one_chain : (ps qs : List Span) (from to to' : ℕ) → Meet from ps to → Meet from qs to' → ((s : Span) → times_in s ps ≡ times_in s qs) → (ps ≡ qs) × (to ≡ to')
one_chain [] [] from to to' m n h = (refl, sym m ∙ n)
one_chain [] (q ∷ qs) from to to' m n h = absurd (let a = h q in let b = once q qs in omega arith)
one_chain (p ∷ ps) [] from to to' m n h = absurd (let a = h p in let b = once p ps in omega arith)
one_chain (p ∷ ps) (q ∷ qs) from to to' m n h =
    let e : p ≡ q = ⊎_elim (λ (z : p ≡ q). z)
    (λ (z : same_span p q ≡ false). let a = h p in let b = once p ps in let c = ap {B = ℕ} (λ t. (if t then 1 else 0) + times_in p qs) z in
    let later = occurs p q.1 to' qs n.2 (omega arith) in let u = m.0 in let v = n.1 in absurd (omega arith)) (same_or p q) in
    let rest = one_chain ps qs p.1 to to' m.2 (subst (λ (z : ℕ). Meet z qs to') (sym (ap (λ (z : Span). z.1) e)) n.2) (λ s. let a = h s in let b = ap {B = ℕ} (λ (w : Span). (if same_span s w then 1 else 0) + times_in s qs) e in omega arith) in
    (λ i. e i ∷ rest.0 i, rest.1)

-- the stints over all cores are all stints
abbrev one : Span → Stint → ℕ
one s x = if same_span s (stint_span x) then 1 else 0

front_here : (s : Span) (x : Stint) (m : ℕ) (ss : List Stint) → x.core ≡ m → times_in s (spans_at m (x ∷ ss)) ≡ one s x + times_in s (spans_at m ss)
front_here s x m ss e = ap {B = ℕ} (λ (t : Bool). times_in s ((if t then stint_span x ∷ [] else []) ++ spans_at m ss)) (eq-eqb x.core m e)

front_away : (s : Span) (x : Stint) (m : ℕ) (ss : List Stint) → x.core ≢ m → times_in s (spans_at m (x ∷ ss)) ≡ times_in s (spans_at m ss)
front_away s x m ss ne = ap {B = ℕ} (λ (t : Bool). times_in s ((if t then stint_span x ∷ [] else []) ++ spans_at m ss)) (ne_eqb x.core m ne)

part_past : (s : Span) (x : Stint) (ss : List Stint) (n : ℕ) → n ≤ x.core → times_in s (all_spans (x ∷ ss) n) ≡ times_in s (all_spans ss n)
part_past s x ss zero far = refl
part_past s x ss (suc m) far = let a = times_append s (all_spans (x ∷ ss) m) (spans_at m (x ∷ ss)) in let b = times_append s (all_spans ss m) (spans_at m ss) in
    let c = front_away s x m ss (λ q. omega arith) in let ih = part_past s x ss m (omega arith) in omega arith

below_other : (i k : ℕ) → i < suc k → (i ≡ k → ⊥) → i < k
below_other i k l ne = ⊎_elim (λ (z : i < k). z) (λ (z : k ≤ i). absurd (ne (omega arith))) (cases_lt i k)

part_at : (s : Span) (x : Stint) (ss : List Stint) (n : ℕ) → x.core < n → times_in s (all_spans (x ∷ ss) n) ≡ one s x + times_in s (all_spans ss n)
part_at s x ss zero near = absurd (omega arith)
part_at s x ss (suc m) near =
    let a = times_append s (all_spans (x ∷ ss) m) (spans_at m (x ∷ ss)) in let b = times_append s (all_spans ss m) (spans_at m ss) in
    ⊎_elim (λ (e : x.core ≡ m). let c = front_here s x m ss e in let p = part_past s x ss m (omega arith) in omega arith)
    (λ (ne : x.core ≡ m → ⊥). let c = front_away s x m ss ne in let ih = part_at s x ss m (below_other x.core m near ne) in omega arith) (cases_eq x.core m)

none_all : (s : Span) (n : ℕ) → times_in s (all_spans [] n) ≡ 0
none_all s zero = refl
none_all s (suc m) = let a = times_append s (all_spans [] m) [] in let ih = none_all s m in omega arith

pub all_cores : (s : Span) (ss : List Stint) (n : ℕ) → AreOfCores n ss → times_in s (all_spans ss n) ≡ times_in s (map stint_span ss)
all_cores s [] n h = none_all s n
all_cores s (x ∷ ss) n h = part_at s x ss n h.0 ∙ ap {B = ℕ} (λ (k : ℕ). one s x + k) (all_cores s ss n h.1)

joins_meet : (from to : ℕ) (ss : List Stint) → Joins from ss to → Meet from (map stint_span ss) to
joins_meet from to [] h = h
joins_meet from to (s ∷ ss) h = (h.0, h.1, joins_meet s.to to ss h.2)

-- the law: a note's chain that has what the cores' seats ended is the chain of the stints, and it ends where they do
pub note_stints : (ss : List Stint) (total done cores : ℕ) (h : List Span) → Joins 0 ss total → AreOfCores cores ss → Meet 0 h done → ((s : Span) → times_in s h ≡ times_in s (all_spans ss cores)) → (h ≡ map stint_span ss) × (done ≡ total)
note_stints ss total done cores h joins cores_in meet same = one_chain h (map stint_span ss) 0 done total meet (joins_meet 0 total ss joins) (λ s. same s ∙ all_cores s ss cores cores_in)
