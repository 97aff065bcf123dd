-- Sorted, the custodies of a bucket are the chain that has each as often.
use Rattle.std.proofs.Common.{◌≡◌, ℕ, ◌+◌, ◌<◌, ◌≤◌, eqb, cond, List, [], ◌∷◌, refl, sym, ap, ◌∙◌, subst, arith}
use mathlib.Core.Logic.{dite}
use native.Mathlib.Decide.{ℕ_discrete, dec_lt}
use Rattle.indirection.proofs.Tests.{by_test, by_less}
use Rattle.handover_words.specs.declared.history.Stretch.{Stretch}
use Rattle.handover_words.specs.ShelfRule.{times_in, times, is_pair, JoinsTo}
use Rattle.handover_words.specs.SortedSpans.{place_into, sorted_spans}
use Rattle.handover_words.proofs.Sums.{counted, not_counted}

times-place : (x z : ℕ) (p : ℕ × ℕ) (qs : List (ℕ × ℕ)) → times x z (place_into p qs) ≡ is_pair x z p + times x z qs
times-place x z p [] = refl
times-place x z p (q ∷ qs) = by_less q.1 p.1 (λ t. times x z (cond t (p ∷ q ∷ qs) (q ∷ place_into p qs)) ≡ is_pair x z p + (is_pair x z q + times x z qs)) (λ _. refl) (λ _. let ih = times-place x z p qs in omega arith)

times-sorted_spans : (b x z : ℕ) (cs : List Stretch) → times x z (sorted_spans b cs) ≡ times_in b x z cs
times-sorted_spans b x z [] = refl
times-sorted_spans b x z (c ∷ cs) = let ih = times-sorted_spans b x z cs in let p : ℕ × ℕ = (c.from, c.to) in
    by_test c.bucket b (λ t. times x z (cond t (place_into p (sorted_spans b cs)) (sorted_spans b cs)) ≡ cond t (is_pair x z p) 0 + times_in b x z cs) (λ _. let e = times-place x z p (sorted_spans b cs) in omega arith) (λ _. omega arith)

pub Below : ℕ → List (ℕ × ℕ) → Type 0
Below m [] = Unit {0}
Below m (q ∷ qs) = (q.1 ≤ m) × Below m qs

pub Falls : List (ℕ × ℕ) → Type 0
Falls [] = Unit {0}
Falls (q ∷ qs) = Below q.1 qs × Falls qs

below_more : (m n : ℕ) (qs : List (ℕ × ℕ)) → m ≤ n → Below m qs → Below n qs
unfolding Below
below_more m n [] l h = tt
below_more m n (q ∷ qs) l h = let a = h.0 in (omega arith, below_more m n qs l h.1)

below_place : (m : ℕ) (p : ℕ × ℕ) (qs : List (ℕ × ℕ)) → p.1 ≤ m → Below m qs → Below m (place_into p qs)
unfolding Below
below_place m p [] l h = (l, tt)
below_place m p (q ∷ qs) l h = by_less q.1 p.1 (λ t. Below m (cond t (p ∷ q ∷ qs) (q ∷ place_into p qs))) (λ _. (l, h)) (λ _. (h.0, below_place m p qs l h.1))

falls_place : (p : ℕ × ℕ) (qs : List (ℕ × ℕ)) → Falls qs → Falls (place_into p qs)
unfolding Below Falls
falls_place p [] h = (tt, tt)
falls_place p (q ∷ qs) h = by_less q.1 p.1 (λ t. Falls (cond t (p ∷ q ∷ qs) (q ∷ place_into p qs)))
    (λ l. let k : q.1 ≤ p.1 = omega arith in ((k, below_more q.1 p.1 qs k h.0), h)) (λ k. (below_place q.1 p qs k h.0, falls_place p qs h.1))

falls_history : (b : ℕ) (cs : List Stretch) → Falls (sorted_spans b cs)
unfolding Falls
falls_history b [] = tt
falls_history b (c ∷ cs) = let ih = falls_history b cs in by_test c.bucket b (λ t. Falls (cond t (place_into (c.from, c.to) (sorted_spans b cs)) (sorted_spans b cs))) (λ _. falls_place (c.from, c.to) (sorted_spans b cs) ih) (λ _. ih)

below_chain : (s : ℕ) (cs : List (ℕ × ℕ)) → JoinsTo cs s → Below s cs
unfolding Below
below_chain s [] h = tt
below_chain s (c ∷ cs) h = let a = h.0 in let l = h.1 in (omega arith, below_more c.0 s cs (omega arith) (below_chain c.0 cs h.2))

-- a pair that stands there ends no later
times_below : (m x z : ℕ) (qs : List (ℕ × ℕ)) → Below m qs → 0 < times x z qs → z ≤ m
unfolding Below
times_below m x z [] h l = absurd (omega arith)
times_below m x z (q ∷ qs) h l = dite (ℕ_discrete q.1 z) (λ e. let a = h.0 in omega arith)
    (λ ne. let o = not_counted q.1 z 1 ne in let e = ap (λ (n : ℕ). cond (eqb q.0 x) n 0) o in let k : cond {A = ℕ} (eqb q.0 x) 0 0 ≡ 0 = by_test q.0 x (λ t. cond {A = ℕ} t 0 0 ≡ 0) (λ _. refl) (λ _. refl) in times_below m x z qs h.1 (omega arith))

one_self : (p : ℕ × ℕ) → is_pair p.0 p.1 p ≡ 1
one_self p = counted p.0 p.0 (cond (eqb p.1 p.1) 1 0) refl ∙ counted p.1 p.1 1 refl

same_pair : (p q : ℕ × ℕ) → 0 < is_pair q.0 q.1 p → p ≡ q
same_pair p q l = dite (ℕ_discrete p.0 q.0)
    (λ e. let a = counted p.0 q.0 (cond (eqb p.1 q.1) 1 0) e in dite (ℕ_discrete p.1 q.1) (λ f. λ i. (e i, f i)) (λ n. let o = not_counted p.1 q.1 1 n in absurd (omega arith)))
    (λ n. let a = not_counted p.0 q.0 (cond (eqb p.1 q.1) 1 0) n in absurd (omega arith))

pub one_chain : (xs cs : List (ℕ × ℕ)) (s : ℕ) → Falls xs → JoinsTo cs s → ((x z : ℕ) → times x z xs ≡ times x z cs) → xs ≡ cs
unfolding Falls
one_chain [] [] s f j e = refl
one_chain (h ∷ hs) [] s f j e = let a = e h.0 h.1 in let o = one_self h in absurd (omega arith)
one_chain [] (c ∷ cs) s f j e = let a = e c.0 c.1 in let o = one_self c in absurd (omega arith)
one_chain (h ∷ hs) (c ∷ cs) s f j e =
    let o = one_self c in let o' = one_self h in let ec = e c.0 c.1 in let eh = e h.0 h.1 in let up = j.1 in
    let low : c.1 ≤ h.1 = dite (dec_lt 0 (times c.0 c.1 hs)) (λ l. times_below h.1 c.0 c.1 hs f.0 l) (λ n. let q = same_pair h c (omega arith) in let r = ap (λ (p : ℕ × ℕ). p.1) q in omega arith) in
    let is : c ≡ h = dite (dec_lt 0 (times h.0 h.1 cs)) (λ l. let k = times_below c.0 h.0 h.1 cs (below_chain c.0 cs j.2) l in absurd (omega arith)) (λ n. same_pair c h (omega arith)) in
    let rest : hs ≡ cs = one_chain hs cs c.0 f.1 j.2 (λ x z. let a = e x z in let b = ap (λ (p : ℕ × ℕ). is_pair x z p) is in omega arith) in
    λ i. sym is i ∷ rest i

pub history_is : (b d : ℕ) (ended : List Stretch) (cs : List (ℕ × ℕ)) → JoinsTo cs d → ((x z : ℕ) → times_in b x z ended ≡ times x z cs) → JoinsTo (sorted_spans b ended) d
history_is b d ended cs j e = subst (λ (l : List (ℕ × ℕ)). JoinsTo l d) (sym (one_chain (sorted_spans b ended) cs d (falls_history b ended) j (λ x z. times-sorted_spans b x z ended ∙ e x z))) j
