-- Of the allowed pairs of greatest gain the first is proposed.
use Rattle.std.proofs.Common.{◌≡◌, ◌⊎◌, ℕ, suc, zero, ◌<◌, List, [], ◌∷◌, ◌++◌, append_assoc, map, length, Bool, true, false, if◌then◌else◌, cond, Option, Some, None, refl, sym, ap, ◌∙◌, subst, inl, inr, ⊎_elim, arith}
use Rattle.std.specs.Prelude.{filter, flat_map, nat_le}
use Rattle.std.proofs.lemmas.Bool.{cases_Bool}
use Rattle.std.proofs.lemmas.Bool.Decides.{nat_tests}
use Rattle.std.proofs.lemmas.List.{map-append, append-nil}
use Rattle.std.proofs.lemmas.List.Elements.{filter-append}
use Rattle.indirection.specs.declared.proposal.Proposal.{Proposal}
use Rattle.indirection.specs.Tries.{upto}
use Rattle.balancer.specs.Greedy.{RoundState, IsAllowed, allowed, proposal, choices, choices_of, greatest, ahead, greedy, led, moved, IsBest, AreBest}
use Rattle.balancer.proofs.Best.{Has, has_choice, best_gain}
use Rattle.balancer.proofs.Chosen.{allowed_is, chosen_is}

-- p comes before q: by bucket, and then by core
Less : Proposal → Proposal → Type 0
Less p q = (p.bucket < q.bucket) ⊎ ((p.bucket ≡ q.bucket) × (p.to < q.to))

AllOf : (Proposal → Type 0) → List Proposal → Type 0
AllOf P [] = Unit {0}
AllOf P (p ∷ ps) = P p × AllOf P ps

Sorted : List Proposal → Type 0
Sorted [] = Unit {0}
Sorted (p ∷ ps) = AllOf (Less p) ps × Sorted ps

AllOf-append : (P : Proposal → Type 0) (ps qs : List Proposal) → AllOf P ps → AllOf P qs → AllOf P (ps ++ qs)
unfolding AllOf
AllOf-append P [] qs a b = b
AllOf-append P (p ∷ ps) qs a b = (a.0, AllOf-append P ps qs a.1 b)

AllOf-map : (P Q : Proposal → Type 0) → ((p : Proposal) → P p → Q p) → (ps : List Proposal) → AllOf P ps → AllOf Q ps
unfolding AllOf
AllOf-map P Q f [] a = tt
AllOf-map P Q f (p ∷ ps) a = (f p a.0, AllOf-map P Q f ps a.1)

Sorted-append : (P Q : Proposal → Type 0) → ((p q : Proposal) → P p → Q q → Less p q) → (ps qs : List Proposal) → AllOf P ps → AllOf Q qs → Sorted ps → Sorted qs → Sorted (ps ++ qs)
unfolding AllOf Sorted
Sorted-append P Q f [] qs a b s t = t
Sorted-append P Q f (p ∷ ps) qs a b s t = (AllOf-append (Less p) ps qs s.0 (AllOf-map Q (Less p) (λ q x. f p q a.0 x) qs b), Sorted-append P Q f ps qs a.1 b s.1 t)

-- the choices of a bucket among the first n cores

abbrev among : RoundState → ℕ → List ℕ → List Proposal
among s b ds = map (λ d. proposal s b d) (filter (λ d. allowed s b d) ds)

among-push : (s : RoundState) (b n : ℕ) → among s b (upto (suc n)) ≡ among s b (upto n) ++ among s b (n ∷ [])
among-push s b n = ap (map (λ d. proposal s b d)) (filter-append (λ d. allowed s b d) (upto n) (n ∷ [])) ∙ map-append (λ d. proposal s b d) (filter (λ d. allowed s b d) (upto n)) (filter (λ d. allowed s b d) (n ∷ []))

At : ℕ → ℕ → Proposal → Type 0
At b n p = (p.bucket ≡ b) × (p.to < n)

Exactly : ℕ → ℕ → Proposal → Type 0
Exactly b n p = (p.bucket ≡ b) × (p.to ≡ n)

one_among : (s : RoundState) (b n : ℕ) → AllOf (Exactly b n) (among s b (n ∷ [])) × Sorted (among s b (n ∷ []))
unfolding AllOf Sorted Exactly
one_among s b n = ⊎_elim
    (λ (t : allowed s b n ≡ true). subst (λ (t : Bool). AllOf (Exactly b n) (map (λ d. proposal s b d) (cond t (n ∷ []) [])) × Sorted (map (λ d. proposal s b d) (cond t (n ∷ []) []))) (sym t) (((refl, refl), tt), (tt, tt)))
    (λ (t : allowed s b n ≡ false). subst (λ (t : Bool). AllOf (Exactly b n) (map (λ d. proposal s b d) (cond t (n ∷ []) [])) × Sorted (map (λ d. proposal s b d) (cond t (n ∷ []) []))) (sym t) (tt, tt))
    (cases_Bool (allowed s b n))

at_more : (b n : ℕ) (p : Proposal) → At b n p → At b (suc n) p
unfolding At
at_more b n p a = let h = a.1 in (a.0, omega arith)

at_exactly : (b n : ℕ) (p : Proposal) → Exactly b n p → At b (suc n) p
unfolding At Exactly
at_exactly b n p a = let h = a.1 in (a.0, omega arith)

at_less : (b n : ℕ) (p q : Proposal) → At b n p → Exactly b n q → Less p q
unfolding At Exactly Less
at_less b n p q a e = let h = a.1 in let k = e.1 in inr (a.0 ∙ sym e.0, omega arith)

of_bucket : (s : RoundState) (b n : ℕ) → AllOf (At b n) (among s b (upto n)) × Sorted (among s b (upto n))
unfolding AllOf Sorted
of_bucket s b zero = (tt, tt)
of_bucket s b (suc n) = let r = of_bucket s b n in let o = one_among s b n in
    subst (λ (z : List Proposal). AllOf (At b (suc n)) z × Sorted z) (sym (among-push s b n)) (
      AllOf-append (At b (suc n)) (among s b (upto n)) (among s b (n ∷ [])) (AllOf-map (At b n) (At b (suc n)) (at_more b n) (among s b (upto n)) r.0) (AllOf-map (Exactly b n) (At b (suc n)) (at_exactly b n) (among s b (n ∷ [])) o.0),
      Sorted-append (At b n) (Exactly b n) (at_less b n) (among s b (upto n)) (among s b (n ∷ [])) r.0 o.0 r.1 o.1,
    )

-- the choices of the first n buckets

Under : ℕ → Proposal → Type 0
Under n p = p.bucket < n

Is : ℕ → Proposal → Type 0
Is n p = p.bucket ≡ n

flat_map-push : (f : ℕ → List Proposal) (xs : List ℕ) (x : ℕ) → flat_map f (xs ++ x ∷ []) ≡ flat_map f xs ++ f x
flat_map-push f [] x = append-nil (f x)
flat_map-push f (y ∷ ys) x = ap (λ (z : List Proposal). f y ++ z) (flat_map-push f ys x) ∙ sym (append_assoc (f y) (flat_map f ys) (f x))

at_is : (n m : ℕ) (p : Proposal) → At n m p → Is n p
unfolding At Is
at_is n m p a = a.0

under_more : (n : ℕ) (p : Proposal) → Under n p → Under (suc n) p
unfolding Under
under_more n p h = omega arith

is_under : (n : ℕ) (p : Proposal) → Is n p → Under (suc n) p
unfolding Under Is
is_under n p h = omega arith

under_less : (n : ℕ) (p q : Proposal) → Under n p → Is n q → Less p q
unfolding Under Is Less
under_less n p q h k = inl (omega arith)

of_buckets : (s : RoundState) (n : ℕ) → AllOf (Under n) (flat_map (choices_of s) (upto n)) × Sorted (flat_map (choices_of s) (upto n))
unfolding AllOf Sorted
of_buckets s zero = (tt, tt)
of_buckets s (suc n) = let r = of_buckets s n in let o = of_bucket s n s.cores in let is = AllOf-map (At n s.cores) (Is n) (at_is n s.cores) (choices_of s n) o.0 in
    subst (λ (z : List Proposal). AllOf (Under (suc n)) z × Sorted z) (sym (flat_map-push (choices_of s) (upto n) n)) (
      AllOf-append (Under (suc n)) (flat_map (choices_of s) (upto n)) (choices_of s n) (AllOf-map (Under n) (Under (suc n)) (under_more n) (flat_map (choices_of s) (upto n)) r.0) (AllOf-map (Is n) (Under (suc n)) (is_under n) (choices_of s n) is),
      Sorted-append (Under n) (Is n) (under_less n) (flat_map (choices_of s) (upto n)) (choices_of s n) r.0 is r.1 o.1,
    )

-- the first of greatest gain

less_than : (p r : Proposal) (ps : List Proposal) → AllOf (Less p) ps → Has r ps → Less p r
unfolding AllOf Has
less_than p r [] a h = absurd h
less_than p r (q ∷ ps) a h = ⊎_elim (λ (e : q ≡ r). subst (Less p) e a.0) (λ (g : Has r ps). less_than p r ps a.1 g) h

first_of_greatest : (ps : List Proposal) (q r : Proposal) → Sorted ps → greatest ps ≡ Some q → Has r ps → r.gain ≡ q.gain → (q ≡ r) ⊎ Less q r
unfolding Sorted Has
first_of_greatest [] q r s e h g = absurd h
first_of_greatest (p ∷ ps) q r s e h g = ahead_first (λ k m. first_of_greatest ps q r s.1 k m g) (greatest ps) refl e where
  here : p ≡ q → (q ≡ r) ⊎ Less q r
  here f = ⊎_elim (λ (k : p ≡ r). inl (sym f ∙ k)) (λ (k : Has r ps). inr (subst (λ (x : Proposal). Less x r) f (less_than p r ps s.0 k))) h

  ahead_first : (greatest ps ≡ Some q → Has r ps → (q ≡ r) ⊎ Less q r) → (o : Option Proposal) → greatest ps ≡ o → ahead p o ≡ Some q → (q ≡ r) ⊎ Less q r
  ahead_first rest None is f = let k : p ≡ q = cc in here k
  ahead_first rest (Some x) is f = ⊎_elim
      (λ (t : nat_le x.gain p.gain ≡ true). let k : Some p ≡ Some q = subst (λ (t : Bool). (if t then Some p else Some x) ≡ Some q) t f in let m : p ≡ q = cc in here m)
      (λ (t : nat_le x.gain p.gain ≡ false). let k : Some x ≡ Some q = subst (λ (t : Bool). (if t then Some p else Some x) ≡ Some q) t f in let m : x ≡ q = cc in let l : p.gain < x.gain = grind (arith, nat_tests) in let n = ap (λ (y : Proposal). y.gain) m in
      ⊎_elim (λ (k : p ≡ r). let w = ap (λ (y : Proposal). y.gain) k in absurd (omega arith)) (λ (k : Has r ps). rest (is ∙ ap Some m) k) h)
      (cases_Bool (nat_le x.gain p.gain))

-- the proposal that is made is allowed, gains the most, and is the first that gains so
pub best_is : (s : RoundState) (p : Proposal) → greatest (choices s) ≡ Some p → IsBest s p
unfolding Less
best_is s p e = record {
  allowed = subst (λ (q : Proposal). IsAllowed s q.bucket q.to) (sym c.3) (allowed_is s c.0 c.1 c.2);
  is = c.3 ∙ sym (ap (λ (q : Proposal). proposal s q.bucket q.to) c.3);
  best = λ b d a. best_gain s p b d e a;
  first = λ b d a g. ⊎_elim
      (λ (k : p ≡ proposal s b d). inr (ap (λ (q : Proposal). q.bucket) k, let t = ap (λ (q : Proposal). q.to) k in omega arith))
      (λ (l : Less p (proposal s b d)). ⊎_elim (λ (x : p.bucket < b). inl x) (λ (x : (p.bucket ≡ b) × (p.to < d)). inr (x.0, let y = x.1 in omega arith)) l)
      (first_of_greatest (choices s) p (proposal s b d) (of_buckets s (length s.owners)).1 e (has_choice s b d a) g);
} where
  c : (b d : ℕ) × (allowed s b d ≡ true) × (p ≡ proposal s b d)
  c = chosen_is s p e

best_led : (limit : ℕ) (s : RoundState) (o : Option Proposal) → greatest (choices s) ≡ o → ((t : RoundState) → AreBest t (greedy limit t)) → AreBest s (led (greedy limit) s o)
best_led limit s None e rest = tt
best_led limit s (Some p) e rest = (best_is s p e, rest (moved s p))

pub greedy_best : (limit : ℕ) (s : RoundState) → AreBest s (greedy limit s)
greedy_best zero s = tt
greedy_best (suc limit) s = best_led limit s (greatest (choices s)) refl (greedy_best limit)
