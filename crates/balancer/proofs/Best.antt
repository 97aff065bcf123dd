-- No allowed pair gains more than the proposal that is made.
use Rattle.std.proofs.Common.{◌≡◌, ◌⊎◌, ℕ, suc, zero, ◌<◌, ◌≤◌, List, [], ◌∷◌, ◌++◌, map, length, Bool, true, false, ◌&&◌, not, if◌then◌else◌, ltb, cond, Option, Some, None, refl, sym, ap, subst, inl, inr, ⊎_elim, arith}
use Rattle.std.specs.Prelude.{filter, flat_map, nat_le}
use Rattle.std.proofs.lemmas.Bool.{cases_Bool, cases_eq}
use Rattle.std.proofs.lemmas.Bool.Decides.{nat_tests}
use Rattle.indirection.specs.declared.proposal.Proposal.{Proposal}
use Rattle.indirection.specs.Tries.{upto}
use Rattle.balancer.specs.Greedy.{RoundState, IsAllowed, may_leave, may_take, allowed, gain, proposal, choices, choices_of, greatest, ahead}

and : (x y : Bool) → x ≡ true → y ≡ true → (x && y) ≡ true
and x y h k = subst (λ (t : Bool). (t && y) ≡ true) (sym h) k

less_is : (a b : ℕ) → a < b → ltb a b ≡ true
less_is a b h = grind (arith, nat_tests)

pub is_allowed : (s : RoundState) (b d : ℕ) → IsAllowed s b d → allowed s b d ≡ true
is_allowed s b d a = and (may_leave s b) (may_take s b d)
    (and _ _ (less_is _ _ a.bucket) (and _ _ (less_is _ _ a.owner) (and _ _ (less_is _ _ a.above) (and _ _ (less_is _ _ a.some) (ap not a.once)))))
    (and _ _ (less_is _ _ a.core) (and _ _ (less_is _ _ a.below) (less_is _ _ a.fits)))

-- x is one of the numbers, and p one of the proposals
Among : ℕ → List ℕ → Type 0
Among x [] = ⊥
Among x (y ∷ ys) = (y ≡ x) ⊎ Among x ys

unfoldable pub Has : Proposal → List Proposal → Type 0
Has p [] = ⊥
Has p (q ∷ qs) = (q ≡ p) ⊎ Has p qs

Among-push : (x y : ℕ) (ys : List ℕ) → Among x ys ⊎ (y ≡ x) → Among x (ys ++ y ∷ [])
unfolding Among
Among-push x y [] h = ⊎_elim (λ (a : Among x []). absurd a) (λ (e : y ≡ x). inl e) h
Among-push x y (z ∷ zs) h = ⊎_elim (λ (a : Among x (z ∷ zs)). ⊎_elim (λ (e : z ≡ x). inl e) (λ (b : Among x zs). inr (Among-push x y zs (inl b))) a) (λ (e : y ≡ x). inr (Among-push x y zs (inr e))) h

among_upto : (x n : ℕ) → x < n → Among x (upto n)
among_upto x zero h = absurd (omega arith)
among_upto x (suc n) h = Among-push x n (upto n) (⊎_elim (λ (e : n ≡ x). inr e) (λ (ne : n ≡ x → ⊥). inl (among_upto x n (omega arith))) (cases_eq n x))

Has-left : (p : Proposal) (ps qs : List Proposal) → Has p ps → Has p (ps ++ qs)
unfolding Has
Has-left p [] qs h = absurd h
Has-left p (q ∷ ps) qs h = ⊎_elim (λ (e : q ≡ p). inl e) (λ (g : Has p ps). inr (Has-left p ps qs g)) h

Has-right : (p : Proposal) (ps qs : List Proposal) → Has p qs → Has p (ps ++ qs)
unfolding Has
Has-right p [] qs h = h
Has-right p (q ∷ ps) qs h = inr (Has-right p ps qs h)

has_in : (s : RoundState) (b d : ℕ) (ds : List ℕ) → Among d ds → allowed s b d ≡ true → Has (proposal s b d) (map (λ d. proposal s b d) (filter (λ d. allowed s b d) ds))
unfolding Among Has
has_in s b d [] a h = absurd a
has_in s b d (x ∷ ds) a h = ⊎_elim
    (λ (e : x ≡ d). let t : allowed s b x ≡ true = subst (λ (y : ℕ). allowed s b y ≡ true) (sym e) h in
    subst (λ (t : Bool). Has (proposal s b d) (map (λ d. proposal s b d) (cond t (x ∷ filter (λ d. allowed s b d) ds) (filter (λ d. allowed s b d) ds)))) (sym t) (inl (ap (proposal s b) e)))
    (λ (g : Among d ds). let rest = has_in s b d ds g h in ⊎_elim
    (λ (t : allowed s b x ≡ true). subst (λ (t : Bool). Has (proposal s b d) (map (λ d. proposal s b d) (cond t (x ∷ filter (λ d. allowed s b d) ds) (filter (λ d. allowed s b d) ds)))) (sym t) (inr rest))
    (λ (t : allowed s b x ≡ false). subst (λ (t : Bool). Has (proposal s b d) (map (λ d. proposal s b d) (cond t (x ∷ filter (λ d. allowed s b d) ds) (filter (λ d. allowed s b d) ds)))) (sym t) rest)
    (cases_Bool (allowed s b x))) a

has_of : (s : RoundState) (b d : ℕ) (bs : List ℕ) → Among b bs → Has (proposal s b d) (choices_of s b) → Has (proposal s b d) (flat_map (choices_of s) bs)
unfolding Among
has_of s b d [] a h = absurd a
has_of s b d (x ∷ bs) a h = ⊎_elim
    (λ (e : x ≡ b). Has-left (proposal s b d) (choices_of s x) (flat_map (choices_of s) bs) (subst (λ (y : ℕ). Has (proposal s b d) (choices_of s y)) (sym e) h))
    (λ (g : Among b bs). Has-right (proposal s b d) (choices_of s x) (flat_map (choices_of s) bs) (has_of s b d bs g h)) a

pub has_choice : (s : RoundState) (b d : ℕ) → IsAllowed s b d → Has (proposal s b d) (choices s)
has_choice s b d a = has_of s b d (upto (length s.owners)) (among_upto b (length s.owners) a.bucket) (has_in s b d (upto s.cores) (among_upto d s.cores a.core) (is_allowed s b d a))

-- what is known of the best of a list and one more
at_least : (p q : Proposal) (o : Option Proposal) (n : ℕ) → ahead p o ≡ Some q → ((p.gain ≡ n) ⊎ ((r : Proposal) → o ≡ Some r → n ≤ r.gain)) → (o ≡ None → p.gain ≡ n) → n ≤ q.gain
at_least p q None n e h none = let f : p ≡ q = cc in let g = ap (λ (x : Proposal). x.gain) f in let k = none refl in omega arith
at_least p q (Some r) n e h none = ⊎_elim
    (λ (t : nat_le r.gain p.gain ≡ true). let f : Some p ≡ Some q = subst (λ (t : Bool). (if t then Some p else Some r) ≡ Some q) t e in let g : p ≡ q = cc in let k = ap (λ (x : Proposal). x.gain) g in let l : r.gain ≤ p.gain = grind (arith, nat_tests) in
    ⊎_elim (λ (x : p.gain ≡ n). omega arith) (λ (x : (y : Proposal) → Some r ≡ Some y → n ≤ y.gain). let z = x r refl in omega arith) h)
    (λ (t : nat_le r.gain p.gain ≡ false). let f : Some r ≡ Some q = subst (λ (t : Bool). (if t then Some p else Some r) ≡ Some q) t e in let g : r ≡ q = cc in let k = ap (λ (x : Proposal). x.gain) g in let l : p.gain < r.gain = grind (arith, nat_tests) in
    ⊎_elim (λ (x : p.gain ≡ n). omega arith) (λ (x : (y : Proposal) → Some r ≡ Some y → n ≤ y.gain). let z = x r refl in omega arith) h)
    (cases_Bool (nat_le r.gain p.gain))

not_none : (p : Proposal) (o : Option Proposal) → ahead p o ≡ None → ⊥
not_none p None e = cc
not_none p (Some r) e = ⊎_elim
    (λ (t : nat_le r.gain p.gain ≡ true). let f : Some p ≡ None = subst (λ (t : Bool). (if t then Some p else Some r) ≡ None) t e in cc)
    (λ (t : nat_le r.gain p.gain ≡ false). let f : Some r ≡ None = subst (λ (t : Bool). (if t then Some p else Some r) ≡ None) t e in cc)
    (cases_Bool (nat_le r.gain p.gain))

none_only : (p : Proposal) (ps : List Proposal) → greatest ps ≡ None → Has p ps → ⊥
unfolding Has
none_only p [] e h = h
none_only p (q ∷ ps) e h = not_none q (greatest ps) e

greatest_of : (p q : Proposal) (ps : List Proposal) → greatest ps ≡ Some q → Has p ps → p.gain ≤ q.gain
unfolding Has
greatest_of p q [] e h = absurd h
greatest_of p q (x ∷ ps) e h = at_least x q (greatest ps) p.gain e
    (⊎_elim (λ (f : x ≡ p). inl (ap (λ (y : Proposal). y.gain) f)) (λ (g : Has p ps). inr (λ r k. greatest_of p r ps k g)) h)
    (λ k. ⊎_elim (λ (f : x ≡ p). ap (λ (y : Proposal). y.gain) f) (λ (g : Has p ps). absurd (none_only p ps k g)) h)

-- the proposal that is made gains the most, and none is made only where no pair is allowed
pub best_gain : (s : RoundState) (p : Proposal) (b d : ℕ) → greatest (choices s) ≡ Some p → IsAllowed s b d → gain s b d ≤ p.gain
best_gain s p b d e a = greatest_of (proposal s b d) p (choices s) e (has_choice s b d a)

pub none_allowed : (s : RoundState) (b d : ℕ) → greatest (choices s) ≡ None → IsAllowed s b d → ⊥
none_allowed s b d e a = none_only (proposal s b d) (choices s) e (has_choice s b d a)
