-- The proposals of a greedy round are allowed pairs.
use Rattle.std.proofs.Common.{◌≡◌, ℕ, suc, zero, ◌+◌, ◌-◌, ◌*◌, ◌<◌, ◌≤◌, List, [], ◌∷◌, ◌++◌, map, length, get_or, set, Bool, true, false, ◌&&◌, not, if◌then◌else◌, ltb, cond, Option, Some, None, refl, sym, subst, ⊎_elim, arith}
use Rattle.std.specs.Prelude.{filter, flat_map, nat_le}
use Rattle.std.proofs.lemmas.Bool.{cases_Bool}
use Rattle.std.proofs.lemmas.Bool.Decides.{nat_tests}
use Rattle.indirection.specs.declared.proposal.Proposal.{Proposal}
use Rattle.indirection.specs.Tries.{upto}
use Rattle.balancer.specs.Imbalance.{imbalance, core_loads}
use Rattle.balancer.specs.Greedy.{RoundState, IsAllowed, may_leave, may_take, allowed, proposal, load_in, choices, choices_of, greatest, ahead, moved, led, greedy, Lowers}
use Rattle.balancer.proofs.Falls.{imbalance-allowed}

-- what `allowed` says
both : (x y : Bool) → (x && y) ≡ true → (x ≡ true) × (y ≡ true)
both true y h = (refl, h)
both false y h = absurd (cc)

not_true : (x : Bool) → not x ≡ true → x ≡ false
not_true true h = absurd (cc)
not_true false h = refl

less : (a b : ℕ) → ltb a b ≡ true → a < b
less a b h = grind (arith, nat_tests)

pub allowed_is : (s : RoundState) (b d : ℕ) → allowed s b d ≡ true → IsAllowed s b d
allowed_is s b d h =
    let h1 = both (may_leave s b) (may_take s b d) h in let h2 = both _ _ h1.0 in let h3 = both _ _ h2.1 in let h4 = both _ _ h3.1 in let h5 = both _ _ h4.1 in
    let h6 = both _ _ h1.1 in let h7 = both _ _ h6.1 in
    record { bucket = less _ _ h2.0; owner = less _ _ h3.0; core = less _ _ h6.0; above = less _ _ h4.0; below = less _ _ h7.0; some = less _ _ h5.0; fits = less _ _ h7.1; once = not_true _ h5.1 }

-- an allowed pair as it is proposed
Chosen : RoundState → Proposal → Type 0
Chosen s p = (b d : ℕ) × (allowed s b d ≡ true) × (p ≡ proposal s b d)

AllOf : (Proposal → Type 0) → List Proposal → Type 0
AllOf P [] = Unit {0}
AllOf P (p ∷ ps) = P p × AllOf P ps

AllOf-append : (P : Proposal → Type 0) (ps qs : List Proposal) → AllOf P ps → AllOf P qs → AllOf P (ps ++ qs)
unfolding AllOf
AllOf-append P [] qs a b = b
AllOf-append P (p ∷ ps) qs a b = (a.0, AllOf-append P ps qs a.1 b)

chosen_in : (s : RoundState) (b : ℕ) (ds : List ℕ) → AllOf (Chosen s) (map (λ d. proposal s b d) (filter (λ d. allowed s b d) ds))
unfolding AllOf Chosen
chosen_in s b [] = tt
chosen_in s b (d ∷ ds) = ⊎_elim
    (λ (h : allowed s b d ≡ true). subst (λ (t : Bool). AllOf (Chosen s) (map (λ d. proposal s b d) (cond t (d ∷ filter (λ d. allowed s b d) ds) (filter (λ d. allowed s b d) ds)))) (sym h) ((b, d, h, refl), chosen_in s b ds))
    (λ (h : allowed s b d ≡ false). subst (λ (t : Bool). AllOf (Chosen s) (map (λ d. proposal s b d) (cond t (d ∷ filter (λ d. allowed s b d) ds) (filter (λ d. allowed s b d) ds)))) (sym h) (chosen_in s b ds))
    (cases_Bool (allowed s b d))

chosen_of : (s : RoundState) (bs : List ℕ) → AllOf (Chosen s) (flat_map (choices_of s) bs)
unfolding AllOf
chosen_of s [] = tt
chosen_of s (b ∷ bs) = AllOf-append (Chosen s) (choices_of s b) (flat_map (choices_of s) bs) (chosen_in s b (upto s.cores)) (chosen_of s bs)

ahead_is : (P : Proposal → Type 0) (p q : Proposal) (o : Option Proposal) → P p → ((r : Proposal) → o ≡ Some r → P r) → ahead p o ≡ Some q → P q
ahead_is P p q None h r e = let f : p ≡ q = cc in subst P f h
ahead_is P p q (Some x) h r e = ⊎_elim
    (λ (t : nat_le x.gain p.gain ≡ true). let f : Some p ≡ Some q = subst (λ (t : Bool). (if t then Some p else Some x) ≡ Some q) t e in let g : p ≡ q = cc in subst P g h)
    (λ (t : nat_le x.gain p.gain ≡ false). let f : Some x ≡ Some q = subst (λ (t : Bool). (if t then Some p else Some x) ≡ Some q) t e in let g : x ≡ q = cc in subst P g (r x refl))
    (cases_Bool (nat_le x.gain p.gain))

greatest_is : (P : Proposal → Type 0) (ps : List Proposal) (q : Proposal) → AllOf P ps → greatest ps ≡ Some q → P q
unfolding AllOf
greatest_is P [] q a e = absurd (cc)
greatest_is P (p ∷ ps) q a e = ahead_is P p q (greatest ps) a.0 (λ r f. greatest_is P ps r a.1 f) e

lowers_one : (s : RoundState) (p : Proposal) → Chosen s p → (imbalance (core_loads s.cores s.loads s.owners) ≡ imbalance (core_loads s.cores s.loads (moved s p).owners) + 2 * (s.cores * s.cores) * p.gain) × (1 ≤ p.gain)
unfolding Chosen
lowers_one s p c = let a = allowed_is s c.0 c.1 c.2 in
    subst (λ (q : Proposal). (imbalance (core_loads s.cores s.loads s.owners) ≡ imbalance (core_loads s.cores s.loads (set s.owners q.bucket q.to)) + 2 * (s.cores * s.cores) * q.gain) × (1 ≤ q.gain)) (sym c.3)
    (imbalance-allowed s c.0 c.1 a, positive (get_or s.loads.bucket c.0 0) (load_in s (get_or s.owners c.0 0) - load_in s c.1) a.some a.fits) where
      positive : (w x : ℕ) → 0 < w → w < x → 1 ≤ w * (x - w)
      positive w x h l = grow w (x - w) h (omega arith) where
        grow : (a b : ℕ) → 0 < a → 0 < b → 1 ≤ a * b
        grow zero b h l = absurd (omega arith)
        grow (suc a) zero h l = absurd (omega arith)
        grow (suc a) (suc b) h l = omega arith

lowers_led : (limit : ℕ) (s : RoundState) (o : Option Proposal) → ((t : RoundState) → Lowers t (greedy limit t)) → ((p : Proposal) → o ≡ Some p → Chosen s p) → Lowers s (led (greedy limit) s o)
lowers_led limit s None rest c = tt
lowers_led limit s (Some p) rest c = let one = lowers_one s p (c p refl) in (one.0, one.1, rest (moved s p))

pub greedy_lowers : (limit : ℕ) (s : RoundState) → Lowers s (greedy limit s)
greedy_lowers zero s = tt
greedy_lowers (suc limit) s = lowers_led limit s (greatest (choices s)) (greedy_lowers limit) (λ p e. greatest_is (Chosen s) (choices s) p (chosen_of s (upto (length s.owners))) e)

pub chosen_is : (s : RoundState) (p : Proposal) → greatest (choices s) ≡ Some p → (b d : ℕ) × (allowed s b d ≡ true) × (p ≡ proposal s b d)
unfolding Chosen
chosen_is s p e = greatest_is (Chosen s) (choices s) p (chosen_of s (upto (length s.owners))) e
