-- The parts of a choice.
use Rattle.std.proofs.Common.{◌≡◌, ℕ, ◌+◌, ◌-◌, ◌*◌, ◌<◌, ◌≤◌, List, [], ◌∷◌, ◌++◌, map, length, get_or, sum, Bool, true, false, ◌&&◌, ◌||◌, not, if◌then◌else◌, ◌==◌, ltb, cond, Option, Some, None, refl, sym, ap, ◌∙◌, subst, ⊎_elim, arith, add-one}
use Rattle.std.specs.Prelude.{filter, flat_map, nat_le}
use Rattle.std.specs.List.{list_any}
use Rattle.std.proofs.lemmas.Bool.{cases_Bool, le-ltb}
use Rattle.std.proofs.lemmas.Bool.Decides.{nat_tests}
use Rattle.std.proofs.lemmas.List.{map-append, append-nil}
use Rattle.std.proofs.lemmas.List.Elements.{filter-append, All-get_or}
use Rattle.std.proofs.lemmas.Grind.{flat_map-append}
use Rattle.indirection.specs.declared.proposal.Proposal.{Proposal}
use Rattle.indirection.specs.Tries.{upto}
use Rattle.balancer.specs.Better.{better}
use Rattle.balancer.specs.Greedy.{RoundState, total_load, may_leave, may_take, allowed, proposal, choices_of, greatest, ahead, load_in}
use Rattle.balancer.specs.Standing.{IsWeighed}
use Rattle.balancer.proofs.Carried.{carried_at, length_is}

pub less_is : (a b : ℕ) → a < b → ltb a b ≡ true
less_is a b h = grind (arith, nat_tests)

pub and_true : (x y : Bool) → x ≡ true → (x && y) ≡ y
and_true x y h = subst (λ (t : Bool). (t && y) ≡ y) (sym h) refl

pub and_false : (x y : Bool) → x ≡ false → (x && y) ≡ false
and_false x y h = subst (λ (t : Bool). (t && y) ≡ false) (sym h) refl

-- `better` of two lists, one behind the other

ahead-better : (p : Proposal) (o r : Option Proposal) → ahead p (better o r) ≡ better (ahead p o) r
ahead-better p None r = refl
ahead-better p (Some q) None = ⊎_elim
    (λ (t : nat_le q.gain p.gain ≡ true). subst (λ (t : Bool). (if t then Some p else Some q) ≡ better (if t then Some p else Some q) None) (sym t) refl)
    (λ (t : nat_le q.gain p.gain ≡ false). subst (λ (t : Bool). (if t then Some p else Some q) ≡ better (if t then Some p else Some q) None) (sym t) refl)
    (cases_Bool (nat_le q.gain p.gain))
ahead-better p (Some q) (Some r) = by_cases (nat_le q.gain p.gain) (nat_le r.gain q.gain) (nat_le r.gain p.gain) refl refl refl where
  by_cases : (x y z : Bool) → nat_le q.gain p.gain ≡ x → nat_le r.gain q.gain ≡ y → nat_le r.gain p.gain ≡ z → ahead p (if nat_le r.gain q.gain then Some q else Some r) ≡ better (if nat_le q.gain p.gain then Some p else Some q) (Some r)
  by_cases true true true a b c = rw (b, a, c) refl
  by_cases true true false a b c = absurd (grind (arith, nat_tests))
  by_cases true false z a b c = rw (b, a) refl
  by_cases false true z a b c = rw (a, b, a) refl
  by_cases false false true a b c = absurd (grind (arith, nat_tests))
  by_cases false false false a b c = rw (a, b, c) refl

pub greatest-append : (xs ys : List Proposal) → greatest (xs ++ ys) ≡ better (greatest xs) (greatest ys)
greatest-append [] ys = refl
greatest-append (x ∷ xs) ys = ap (ahead x) (greatest-append xs ys) ∙ ahead-better x (greatest xs) (greatest ys)

-- the choices of a bucket among one core more
one_choice : (s : RoundState) (b d : ℕ) → may_leave s b ≡ true → greatest (map (λ d. proposal s b d) (filter (λ d. allowed s b d) (d ∷ []))) ≡ (if may_take s b d then Some (proposal s b d) else None)
one_choice s b d h = ap (λ (t : Bool). greatest (map (λ d. proposal s b d) (cond t (d ∷ []) []))) (and_true (may_leave s b) (may_take s b d) h) ∙ either (may_take s b d) where
  either : (t : Bool) → greatest (map (λ d. proposal s b d) (cond t (d ∷ []) [])) ≡ (if t then Some (proposal s b d) else None)
  either true = refl
  either false = refl

pub best-more_cores : (s : RoundState) (b n : ℕ) (best : Option Proposal) → may_leave s b ≡ true → best ≡ greatest (map (λ d. proposal s b d) (filter (λ d. allowed s b d) (upto n)))
    → better best (if may_take s b n then Some (proposal s b n) else None) ≡ greatest (map (λ d. proposal s b d) (filter (λ d. allowed s b d) (upto (n + 1))))
best-more_cores s b n best h e = rw add-one (sym (
    ap (λ (z : List ℕ). greatest (map (λ d. proposal s b d) z)) (filter-append (λ d. allowed s b d) (upto n) (n ∷ []))
    ∙ (ap greatest (map-append (λ d. proposal s b d) (filter (λ d. allowed s b d) (upto n)) (filter (λ d. allowed s b d) (n ∷ [])))
    ∙ (greatest-append (map (λ d. proposal s b d) (filter (λ d. allowed s b d) (upto n))) (map (λ d. proposal s b d) (filter (λ d. allowed s b d) (n ∷ [])))
    ∙ (ap (λ (o : Option Proposal). better o (greatest (map (λ d. proposal s b d) (filter (λ d. allowed s b d) (n ∷ []))))) (sym e)
    ∙ ap (better best) (one_choice s b n h))))))

-- a bucket that may not leave its core has no choices
pub no_choice : (s : RoundState) (b : ℕ) → may_leave s b ≡ false → (ds : List ℕ) → filter (λ d. allowed s b d) ds ≡ []
no_choice s b h [] = refl
no_choice s b h (d ∷ ds) = ap (λ (t : Bool). cond t (d ∷ filter (λ d. allowed s b d) ds) (filter (λ d. allowed s b d) ds)) (and_false (may_leave s b) (may_take s b d) h) ∙ no_choice s b h ds

pub best-more_buckets : (s : RoundState) (n : ℕ) (best : Option Proposal) → best ≡ greatest (flat_map (choices_of s) (upto n))
    → better best (greatest (choices_of s n)) ≡ greatest (flat_map (choices_of s) (upto (n + 1)))
best-more_buckets s n best e = rw add-one (sym (
    ap greatest (flat_map-append (choices_of s) (upto n) (n ∷ []))
    ∙ (ap (λ (z : List Proposal). greatest (flat_map (choices_of s) (upto n) ++ z)) (append-nil (choices_of s n))
    ∙ (greatest-append (flat_map (choices_of s) (upto n)) (choices_of s n)
    ∙ ap (λ (o : Option Proposal). better o (greatest (choices_of s n))) (sym e)))))

-- the bucket was proposed, by its proposals or by its number
pub any_of : (b : ℕ) (ps : List Proposal) → list_any (λ (p : Proposal). p.bucket == b) ps ≡ list_any (λ x. x == b) (map (λ (p : Proposal). p.bucket) ps)
any_of b [] = refl
any_of b (p ∷ ps) = ap (λ (t : Bool). (p.bucket == b) || t) (any_of b ps)

-- the tests of a weighed round, by what the cores carry

pub owner_at : (s : RoundState) (carried : List ℕ) → IsWeighed s carried → (b : ℕ) → b < length s.owners → get_or s.owners b 0 < s.cores
owner_at s carried w b h = All-get_or (λ o. o < s.cores) s.owners b 0 h w.owners

product_is : (s : RoundState) (carried : List ℕ) → IsWeighed s carried → (c : ℕ) → c < s.cores → length carried * get_or carried c 0 ≡ s.cores * load_in s c
product_is s carried w c h = ap (λ (x : ℕ). x * get_or carried c 0) (length_is s carried w) ∙ ap (λ (x : ℕ). s.cores * x) (carried_at s carried w c h)

total_is : (s : RoundState) (carried : List ℕ) → IsWeighed s carried → sum carried ≡ total_load s
total_is s carried w = ap (λ (z : List ℕ). sum z) w.carried_are

abbrev above : RoundState → ℕ → Bool
above s b = ltb (total_load s) (s.cores * load_in s (get_or s.owners b 0))

opened : (s : RoundState) (carried : List ℕ) → IsWeighed s carried → (b : ℕ) → b < length s.owners → may_leave s b ≡ (above s b && (ltb 0 (get_or s.loads.bucket b 0) && not (list_any (λ x. x == b) s.taken)))
opened s carried w b h = and_true (ltb b (length s.owners)) _ (less_is _ _ h) ∙ and_true (ltb (get_or s.owners b 0) s.cores) _ (less_is _ _ (owner_at s carried w b h))

pub not_above : (s : RoundState) (carried : List ℕ) → IsWeighed s carried → (b total : ℕ) → total ≡ sum carried → b < length s.owners → length carried * get_or carried (get_or s.owners b 0) 0 ≤ total → may_leave s b ≡ false
not_above s carried w b total t h l =
    let p = product_is s carried w (get_or s.owners b 0) (owner_at s carried w b h) in let q = total_is s carried w in
    opened s carried w b h ∙ and_false (above s b) _ (le-ltb (total_load s) (s.cores * load_in s (get_or s.owners b 0)) (subst (λ (x : ℕ). x ≤ total_load s) p (subst (λ (x : ℕ). length carried * get_or carried (get_or s.owners b 0) 0 ≤ x) (t ∙ q) l)))

is_above : (s : RoundState) (carried : List ℕ) → IsWeighed s carried → (b total : ℕ) → total ≡ sum carried → b < length s.owners → total < length carried * get_or carried (get_or s.owners b 0) 0 → above s b ≡ true
is_above s carried w b total t h l =
    let p = product_is s carried w (get_or s.owners b 0) (owner_at s carried w b h) in let q = total_is s carried w in
    less_is (total_load s) (s.cores * load_in s (get_or s.owners b 0)) (subst (λ (x : ℕ). total_load s < x) p (subst (λ (x : ℕ). x < length carried * get_or carried (get_or s.owners b 0) 0) (t ∙ q) l))

pub not_some : (s : RoundState) (carried : List ℕ) → IsWeighed s carried → (b total : ℕ) → total ≡ sum carried → b < length s.owners → total < length carried * get_or carried (get_or s.owners b 0) 0 → get_or s.loads.bucket b 0 ≡ 0 → may_leave s b ≡ false
not_some s carried w b total t h l z = opened s carried w b h ∙ (and_true (above s b) _ (is_above s carried w b total t h l)
    ∙ and_false (ltb 0 (get_or s.loads.bucket b 0)) _ (le-ltb 0 (get_or s.loads.bucket b 0) (omega arith)))

pub leaves_where : (s : RoundState) (carried : List ℕ) → IsWeighed s carried → (b total : ℕ) → total ≡ sum carried → b < length s.owners → total < length carried * get_or carried (get_or s.owners b 0) 0 → 0 < get_or s.loads.bucket b 0 → may_leave s b ≡ not (list_any (λ x. x == b) s.taken)
leaves_where s carried w b total t h l z = opened s carried w b h ∙ (and_true (above s b) _ (is_above s carried w b total t h l)
    ∙ and_true (ltb 0 (get_or s.loads.bucket b 0)) _ (less_is _ _ z))

-- whether a core may take a bucket, by what the cores carry

below_is : (s : RoundState) (carried : List ℕ) → IsWeighed s carried → (d total : ℕ) → total ≡ sum carried → d < length carried → (length carried * get_or carried d 0 ≡ s.cores * load_in s d) × (total ≡ total_load s) × (d < s.cores)
below_is s carried w d total t h = let g : d < s.cores = subst (λ (n : ℕ). d < n) (length_is s carried w) h in (product_is s carried w d g, t ∙ total_is s carried w, g)

pub takes : (s : RoundState) (carried : List ℕ) → IsWeighed s carried → (b d total : ℕ) → total ≡ sum carried → d < length carried → length carried * get_or carried d 0 < total
    → may_take s b d ≡ ltb (get_or s.loads.bucket b 0) (load_in s (get_or s.owners b 0) - load_in s d)
takes s carried w b d total t h l = let e = below_is s carried w d total t h in
    and_true (ltb d s.cores) _ (less_is _ _ e.2) ∙ and_true (ltb (s.cores * load_in s d) (total_load s)) _ (less_is _ _ (subst (λ (x : ℕ). x < total_load s) e.0 (subst (λ (x : ℕ). length carried * get_or carried d 0 < x) e.1 l)))

pub takes_none : (s : RoundState) (carried : List ℕ) → IsWeighed s carried → (b d total : ℕ) → total ≡ sum carried → d < length carried → total ≤ length carried * get_or carried d 0 → may_take s b d ≡ false
takes_none s carried w b d total t h l = let e = below_is s carried w d total t h in
    and_true (ltb d s.cores) _ (less_is _ _ e.2) ∙ and_false (ltb (s.cores * load_in s d) (total_load s)) _ (le-ltb _ _ (subst (λ (x : ℕ). total_load s ≤ x) e.0 (subst (λ (x : ℕ). x ≤ length carried * get_or carried d 0) e.1 l)))

pub no_offer : (s : RoundState) (b d : ℕ) → may_take s b d ≡ false → None ≡ (if may_take s b d then Some (proposal s b d) else None)
no_offer s b d h = sym (ap (λ (t : Bool). if t then Some (proposal s b d) else None) h)

pub offered : (s : RoundState) (b d : ℕ) (p : Proposal) → may_take s b d ≡ true → p ≡ proposal s b d → Some p ≡ (if may_take s b d then Some (proposal s b d) else None)
offered s b d p h e = ap Some e ∙ sym (ap (λ (t : Bool). if t then Some (proposal s b d) else None) h)

-- how far apart the two cores are
pub apart_is : (s : RoundState) (carried : List ℕ) → IsWeighed s carried → (b d : ℕ) → b < length s.owners → d < length carried → get_or carried (get_or s.owners b 0) 0 - get_or carried d 0 ≡ load_in s (get_or s.owners b 0) - load_in s d
apart_is s carried w b d h g = ap (λ (x : ℕ). x - get_or carried d 0) (carried_at s carried w _ (owner_at s carried w b h))
    ∙ ap (λ (x : ℕ). load_in s (get_or s.owners b 0) - x) (carried_at s carried w d (subst (λ (n : ℕ). d < n) (length_is s carried w) g))
