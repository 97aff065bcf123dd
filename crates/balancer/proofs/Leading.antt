-- The best of some pairs of a bucket and one core.
use Rattle.std.proofs.Common.{◌≡◌, ◌⊎◌, ℕ, ◌+◌, ◌-◌, ◌*◌, ◌/◌, ◌<◌, ◌≤◌, List, length, get_or, sum, Bool, true, false, ◌&&◌, ◌||◌, if◌then◌else◌, ltb, eqb, eq-eqb, ne_eqb, Option, Some, None, refl, sym, ap, ◌∙◌, subst, inl, inr, ⊎_elim, arith}
use Rattle.std.proofs.Math.Nat.{mul-le-mul_left}
use Rattle.std.proofs.lemmas.Bool.{cases_Bool, cases_eq, cases_lt, lt-ltb, le-ltb}
use Rattle.std.proofs.lemmas.Bool.Decides.{nat_tests}
use Rattle.indirection.specs.declared.proposal.Proposal.{Proposal}
use Rattle.balancer.specs.Greedy.{RoundState, IsAllowed, allowed, gain, proposal, load_in, total_load, choices, greatest, IsBest}
use Rattle.balancer.specs.Leading.{is_ahead, leading, is_beyond, IsLeading, IsLeast}
use Rattle.balancer.specs.Ranking.{IsFree, IsFirstFree, IsLastFree}
use Rattle.balancer.specs.Standing.{IsWeighed}
use Rattle.balancer.proofs.Best.{is_allowed, none_allowed}
use Rattle.balancer.proofs.Carried.{carried_at, length_is}
use Rattle.balancer.proofs.Chosen.{allowed_is}
use Rattle.balancer.proofs.Ties.{best_is}

-- two numbers each, by the first and then by the second
pub by_both : (a b c e : ℕ) → (((ltb a b || (eqb a b && ltb c e)) ≡ true) × ((a < b) ⊎ ((a ≡ b) × (c < e)))) ⊎ (((ltb a b || (eqb a b && ltb c e)) ≡ false) × ((b < a) ⊎ ((b ≡ a) × (e ≤ c))))
by_both a b c e = ⊎_elim
    (λ (l : a < b). inl (ap (λ (t : Bool). t || (eqb a b && ltb c e)) (lt-ltb a b l), inl l))
    (λ (far : b ≤ a). let rest : (ltb a b || (eqb a b && ltb c e)) ≡ (eqb a b && ltb c e) = ap (λ (t : Bool). t || (eqb a b && ltb c e)) (le-ltb a b far) in ⊎_elim
    (λ (q : a ≡ b). let last : (ltb a b || (eqb a b && ltb c e)) ≡ ltb c e = rest ∙ ap (λ (t : Bool). t && ltb c e) (eq-eqb a b q) in ⊎_elim
    (λ (l : c < e). inl (last ∙ lt-ltb c e l, inr (q, l)))
    (λ (l : e ≤ c). inr (last ∙ le-ltb c e l, inr (sym q, l))) (cases_lt c e))
    (λ (ne : a ≡ b → ⊥). inr (rest ∙ ap (λ (t : Bool). t && ltb c e) (ne_eqb a b ne), inl (⊎_elim (λ (l : b < a). l) (λ (l : a ≤ b). absurd (ne (omega arith))) (cases_lt b a)))) (cases_eq a b))
    (cases_lt a b)

-- no bucket gains more than the first, or as much with a lower number
behind : (g b pg pb qg qb : ℕ) → (g < pg) ⊎ ((g ≡ pg) × (pb ≤ b)) → (pg < qg) ⊎ ((pg ≡ qg) × (qb ≤ pb)) → (g < qg) ⊎ ((g ≡ qg) × (qb ≤ b))
behind g b pg pb qg qb h k = ⊎_elim
    (λ (l : g < pg). ⊎_elim (λ (m : pg < qg). inl (omega arith)) (λ (m : (pg ≡ qg) × (qb ≤ pb)). let x = m.0 in inl (omega arith)) k)
    (λ (l : (g ≡ pg) × (pb ≤ b)). let x = l.0 in let y = l.1 in ⊎_elim (λ (m : pg < qg). inl (omega arith)) (λ (m : (pg ≡ qg) × (qb ≤ pb)). let u = m.0 in let v = m.1 in inr (omega arith, omega arith)) k) h

pub IsLeading-leading : (s : RoundState) (d : ℕ) (Q R : ℕ → Type 0) (o r : Option Proposal) → IsLeading s d Q o → IsLeading s d R r → IsLeading s d (λ b. Q b ⊎ R b) (leading o r)
IsLeading-leading s d Q R None None l m = λ b h a. ⊎_elim (λ (x : Q b). l b x a) (λ (x : R b). m b x a) h
IsLeading-leading s d Q R None (Some q) l m = (m.0, m.1, λ b h a. ⊎_elim (λ (x : Q b). absurd (l b x a)) (λ (x : R b). m.2 b x a) h)
IsLeading-leading s d Q R (Some p) None l m = (l.0, l.1, λ b h a. ⊎_elim (λ (x : Q b). l.2 b x a) (λ (x : R b). absurd (m b x a)) h)
IsLeading-leading s d Q R (Some p) (Some q) l m = ⊎_elim
    (λ (t : (is_ahead p q ≡ true) × ((p.gain < q.gain) ⊎ ((p.gain ≡ q.gain) × (q.bucket < p.bucket)))).
    subst (λ (x : Bool). IsLeading s d (λ b. Q b ⊎ R b) (if x then Some q else Some p)) (sym t.0)
    (m.0, m.1, λ b h a. ⊎_elim (λ (x : Q b). behind (gain s b d) b p.gain p.bucket q.gain q.bucket (l.2 b x a) (weaker t.1)) (λ (x : R b). m.2 b x a) h))
    (λ (t : (is_ahead p q ≡ false) × ((q.gain < p.gain) ⊎ ((q.gain ≡ p.gain) × (p.bucket ≤ q.bucket)))).
    subst (λ (x : Bool). IsLeading s d (λ b. Q b ⊎ R b) (if x then Some q else Some p)) (sym t.0)
    (l.0, l.1, λ b h a. ⊎_elim (λ (x : Q b). l.2 b x a) (λ (x : R b). behind (gain s b d) b q.gain q.bucket p.gain p.bucket (m.2 b x a) t.1) h))
    (by_both p.gain q.gain q.bucket p.bucket) where
      weaker : (p.gain < q.gain) ⊎ ((p.gain ≡ q.gain) × (q.bucket < p.bucket)) → (p.gain < q.gain) ⊎ ((p.gain ≡ q.gain) × (q.bucket ≤ p.bucket))
      weaker h = ⊎_elim (λ (x : p.gain < q.gain). inl x) (λ (x : (p.gain ≡ q.gain) × (q.bucket < p.bucket)). let y = x.1 in inr (x.0, omega arith)) h

pub IsLeading-where : (s : RoundState) (d : ℕ) (Q R : ℕ → Type 0) (o : Option Proposal) → ((b : ℕ) → IsAllowed s b d → R b → Q b) → IsLeading s d Q o → IsLeading s d R o
IsLeading-where s d Q R None f l = λ b h a. l b (f b a h) a
IsLeading-where s d Q R (Some p) f l = (l.0, l.1, λ b h a. l.2 b (f b a h) a)

-- the gain falls above half of the difference, and rises below it

falls : (x e g : ℕ) → 0 < e → e + g ≤ x → (x + e) * g < x * (e + g)
falls x e g h k = let less : g + 1 ≤ x = omega arith in let m = mul-le-mul_left e less in omega arith

pub falls_above : (a x y : ℕ) → a ≤ x + x → x < y → y < a → y * (a - y) < x * (a - x)
falls_above a x y h k l =
    let y_is : x + (y - x) ≡ y = omega arith in let a_is : (y - x) + (a - y) ≡ a - x = omega arith in
    subst (λ (z : ℕ). z * (a - y) < x * (a - x)) y_is (subst (λ (z : ℕ). (x + (y - x)) * (a - y) < x * z) a_is (falls x (y - x) (a - y) (omega arith) (omega arith)))

rises : (y e g : ℕ) → 0 < e → y + e ≤ g → y * (e + g) < (y + e) * g
rises y e g h k = let less : y + 1 ≤ g = omega arith in let m = mul-le-mul_left e less in omega arith

pub rises_below : (a x y : ℕ) → y < x → x + x ≤ a → y * (a - y) < x * (a - x)
rises_below a x y h k =
    let x_is : y + (x - y) ≡ x = omega arith in let a_is : (x - y) + (a - x) ≡ a - y = omega arith in
    subst (λ (z : ℕ). y * (a - y) < z * (a - x)) x_is (subst (λ (z : ℕ). y * z < (y + (x - y)) * (a - x)) a_is (rises y (x - y) (a - x) (omega arith) (omega arith)))

-- the buckets of one core, and the free one that is nearest to half of the difference

abbrev load_of : RoundState → ℕ → ℕ
load_of s b = get_or s.loads.bucket b 0

free : (s : RoundState) (from to b : ℕ) → get_or s.owners b 0 ≡ from → IsAllowed s b to → IsFree s from b
free s from to b o a = record { bucket = a.bucket; owner = o; once = a.once }

gain_from : (s : RoundState) (from to b : ℕ) → get_or s.owners b 0 ≡ from → gain s b to ≡ load_of s b * (load_in s from - load_in s to - load_of s b)
gain_from s from to b o = ap (λ (x : ℕ). load_of s b * (load_in s x - load_in s to - load_of s b)) o

fits_from : (s : RoundState) (from to b : ℕ) → get_or s.owners b 0 ≡ from → IsAllowed s b to → load_of s b < load_in s from - load_in s to
fits_from s from to b o a = subst (λ (x : ℕ). load_of s b < load_in s x - load_in s to) o a.fits

same_pair : (s : RoundState) (from to b f : ℕ) → get_or s.owners b 0 ≡ from → IsFree s from f → 0 < load_of s f → load_of s f < load_in s from - load_in s to → IsAllowed s b to → IsAllowed s f to
same_pair s from to b f o free some fits a = record {
  bucket = free.bucket;
  owner = subst (λ (x : ℕ). x < s.cores) (o ∙ sym free.owner) a.owner;
  core = a.core;
  above = subst (λ (x : ℕ). total_load s < s.cores * load_in s x) (o ∙ sym free.owner) a.above;
  below = a.below;
  some = some;
  fits = subst (λ (x : ℕ). load_of s f < load_in s x - load_in s to) (sym free.owner) fits;
  once = free.once;
}

chosen : (s : RoundState) (from to f : ℕ) (Q : ℕ → Type 0) (o : Option Proposal) → o ≡ (if allowed s f to then Some (proposal s f to) else None)
    → ((b : ℕ) → Q b → IsAllowed s b to → IsAllowed s f to × ((gain s b to < gain s f to) ⊎ ((gain s b to ≡ gain s f to) × (f ≤ b))))
    → IsLeading s to Q o
chosen s from to f Q o e h = ⊎_elim
    (λ (t : allowed s f to ≡ true). subst (IsLeading s to Q) (sym (e ∙ ap (λ (x : Bool). if x then Some (proposal s f to) else None) t)) (allowed_is s f to t, refl, λ b q a. (h b q a).1))
    (λ (t : allowed s f to ≡ false). subst (IsLeading s to Q) (sym (e ∙ ap (λ (x : Bool). if x then Some (proposal s f to) else None) t))
    (λ b q a. differ (allowed s f to) (is_allowed s f to (h b q a).0) t))
    (cases_Bool (allowed s f to)) where
      differ : (x : Bool) → x ≡ true → x ≡ false → ⊥
      differ true y z = cc
      differ false y z = cc

pub above_leads : (s : RoundState) (from to half f : ℕ) (o : Option Proposal) → load_in s from - load_in s to ≤ half + half → IsFirstFree s from half (Some f) → o ≡ (if allowed s f to then Some (proposal s f to) else None)
    → IsLeading s to (λ b. (get_or s.owners b 0 ≡ from) × (half ≤ get_or s.loads.bucket b 0)) o
above_leads s from to half f o h first e = chosen s from to f (λ b. (get_or s.owners b 0 ≡ from) × (half ≤ load_of s b)) o e (λ b q a.
    let fits = fits_from s from to b q.0 a in let much = q.1 in let enough = first.1 in
    let gb = gain_from s from to b q.0 in let gf = gain_from s from to f first.0.owner in
    ⊎_elim
    (λ (l : load_of s f < load_of s b). (
      same_pair s from to b f q.0 first.0 (omega arith) (omega arith) a,
      inl (let m = falls_above (load_in s from - load_in s to) (load_of s f) (load_of s b) (omega arith) l fits in omega arith),
    ))
    (λ (l : (load_of s f ≡ load_of s b) × (f ≤ b)). let same = l.0 in (
      same_pair s from to b f q.0 first.0 (omega arith) (omega arith) a,
      inr (gb ∙ (ap (λ (x : ℕ). x * (load_in s from - load_in s to - x)) (sym same) ∙ sym gf), l.1),
    ))
    (first.2 b (free s from to b q.0 a) much))

pub above_none : (s : RoundState) (from to half : ℕ) → IsFirstFree s from half None → IsLeading s to (λ b. (get_or s.owners b 0 ≡ from) × (half ≤ get_or s.loads.bucket b 0)) None
above_none s from to half none = λ b q a. let much = q.1 in let little = none b (free s from to b q.0 a) in omega arith

pub below_leads : (s : RoundState) (from to half l f : ℕ) (o : Option Proposal) → half + half ≤ load_in s from - load_in s to + 1 → IsLastFree s from half (Some l) → IsFirstFree s from l (Some f) → o ≡ (if allowed s f to then Some (proposal s f to) else None)
    → IsLeading s to (λ b. (get_or s.owners b 0 ≡ from) × (get_or s.loads.bucket b 0 < half)) o
below_leads s from to half l f o h last first e = chosen s from to f (λ b. (get_or s.owners b 0 ≡ from) × (load_of s b < half)) o e (λ b q a.
    let fits = fits_from s from to b q.0 a in let some = a.some in let low = q.1 in let under = last.1 in
    let gb = gain_from s from to b q.0 in let gf = gain_from s from to f first.0.owner in
    let most = last.2 b (free s from to b q.0 a) low in
    let is = level in (
      same_pair s from to b f q.0 first.0 (omega arith) (omega arith) a,
      ⊎_elim
          (λ (k : load_of s b < l). inl (let m = rises_below (load_in s from - load_in s to) (load_of s f) (load_of s b) (omega arith) (omega arith) in omega arith))
          (λ (k : l ≤ load_of s b). ⊎_elim
          (λ (m : load_of s f < load_of s b). absurd (omega arith))
          (λ (m : (load_of s f ≡ load_of s b) × (f ≤ b)). inr (gb ∙ (ap (λ (x : ℕ). x * (load_in s from - load_in s to - x)) (sym m.0) ∙ sym gf), m.1))
          (first.2 b (free s from to b q.0 a) k))
          (cases_lt (load_of s b) l),
    )) where
      level : load_of s f ≡ l
      level = let g = last.0.0 in let at = last.0.2 in let low = first.1 in ⊎_elim
          (λ (m : load_of s f < load_of s g). omega arith)
          (λ (m : (load_of s f ≡ load_of s g) × (f ≤ g)). m.0 ∙ at)
          (first.2 g last.0.1 (omega arith))

pub below_none : (s : RoundState) (from to half : ℕ) → IsLastFree s from half None → IsLeading s to (λ b. (get_or s.owners b 0 ≡ from) × (get_or s.loads.bucket b 0 < half)) None
below_none s from to half none = λ b q a. let low = q.1 in let much = none b (free s from to b q.0 a) in omega arith

pub not_lost : (s : RoundState) (from half l : ℕ) → IsLastFree s from half (Some l) → IsFirstFree s from l None → ⊥
not_lost s from half l last none = let at = last.0.2 in let low = none last.0.0 last.0.1 in omega arith

-- a core that carries no more than an even share gives no bucket away
pub none_from : (s : RoundState) (carried : List ℕ) → IsWeighed s carried → (from total : ℕ) → total ≡ sum carried → from < length carried → length carried * get_or carried from 0 ≤ total
    → (b d : ℕ) → get_or s.owners b 0 ≡ from → ¬ (IsAllowed s b d)
none_from s carried w from total t near h b d o a =
    let here : from < s.cores = subst (λ (n : ℕ). from < n) (length_is s carried w) near in
    let p : length carried * get_or carried from 0 ≡ s.cores * load_in s from = ap (λ (x : ℕ). x * get_or carried from 0) (length_is s carried w) ∙ ap (λ (x : ℕ). s.cores * x) (carried_at s carried w from here) in
    let q : sum carried ≡ total_load s = ap (λ (z : List ℕ). sum z) w.carried_are in
    let above : total_load s < s.cores * load_in s from = subst (λ (x : ℕ). total_load s < s.cores * load_in s x) o a.above in
    omega arith

pub none_more : (s : RoundState) (carried : List ℕ) → IsWeighed s carried → (from total to : ℕ) (o : Option Proposal) → total ≡ sum carried → from < length carried → length carried * get_or carried from 0 ≤ total
    → IsLeading s to (λ b. get_or s.owners b 0 < from) o → IsLeading s to (λ b. get_or s.owners b 0 < from + 1) o
none_more s carried w from total to o t near h l = IsLeading-where s to (λ b. get_or s.owners b 0 < from) (λ b. get_or s.owners b 0 < from + 1) o
    (λ b a k. ⊎_elim (λ (m : get_or s.owners b 0 < from). m) (λ (m : from ≤ get_or s.owners b 0). absurd (none_from s carried w from total t near h b to (omega arith) a)) (cases_lt (get_or s.owners b 0) from)) l

pub one_more : (s : RoundState) (from to : ℕ) (o r : Option Proposal) → IsLeading s to (λ b. get_or s.owners b 0 < from) o → IsLeading s to (λ b. get_or s.owners b 0 ≡ from) r → IsLeading s to (λ b. get_or s.owners b 0 < from + 1) (leading o r)
one_more s from to o r l m = IsLeading-where s to (λ b. (get_or s.owners b 0 < from) ⊎ (get_or s.owners b 0 ≡ from)) (λ b. get_or s.owners b 0 < from + 1) (leading o r)
    (λ b a h. ⊎_elim (λ (k : get_or s.owners b 0 < from). inl k) (λ (k : from ≤ get_or s.owners b 0). inr (omega arith)) (cases_lt (get_or s.owners b 0) from))
    (IsLeading-leading s to (λ b. get_or s.owners b 0 < from) (λ b. get_or s.owners b 0 ≡ from) o r l m)

-- no load gains more than half of the difference would

square_up : (x e : ℕ) → 4 * (x * (x + e)) ≤ (x + (x + e)) * (x + (x + e))
square_up x e = omega arith

square : (x y : ℕ) → 4 * (x * y) ≤ (x + y) * (x + y)
square x y = ⊎_elim
    (λ (h : x < y). let e : x + (y - x) ≡ y = omega arith in subst (λ (z : ℕ). 4 * (x * z) ≤ (x + z) * (x + z)) e (square_up x (y - x)))
    (λ (h : y ≤ x). let e : y + (x - y) ≡ x = omega arith in let k = subst (λ (z : ℕ). 4 * (y * z) ≤ (y + z) * (y + z)) e (square_up y (x - y)) in omega arith)
    (cases_lt x y)

most_gain : (a x : ℕ) → x < a → 4 * (x * (a - x)) ≤ a * a
most_gain a x h = let e : x + (a - x) ≡ a = omega arith in subst (λ (z : ℕ). 4 * (x * (a - x)) ≤ z * z) e (square x (a - x))

beyond_is : (o : Option Proposal) (apart : ℕ) → is_beyond o apart ≡ true → (p : Proposal) × (o ≡ Some p) × (apart * apart / 4 < p.gain)
beyond_is None apart h = absurd (cc)
beyond_is (Some p) apart h = (p, refl, less (apart * apart / 4) p.gain h) where
  less : (a b : ℕ) → ltb a b ≡ true → a < b
  less a b h = grind (arith, nat_tests)

pub beaten : (s : RoundState) (carried : List ℕ) → IsWeighed s carried → (from to apart : ℕ) (o : Option Proposal) → from < length carried → to < length carried → apart ≡ get_or carried from 0 - get_or carried to 0
    → is_beyond o apart ≡ true → IsLeading s to (λ b. get_or s.owners b 0 < from) o → IsLeading s to (λ b. get_or s.owners b 0 < from + 1) o
beaten s carried w from to apart o near near' is t l = subst (λ (o : Option Proposal). IsLeading s to (λ b. get_or s.owners b 0 < from + 1) o) (sym one.1) (kept (subst (λ (o : Option Proposal). IsLeading s to (λ b. get_or s.owners b 0 < from) o) one.1 l)) where
  one : (p : Proposal) × (o ≡ Some p) × (apart * apart / 4 < p.gain)
  one = beyond_is o apart t

  p : Proposal
  p = one.0

  h : apart * apart / 4 < p.gain
  h = one.2

  apart_is : apart ≡ load_in s from - load_in s to
  apart_is = let f = carried_at s carried w from (subst (λ (n : ℕ). from < n) (length_is s carried w) near) in let t = carried_at s carried w to (subst (λ (n : ℕ). to < n) (length_is s carried w) near') in omega (arith, f, t, is)

  kept : IsLeading s to (λ b. get_or s.owners b 0 < from) (Some p) → IsLeading s to (λ b. get_or s.owners b 0 < from + 1) (Some p)
  kept m = (
    m.0,
    m.1,
    λ b k a. ⊎_elim
        (λ (x : get_or s.owners b 0 < from). m.2 b x a)
        (λ (x : from ≤ get_or s.owners b 0). let o_is : get_or s.owners b 0 ≡ from = omega arith in
        let fits = subst (λ (z : ℕ). load_of s b < z) (sym apart_is) (fits_from s from to b o_is a) in
        let most = most_gain apart (load_of s b) fits in
        let g : gain s b to ≡ load_of s b * (apart - load_of s b) = gain_from s from to b o_is ∙ ap (λ (z : ℕ). load_of s b * (z - load_of s b)) (sym apart_is) in
        inl (omega (arith, most, g, h)))
        (cases_lt (get_or s.owners b 0) from),
  )

-- the lowest core that carries the least

is_greatest : (s : RoundState) (p : Proposal) → IsBest s p → greatest (choices s) ≡ Some p
is_greatest s p best = of (greatest (choices s)) refl where
  same : (q : Proposal) → IsBest s q → q ≡ p
  same q other =
      let gp = ap (λ (r : Proposal). r.gain) best.is in let gq = ap (λ (r : Proposal). r.gain) other.is in
      let x = best.best q.bucket q.to other.allowed in let y = other.best p.bucket p.to best.allowed in
      let u = best.first q.bucket q.to other.allowed (omega arith) in let v = other.first p.bucket p.to best.allowed (omega arith) in
      let e = at_once u v in
      other.is ∙ (ap (λ (b : ℕ). proposal s b q.to) e.0 ∙ (ap (λ (d : ℕ). proposal s p.bucket d) e.1 ∙ sym best.is)) where
        at_once : (p.bucket < q.bucket) ⊎ ((p.bucket ≡ q.bucket) × (p.to ≤ q.to)) → (q.bucket < p.bucket) ⊎ ((q.bucket ≡ p.bucket) × (q.to ≤ p.to)) → (q.bucket ≡ p.bucket) × (q.to ≡ p.to)
        at_once u v = ⊎_elim
            (λ (a : p.bucket < q.bucket). ⊎_elim (λ (b : q.bucket < p.bucket). absurd (omega arith)) (λ (b : (q.bucket ≡ p.bucket) × (q.to ≤ p.to)). let z = b.0 in absurd (omega arith)) v)
            (λ (a : (p.bucket ≡ q.bucket) × (p.to ≤ q.to)). let w = a.0 in let z = a.1 in ⊎_elim (λ (b : q.bucket < p.bucket). absurd (omega arith)) (λ (b : (q.bucket ≡ p.bucket) × (q.to ≤ p.to)). let t = b.1 in (b.0, omega arith)) v) u

  of : (o : Option Proposal) → greatest (choices s) ≡ o → greatest (choices s) ≡ Some p
  of None e = absurd (none_allowed s p.bucket p.to e best.allowed)
  of (Some q) e = e ∙ ap (λ (r : Proposal). Some r) (same q (best_is s q e))

pub none_greatest : (s : RoundState) → ((b d : ℕ) → ¬ (IsAllowed s b d)) → greatest (choices s) ≡ None
none_greatest s h = of (greatest (choices s)) refl where
  of : (o : Option Proposal) → greatest (choices s) ≡ o → greatest (choices s) ≡ None
  of None e = e
  of (Some q) e = absurd (h q.bucket q.to (best_is s q e).allowed)

pub least-lower : (carried : List ℕ) (n core : ℕ) → IsLeast carried n core → get_or carried n 0 < get_or carried core 0 → IsLeast carried (n + 1) n
least-lower carried n core is h = record {
  inside = omega arith;
  least = λ c l. ⊎_elim (λ (k : c < n). let m = is.least c k in omega arith) (λ (k : n ≤ c). let e : n ≡ c = omega arith in let f = ap (λ (x : ℕ). get_or carried x 0) e in omega arith) (cases_lt c n);
  lowest = λ c l e. ⊎_elim (λ (k : c < n). let m = is.least c k in absurd (omega arith)) (λ (k : n ≤ c). k) (cases_lt c n);
}

pub least-kept : (carried : List ℕ) (n core : ℕ) → IsLeast carried n core → get_or carried core 0 ≤ get_or carried n 0 → IsLeast carried (n + 1) core
least-kept carried n core is h = let near = is.inside in record {
  inside = omega arith;
  least = λ c l. ⊎_elim (λ (k : c < n). is.least c k) (λ (k : n ≤ c). let e : n ≡ c = omega arith in let f = ap (λ (x : ℕ). get_or carried x 0) e in omega arith) (cases_lt c n);
  lowest = λ c l e. ⊎_elim (λ (k : c < n). is.lowest c k e) (λ (k : n ≤ c). omega arith) (cases_lt c n);
}

pub least-first : (carried : List ℕ) → IsLeast carried 1 0
least-first carried = record {
  inside = omega arith;
  least = λ c l. let e : 0 ≡ c = omega arith in let f = ap (λ (x : ℕ). get_or carried x 0) e in omega arith;
  lowest = λ c l e. omega arith;
}

-- each bucket that may go to a core may go to the one that carries the least, and gains no less
to_least : (s : RoundState) (carried : List ℕ) → IsWeighed s carried → (d : ℕ) → IsLeast carried (length carried) d → (b c : ℕ) → IsAllowed s b c
    → IsAllowed s b d × (gain s b c ≤ gain s b d) × (gain s b c ≡ gain s b d → d ≤ c)
to_least s carried w d is b c a =
    let long = length_is s carried w in
    let core : c < length carried = subst (λ (n : ℕ). c < n) (sym long) a.core in
    let here : d < s.cores = subst (λ (n : ℕ). d < n) long is.inside in
    let dc = carried_at s carried w d here in let cc_ = carried_at s carried w c a.core in
    let less : load_in s d ≤ load_in s c = let l = is.least c core in omega arith in
    let below = a.below in let fits = a.fits in let some = a.some in
    let products = mul-le-mul_left s.cores less in
    let gains : load_in s (get_or s.owners b 0) - load_in s c - load_of s b ≤ load_in s (get_or s.owners b 0) - load_in s d - load_of s b = omega arith in (
      record { bucket = a.bucket; owner = a.owner; core = here; above = a.above; below = omega arith; some = a.some; fits = omega arith; once = a.once },
      mul-le-mul_left (load_of s b) gains,
      λ e. ⊎_elim
          (λ (l : load_in s d < load_in s c). let more : load_in s (get_or s.owners b 0) - load_in s c - load_of s b + 1 ≤ load_in s (get_or s.owners b 0) - load_in s d - load_of s b = omega arith in
          let m = mul-le-mul_left (load_of s b) more in absurd (omega arith))
          (λ (l : load_in s c ≤ load_in s d). is.lowest c core (omega arith))
          (cases_lt (load_in s d) (load_in s c)),
    )

pub least_leads : (s : RoundState) (carried : List ℕ) → IsWeighed s carried → (d : ℕ) → IsLeast carried (length carried) d → (o : Option Proposal) → IsLeading s d (λ b. get_or s.owners b 0 < s.cores) o → o ≡ greatest (choices s)
least_leads s carried w d is None l = sym (none_greatest s (λ b c a. l b a.owner (to_least s carried w d is b c a).0))
least_leads s carried w d is (Some p) l = sym (is_greatest s p (record {
  allowed = subst (λ (x : ℕ). IsAllowed s p.bucket x) (sym to) l.0;
  is = subst (λ (x : ℕ). p ≡ proposal s p.bucket x) (sym to) l.1;
  best = λ b c a. let t = to_least s carried w d is b c a in let u = t.1 in ⊎_elim
      (λ (x : gain s b d < p.gain). omega arith)
      (λ (x : (gain s b d ≡ p.gain) × (p.bucket ≤ b)). let y = x.0 in omega arith)
      (l.2 b a.owner t.0);
  first = λ b c a e. let t = to_least s carried w d is b c a in let u = t.1 in ⊎_elim
      (λ (x : gain s b d < p.gain). absurd (omega arith))
      (λ (x : (gain s b d ≡ p.gain) × (p.bucket ≤ b)). let y = x.1 in ⊎_elim
      (λ (z : p.bucket < b). inl z)
      (λ (z : b ≤ p.bucket). inr (omega arith, let v = t.2 (e ∙ sym x.0) in omega (arith, to, v)))
      (cases_lt p.bucket b))
      (l.2 b a.owner t.0);
})) where
  to : p.to ≡ d
  to = ap (λ (q : Proposal). q.to) l.1
