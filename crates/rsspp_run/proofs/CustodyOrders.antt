-- An ordered list is the rising one that has each entry as often.
use Rattle.std.proofs.Common.{◌≡◌, ℕ, ◌+◌, ◌<◌, if◌then◌else◌, Bool, true, false, eqb, List, [], ◌∷◌, ◌⊎◌, inl, inr, ⊎_elim, refl, sym, ap, ◌∙◌, subst, arith, eq-eqb, ne_eqb}
use Rattle.std.proofs.lemmas.Bool.{cases_eq}
use Rattle.bucket_table.specs.declared.custody.Custody.{Custody}
use Rattle.rsspp_run.specs.Custody.{Before, AllAre, IsOrdered, IsRising, same_span, same_custody, times}

same_self : (x : Custody) → same_custody x x ≡ true
same_self x = ap (λ (t : Bool). if t then (if eqb x.bucket x.bucket then (if eqb x.from x.from then eqb x.to x.to else false) else false) else false) (eq-eqb x.core x.core refl)
    ∙ (ap (λ (t : Bool). if t then (if eqb x.from x.from then eqb x.to x.to else false) else false) (eq-eqb x.bucket x.bucket refl)
    ∙ (ap (λ (t : Bool). if t then eqb x.to x.to else false) (eq-eqb x.from x.from refl) ∙ eq-eqb x.to x.to refl))

if_none : (t : Bool) → (if t then false else false) ≡ false
if_none true = refl
if_none false = refl

same_or : (x y : Custody) → (x ≡ y) ⊎ (same_custody x y ≡ false)
same_or x y = ⊎_elim (λ (c : y.core ≡ x.core). ⊎_elim (λ (b : y.bucket ≡ x.bucket). ⊎_elim (λ (f : y.from ≡ x.from). ⊎_elim
    (λ (t : y.to ≡ x.to). inl (λ i. record { bucket = sym b i; core = sym c i; from = sym f i; to = sym t i }))
    (λ (n : y.to ≡ x.to → ⊥). inr (
    ap (λ (q : Bool). if eqb y.core x.core then (if eqb y.bucket x.bucket then (if eqb y.from x.from then q else false) else false) else false) (ne_eqb y.to x.to n)
    ∙ (ap (λ (q : Bool). if eqb y.core x.core then (if eqb y.bucket x.bucket then q else false) else false) (if_none (eqb y.from x.from))
    ∙ (ap (λ (q : Bool). if eqb y.core x.core then q else false) (if_none (eqb y.bucket x.bucket)) ∙ if_none (eqb y.core x.core))))) (cases_eq y.to x.to))
    (λ (n : y.from ≡ x.from → ⊥). inr (
    ap (λ (q : Bool). if eqb y.core x.core then (if eqb y.bucket x.bucket then (if q then eqb y.to x.to else false) else false) else false) (ne_eqb y.from x.from n)
    ∙ (ap (λ (q : Bool). if eqb y.core x.core then q else false) (if_none (eqb y.bucket x.bucket)) ∙ if_none (eqb y.core x.core)))) (cases_eq y.from x.from))
    (λ (n : y.bucket ≡ x.bucket → ⊥). inr (
    ap (λ (q : Bool). if eqb y.core x.core then (if q then same_span (x.from, x.to) (y.from, y.to) else false) else false) (ne_eqb y.bucket x.bucket n) ∙ if_none (eqb y.core x.core))) (cases_eq y.bucket x.bucket))
    (λ (n : y.core ≡ x.core → ⊥). inr (ap (λ (q : Bool). if q then (if eqb y.bucket x.bucket then same_span (x.from, x.to) (y.from, y.to) else false) else false) (ne_eqb y.core x.core n))) (cases_eq y.core x.core)

-- what stands in a list is as all in it are
occurs : (P : Custody → Type 0) (x : Custody) (ys : List Custody) → AllAre P ys → 0 < times x ys → P x
occurs P x [] all some = absurd (omega arith)
occurs P x (y ∷ ys) all some = ⊎_elim (λ (e : x ≡ y). subst P (sym e) all.0)
    (λ (n : same_custody x y ≡ false). occurs P x ys all.1 (let z = ap {B = ℕ} (λ t. (if t then 1 else 0) + times x ys) n in omega arith)) (same_or x y)

once : (x : Custody) (xs : List Custody) → times x (x ∷ xs) ≡ 1 + times x xs
once x xs = ap {B = ℕ} (λ t. (if t then 1 else 0) + times x xs) (same_self x)

not_self : (x : Custody) → ¬ (Before x x)
not_self x h = ⊎_elim (λ (l : x.bucket < x.bucket). omega arith) (λ (l : (x.bucket ≡ x.bucket) × (x.from < x.from)). let z = l.1 in omega arith) h

pub one_order : (xs ys : List Custody) → IsOrdered xs → IsRising ys → ((x : Custody) → times x xs ≡ times x ys) → xs ≡ ys
one_order [] [] o r h = refl
one_order [] (y ∷ ys) o r h = absurd (let a = h y in let b = once y ys in omega arith)
one_order (x ∷ xs) [] o r h = absurd (let a = h x in let b = once x xs in omega arith)
one_order (x ∷ xs) (y ∷ ys) o r h =
    let e : x ≡ y = ⊎_elim (λ (q : x ≡ y). q)
    (λ (n : same_custody x y ≡ false).
    let a = h x in let b = once x xs in let c = ap {B = ℕ} (λ t. (if t then 1 else 0) + times x ys) n in
    let later : Before y x = occurs (Before y) x ys r.0 (omega arith) in
    ⊎_elim (λ (q : y ≡ x). absurd (not_self x (subst (λ z. Before z x) q later)))
    (λ (m : same_custody y x ≡ false). let d = h y in let f = once y ys in let g = ap {B = ℕ} (λ t. (if t then 1 else 0) + times y xs) m in
    absurd (occurs (λ z. ¬ (Before z x)) y xs o.0 (omega arith) later)) (same_or y x)) (same_or x y) in
    let rest : xs ≡ ys = one_order xs ys o.1 r.1 (λ z. let a = h z in let b = ap {B = ℕ} (λ (w : Custody). (if same_custody z w then 1 else 0) + times z ys) e in omega arith) in
    λ i. e i ∷ rest i
