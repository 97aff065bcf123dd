-- What it says that nothing is found in a list of events.
use Rattle.std.proofs.Common.{◌≡◌, ℕ, zero, suc, ◌<◌, ◌≤◌, List, [], ◌∷◌, ◌++◌, append_assoc, map, Bool, true, false, refl, sym, ◌∙◌, subst, ⊎_elim, Some, None, arith}
use Rattle.std.proofs.lemmas.Bool.{cases_lt}
use Rattle.std.proofs.lemmas.List.{map-append, append-nil}
use Rattle.std.specs.Prelude.{find, flat_map, Option, cond}
use Rattle.indirection.specs.Tries.{upto}

-- a fact of each element
abbrev pub Each_of : {A : Type 0} → (A → Type 0) → List A → Type 0
Each_of P [] = Unit {0}
Each_of P (x ∷ xs) = P x × Each_of P xs

-- no element passes
abbrev pub NoneOf : {A : Type 0} → (A → Bool) → List A → Type 0
NoneOf p xs = Each_of (λ x. p x ≡ false) xs

by_cond : {A : Type 0} (t : Bool) (x : A) (rest : Option A) → (t ≡ true → cond t (Some x) rest ≡ Some x) × (t ≡ false → cond t (Some x) rest ≡ rest)
by_cond true x rest = (λ _. refl, λ e. absurd (cc))
by_cond false x rest = (λ e. absurd (cc), λ _. refl)

by_bool : {P : Type 0} (t : Bool) → (t ≡ true → P) → (t ≡ false → P) → P
by_bool true f g = f refl
by_bool false f g = g refl

pub none-find : {A : Type 0} (p : A → Bool) (xs : List A) → find p xs ≡ None → NoneOf p xs
none-find p [] e = tt
none-find p (x ∷ xs) e = by_bool (p x)
    (λ t. let f = (by_cond (p x) x (find p xs)).0 t in absurd (cc))
    (λ t. let f = (by_cond (p x) x (find p xs)).1 t in (t, none-find p xs (sym f ∙ e)))

pub find-none : {A : Type 0} (p : A → Bool) (xs : List A) → NoneOf p xs → find p xs ≡ None
find-none p [] n = refl
find-none p (x ∷ xs) n = (by_cond (p x) x (find p xs)).1 n.0 ∙ find-none p xs n.1

-- what is found passes, and is one of the list
pub find-some : {A : Type 0} (p : A → Bool) (P : A → Type 0) (xs : List A) (y : A) → find p xs ≡ Some y → Each_of P xs → (p y ≡ true) × P y
find-some p P [] y e a = absurd (cc)
find-some {A} p P (x ∷ xs) y e a = by_bool (p x)
    (λ t. let f = (by_cond (p x) x (find p xs)).0 t in let i : x ≡ y = cc in (subst (λ (z : A). p z ≡ true) i t, subst P i a.0))
    (λ t. let f = (by_cond (p x) x (find p xs)).1 t in find-some p P xs y (sym f ∙ e) a.1)

pub each-append : {A : Type 0} (P : A → Type 0) (xs ys : List A) → Each_of P xs → Each_of P ys → Each_of P (xs ++ ys)
each-append P [] ys a b = b
each-append P (x ∷ xs) ys a b = (a.0, each-append P xs ys a.1 b)

pub each-left : {A : Type 0} (P : A → Type 0) (xs ys : List A) → Each_of P (xs ++ ys) → Each_of P xs
each-left P [] ys a = tt
each-left P (x ∷ xs) ys a = (a.0, each-left P xs ys a.1)

pub each-right : {A : Type 0} (P : A → Type 0) (xs ys : List A) → Each_of P (xs ++ ys) → Each_of P ys
each-right P [] ys a = a
each-right P (x ∷ xs) ys a = each-right P xs ys a.1

-- over the numbers below one
pub each-upto : {A : Type 0} (P : A → Type 0) (f : ℕ → A) (n : ℕ) → ((i : ℕ) → i < n → P (f i)) → Each_of P (map f (upto n))
each-upto P f zero h = tt
each-upto {A} P f (suc n) h = subst (Each_of P) (sym (map-append f (upto n) (n ∷ []))) (each-append P (map f (upto n)) (f n ∷ []) (each-upto P f n (λ i l. h i (omega arith))) (h n (omega arith), tt))

pub each-at : {A : Type 0} (P : A → Type 0) (f : ℕ → A) (n i : ℕ) → i < n → Each_of P (map f (upto n)) → P (f i)
each-at P f zero i l a = absurd (omega arith)
each-at {A} P f (suc n) i l a =
    let b = subst (Each_of P) (map-append f (upto n) (n ∷ [])) a in
    ⊎_elim (λ (h : i < n). each-at P f n i h (each-left P (map f (upto n)) (f n ∷ []) b))
    (λ (h : n ≤ i). let e : n ≡ i = omega arith in subst (λ (k : ℕ). P (f k)) e (each-right P (map f (upto n)) (f n ∷ []) b).0) (cases_lt i n)

flat_map-push : {A : Type 0} (f : ℕ → List A) (xs : List ℕ) (x : ℕ) → (Q : List A → Type 0) → Q (flat_map f xs ++ f x) → Q (flat_map f (xs ++ x ∷ []))
flat_map-push f [] x Q h = subst Q (sym (append-nil (f x))) h
flat_map-push f (y ∷ xs) x Q h = flat_map-push f xs x (λ z. Q (f y ++ z)) (subst Q (append_assoc (f y) (flat_map f xs) (f x)) h)

flat_map-pull : {A : Type 0} (f : ℕ → List A) (xs : List ℕ) (x : ℕ) → (Q : List A → Type 0) → Q (flat_map f (xs ++ x ∷ [])) → Q (flat_map f xs ++ f x)
flat_map-pull f [] x Q h = subst Q (append-nil (f x)) h
flat_map-pull f (y ∷ xs) x Q h = subst Q (sym (append_assoc (f y) (flat_map f xs) (f x))) (flat_map-pull f xs x (λ z. Q (f y ++ z)) h)

pub each-flat : {A : Type 0} (P : A → Type 0) (f : ℕ → List A) (n : ℕ) → ((i : ℕ) → i < n → Each_of P (f i)) → Each_of P (flat_map f (upto n))
each-flat P f zero h = tt
each-flat P f (suc n) h = flat_map-push f (upto n) n (Each_of P) (each-append P (flat_map f (upto n)) (f n) (each-flat P f n (λ i l. h i (omega arith))) (h n (omega arith)))

pub each-flat_at : {A : Type 0} (P : A → Type 0) (f : ℕ → List A) (n i : ℕ) → i < n → Each_of P (flat_map f (upto n)) → Each_of P (f i)
each-flat_at P f zero i l a = absurd (omega arith)
each-flat_at P f (suc n) i l a =
    let b = flat_map-pull f (upto n) n (Each_of P) a in
    ⊎_elim (λ (h : i < n). each-flat_at P f n i h (each-left P (flat_map f (upto n)) (f n) b))
    (λ (h : n ≤ i). let e : n ≡ i = omega arith in subst (λ (k : ℕ). Each_of P (f k)) e (each-right P (flat_map f (upto n)) (f n) b)) (cases_lt i n)
