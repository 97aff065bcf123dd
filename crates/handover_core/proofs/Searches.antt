-- A search through the numbers below one, one by one.
use Rattle.std.proofs.Common.{◌≡◌, ℕ, zero, suc, ◌+◌, ◌<◌, ◌≤◌, List, [], ◌∷◌, ◌++◌, append_assoc, map, Bool, true, false, refl, sym, ap, ◌∙◌, subst, ⊎_elim, Some, None, arith, add-one}
use Rattle.std.proofs.lemmas.Bool.{cases_lt}
use Rattle.std.proofs.lemmas.List.{append-nil}
use Rattle.std.specs.Prelude.{find, flat_map, Option, cond}
use Rattle.indirection.specs.Tries.{upto}

either : {A : Type 0} (t : Bool) (x e : A) (xs ys : Option A) → cond t (Some x) xs ≡ Some e → (xs ≡ Some e → ys ≡ Some e) → cond t (Some x) ys ≡ Some e
either true x e xs ys f g = f
either false x e xs ys f g = g f

neither : {A : Type 0} (t : Bool) (x : A) (xs ys zs : Option A) → cond t (Some x) xs ≡ None → (xs ≡ None → ys ≡ zs) → cond t (Some x) ys ≡ zs
neither true x xs ys zs f g = absurd (cc)
neither false x xs ys zs f g = g f

-- what is found in two lists
pub find-first : {A : Type 0} (p : A → Bool) (xs ys : List A) (e : A) → find p xs ≡ Some e → find p (xs ++ ys) ≡ Some e
find-first p [] ys e f = absurd (cc)
find-first p (x ∷ xs) ys e f = either (p x) x e (find p xs) (find p (xs ++ ys)) f (λ g. find-first p xs ys e g)

pub find-second : {A : Type 0} (p : A → Bool) (xs ys : List A) → find p xs ≡ None → find p (xs ++ ys) ≡ find p ys
find-second p [] ys f = refl
find-second p (x ∷ xs) ys f = neither (p x) x (find p xs) (find p (xs ++ ys)) (find p ys) f (λ g. find-second p xs ys g)

flat-push : {A : Type 0} (f : ℕ → List A) (xs : List ℕ) (n : ℕ) → flat_map f (xs ++ n ∷ []) ≡ flat_map f xs ++ f n
flat-push f [] n = append-nil (f n)
flat-push f (x ∷ xs) n = ap (λ (z : List _). f x ++ z) (flat-push f xs n) ∙ sym (append_assoc (f x) (flat_map f xs) (f n))

flat-more : {A : Type 0} (f : ℕ → List A) (n : ℕ) → flat_map f (upto (n + 1)) ≡ flat_map f (upto n) ++ f n
flat-more f n = ap (λ (k : ℕ). flat_map f (upto k)) (add-one n) ∙ flat-push f (upto n) n

-- nothing so far
pub none-more : {A : Type 0} (p : A → Bool) (f : ℕ → List A) (i : ℕ) → find p (flat_map f (upto i)) ≡ None → find p (f i) ≡ None → find p (flat_map f (upto (i + 1))) ≡ None
none-more p f i e g = ap (find p) (flat-more f i) ∙ (find-second p (flat_map f (upto i)) (f i) e ∙ g)

-- found at one, and nothing before it
pub some-here : {A : Type 0} (p : A → Bool) (f : ℕ → List A) (i n : ℕ) (x : A) → i < n → find p (flat_map f (upto i)) ≡ None → find p (f i) ≡ Some x → find p (flat_map f (upto n)) ≡ Some x
some-here p f i zero x l e g = absurd (omega arith)
some-here p f i (suc n) x l e g = ap (find p) (flat-push f (upto n) n) ∙ ⊎_elim
    (λ (h : i < n). find-first p (flat_map f (upto n)) (f n) x (some-here p f i n x h e g))
    (λ (h : n ≤ i). let k : i ≡ n = omega arith in find-second p (flat_map f (upto n)) (f n) (subst (λ (z : ℕ). find p (flat_map f (upto z)) ≡ None) k e) ∙ subst (λ (z : ℕ). find p (f z) ≡ Some x) k g)
    (cases_lt i n)

-- the same for one value each
singles : {A : Type 0} (f : ℕ → A) (xs : List ℕ) → map f xs ≡ flat_map (λ i. f i ∷ []) xs
singles f [] = refl
singles f (x ∷ xs) = ap (λ (z : List _). f x ∷ z) (singles f xs)

one-none : {A : Type 0} (t : Bool) (x : A) → t ≡ false → cond t (Some x) None ≡ None
one-none true x e = absurd (cc)
one-none false x e = refl

one-some : {A : Type 0} (t : Bool) (x : A) → t ≡ true → cond t (Some x) None ≡ Some x
one-some true x e = refl
one-some false x e = absurd (cc)

pub none-next : {A : Type 0} (p : A → Bool) (f : ℕ → A) (i : ℕ) → find p (map f (upto i)) ≡ None → p (f i) ≡ false → find p (map f (upto (i + 1))) ≡ None
none-next p f i e g = ap (find p) (singles f (upto (i + 1))) ∙ none-more p (λ i. f i ∷ []) i (ap (find p) (sym (singles f (upto i))) ∙ e) (one-none (p (f i)) (f i) g)

pub some-next : {A : Type 0} (p : A → Bool) (f : ℕ → A) (i n : ℕ) → i < n → find p (map f (upto i)) ≡ None → p (f i) ≡ true → find p (map f (upto n)) ≡ Some (f i)
some-next p f i n l e g = ap (find p) (singles f (upto n)) ∙ some-here p (λ i. f i ∷ []) i n (f i) l (ap (find p) (sym (singles f (upto i))) ∙ e) (one-some (p (f i)) (f i) g)

pub not-some : {A : Type 0} (o : Option A) → ((x : A) → o ≡ Some x → ⊥) → o ≡ None
not-some None f = refl
not-some (Some x) f = absurd (f x refl)

-- a search through one value and four lists
pub found-one : {A : Type 0} (p : A → Bool) (x : A) (xs : List A) → p x ≡ false → find p (x ∷ xs) ≡ find p xs
found-one p x xs e = skip (p x) e where
  skip : (t : Bool) → t ≡ false → cond t (Some x) (find p xs) ≡ find p xs
  skip true e = absurd (cc)
  skip false e = refl
