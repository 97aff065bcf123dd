-- Lists in which each element is judged by those before it.
use Rattle.std.proofs.Common.{◌≡◌, List, [], ◌∷◌, ◌++◌, append_assoc, sym, ap, ◌∙◌}
use Rattle.std.proofs.lemmas.List.{append-nil}
use Rattle.indirection.specs.Each.{EachFrom, Each, gather_from}

-- one more element
pub EachFrom-push : {A : Type 0} (Fits : List A → A → Type 0) (before xs : List A) (x : A) → EachFrom Fits before xs → Fits (before ++ xs) x → EachFrom Fits before (xs ++ x ∷ [])
EachFrom-push Fits before [] x e f = (rw append-nil at f, tt)
EachFrom-push Fits before (y ∷ ys) x e f = (e.0, EachFrom-push Fits (before ++ y ∷ []) ys x e.1 (rw append_assoc f))

-- a prefix
pub EachFrom-front : {A : Type 0} (Fits : List A → A → Type 0) (before xs ys : List A) → EachFrom Fits before (xs ++ ys) → EachFrom Fits before xs
EachFrom-front Fits before [] ys e = tt
EachFrom-front Fits before (x ∷ xs) ys e = (e.0, EachFrom-front Fits (before ++ x ∷ []) xs ys e.1)

-- what stands behind a prefix
pub EachFrom-rest : {A : Type 0} (Fits : List A → A → Type 0) (before xs ys : List A) → EachFrom Fits before (xs ++ ys) → EachFrom Fits (before ++ xs) ys
EachFrom-rest Fits before [] ys e = rw append-nil e
EachFrom-rest Fits before (x ∷ xs) ys e = let rec = EachFrom-rest Fits (before ++ x ∷ []) xs ys e.1 in rw append_assoc at rec

-- the element behind a prefix
pub EachFrom-at : {A : Type 0} (Fits : List A → A → Type 0) (before xs : List A) (x : A) (ys : List A) → EachFrom Fits before (xs ++ x ∷ ys) → Fits (before ++ xs) x
EachFrom-at Fits before [] x ys e = rw append-nil e.0
EachFrom-at Fits before (y ∷ xs) x ys e = let rec = EachFrom-at Fits (before ++ y ∷ []) xs x ys e.1 in rw append_assoc at rec

-- what each fitting element keeps holds of the whole
pub EachFrom-keeps : {A : Type 0} (Fits : List A → A → Type 0) (Holds : List A → Type 0) → ((before : List A) (x : A) → Holds before → Fits before x → Holds (before ++ x ∷ [])) → (before xs : List A) → Holds before → EachFrom Fits before xs → Holds (before ++ xs)
EachFrom-keeps Fits Holds more before [] h e = rw append-nil h
EachFrom-keeps Fits Holds more before (x ∷ xs) h e = let rec = EachFrom-keeps Fits Holds more (before ++ x ∷ []) xs (more before x h e.0) e.1 in rw append_assoc at rec

pub Each-keeps : {A : Type 0} (Fits : List A → A → Type 0) (Holds : List A → Type 0) → Holds [] → ((before : List A) (x : A) → Holds before → Fits before x → Holds (before ++ x ∷ [])) → (xs : List A) → Each Fits xs → Holds xs
Each-keeps Fits Holds none more xs e = EachFrom-keeps Fits Holds more [] xs none e

pub gather_from-push : {A B : Type 0} (gives : List A → A → List B) (before xs : List A) (x : A) → gather_from gives before (xs ++ x ∷ []) ≡ gather_from gives before xs ++ gives (before ++ xs) x
gather_from-push {A} {B} gives before [] x = append-nil (gives before x) ∙ ap (λ (w : List A). gives w x) (sym (append-nil before))
gather_from-push {A} {B} gives before (y ∷ ys) x =
    ap (λ (z : List B). gives before y ++ z) (gather_from-push gives (before ++ y ∷ []) ys x ∙ ap (λ (w : List A). gather_from gives (before ++ y ∷ []) ys ++ gives w x) (append_assoc before (y ∷ []) ys))
    ∙ sym (append_assoc (gives before y) (gather_from gives (before ++ y ∷ []) ys) (gives (before ++ (y ∷ ys)) x))
