-- The cores' lists after one more item.
use Rattle.std.proofs.Common.{◌≡◌, ◌≢◌, ℕ, List, [], ◌∷◌, ◌++◌, append_assoc, Bool, true, false, if◌then◌else◌, ◌==◌, refl, sym, ap, ◌∙◌, eq-eqb, ne_eqb}
use Rattle.std.proofs.lemmas.List.{append-nil}
use Rattle.indirection.proofs.Tests.{by_test}
use Rattle.indirection.proofs.Each.{EachFrom-push, EachFrom-front, EachFrom-at}
use Rattle.handover_core.specs.declared.item.Kind.{Kind}
use Rattle.handover_core.specs.declared.item.Item.{Item}
use Rattle.handover_core.specs.declared.item.Item.TheVariants.{Of, End}
use Rattle.handover_core.specs.Legal.{Stand, new, stand_by, stand_from, is_open, Follows, Legal}
use Rattle.handover_core.specs.Dispatch.{stream}
use Rattle.handover_core.specs.declared.post.Post.{Post}
use Rattle.handover_core.specs.Stands.{stand_at}

-- a legal list stays legal with one more item that may follow, and so is each prefix of one
pub Legal-push : (xs : List Item) (x : Item) → Legal xs → Follows xs x → Legal (xs ++ x ∷ [])
Legal-push xs x l f = EachFrom-push Follows [] xs x l f

pub Legal-front : (xs ys : List Item) → Legal (xs ++ ys) → Legal xs
Legal-front xs ys l = EachFrom-front Follows [] xs ys l

pub follows-open : (xs : List Item) (x : Item) → Follows xs x → is_open xs ≡ true
follows-open xs (Of kind bucket place) f = f.0
follows-open xs End f = f

-- behind an End nothing follows
pub Legal-ended : (xs ys : List Item) → Legal (xs ++ ys) → is_open xs ≡ false → ys ≡ []
Legal-ended xs [] l e = refl
Legal-ended xs (y ∷ ys) l e = absurd (let f : true ≡ false = sym (follows-open xs y (EachFrom-at Follows [] xs y ys l)) ∙ e in cc)

pub stream-append : (c : ℕ) (xs ys : List Post) → stream c (xs ++ ys) ≡ stream c xs ++ stream c ys
stream-append c [] ys = refl
stream-append c (p ∷ xs) ys = ap (λ (z : List Item). (if p.core == c then p.item ∷ [] else []) ++ z) (stream-append c xs ys) ∙ sym (append_assoc (if p.core == c then p.item ∷ [] else []) (stream c xs) (stream c ys))

pub stand_from-push : (b : ℕ) (xs : List Item) (s : Stand) (x : Item) → stand_from b s (xs ++ x ∷ []) ≡ stand_from b (stand_from b s xs) (x ∷ [])
stand_from-push b [] s x = refl
stand_from-push b (Of kind bucket place ∷ xs) s x = stand_from-push b xs (if bucket == b then stand_by kind place else s) x
stand_from-push b (End ∷ xs) s x = stand_from-push b xs s x

pub is_open-push : (xs : List Item) (kind : Kind) (b place : ℕ) → is_open xs ≡ true → is_open (xs ++ Of kind b place ∷ []) ≡ true
is_open-push [] kind b place h = refl
is_open-push (Of k bucket p ∷ xs) kind b place h = is_open-push xs kind b place h
is_open-push (End ∷ xs) kind b place h = h

pub stream-here : (c : ℕ) (ds : List Post) (x : Item) → stream c (ds ++ record { core = c; item = x } ∷ []) ≡ stream c ds ++ x ∷ []
stream-here c ds x = stream-append c ds (record { core = c; item = x } ∷ []) ∙ ap (λ (t : Bool). stream c ds ++ ((if t then x ∷ [] else []) ++ [])) (eq-eqb c c refl)

pub stream-away : (c o : ℕ) (ds : List Post) (x : Item) → o ≢ c → stream c (ds ++ record { core = o; item = x } ∷ []) ≡ stream c ds
stream-away c o ds x ne = stream-append c ds (record { core = o; item = x } ∷ []) ∙ (ap (λ (t : Bool). stream c ds ++ ((if t then x ∷ [] else []) ++ [])) (ne_eqb o c ne) ∙ append-nil (stream c ds))

pub stand_at-here : (b c : ℕ) (ds : List Post) (kind : Kind) (place : ℕ) → stand_at b (ds ++ record { core = c; item = Of kind b place } ∷ []) c ≡ stand_by kind place
stand_at-here b c ds kind place =
    rw (stream-here c ds (Of kind b place), stand_from-push b (stream c ds) new (Of kind b place))
    (ap (λ (t : Bool). if t then stand_by kind place else stand_at b ds c) (eq-eqb b b refl))

pub stand_at-away : (b c o : ℕ) (ds : List Post) (x : Item) → o ≢ c → stand_at b (ds ++ record { core = o; item = x } ∷ []) c ≡ stand_at b ds c
stand_at-away b c o ds x ne = ap (λ (z : List Item). stand_from b new z) (stream-away c o ds x ne)

pub stand_at-other : (b c o bucket : ℕ) (ds : List Post) (kind : Kind) (place : ℕ) → bucket ≢ b → stand_at b (ds ++ record { core = o; item = Of kind bucket place } ∷ []) c ≡ stand_at b ds c
stand_at-other b c o bucket ds kind place ne =
    ap (λ (z : List Item). stand_from b new z) (stream-append c ds (record { core = o; item = Of kind bucket place } ∷ []))
    ∙ by_test o c (λ (t : Bool). stand_from b new (stream c ds ++ ((if t then Of kind bucket place ∷ [] else []) ++ [])) ≡ stand_at b ds c)
    (λ _. stand_from-push b (stream c ds) new (Of kind bucket place) ∙ ap (λ (t : Bool). if t then stand_by kind place else stand_at b ds c) (ne_eqb bucket b ne))
    (λ _. ap (λ (z : List Item). stand_from b new z) (append-nil (stream c ds)))
