-- What changing one entry of a state leaves as it was.
use Rattle.std.proofs.Common.{◌≡◌, ◌≢◌, ℕ, ◌<◌, List, [], ◌∷◌, ◌++◌, length, get_or, set, Bool, true, false, if◌then◌else◌, ◌||◌, refl, sym, ap, ◌∙◌, subst, eq-eqb, ne_eqb}
use Rattle.std.proofs.lemmas.List.{append-nil, get_or-set_same, get_or-set_other}
use Rattle.std.specs.List.{list_any}
use Rattle.std.proofs.lemmas.List.Folds.{list_any-append}
use Rattle.indirection.proofs.Tests.{by_test}
use Rattle.handover_core.specs.declared.item.Kind.{Kind}
use Rattle.handover_core.specs.declared.item.Item.{Item}
use Rattle.handover_core.specs.declared.item.Item.TheVariants.{Of, End}
use Rattle.handover_core.specs.declared.post.Post.{Post}
use Rattle.handover_core.specs.State.{CoreState, MachineView, blank_core, blank_bucket, bucket_at, core_at, set_core, set_bucket}
use Rattle.handover_core.specs.declared.bucket_state.BucketState.{BucketState}
use Rattle.handover_core.specs.Machine.{is_end, has_end}
use Rattle.handover_core.specs.Bucket.{Piece, piece}
use Rattle.handover_core.proofs.Turns.{upd}
use Rattle.handover_core.specs.Sound.{pieces}

-- an entry after one was set
pub get-set : {A : Type 0} (xs : List A) (i j : ℕ) (y d : A) → i < length xs → get_or (set xs i y) j d ≡ upd (λ k. get_or xs k d) i y j
get-set {A} xs i j y d l =
    by_test j i (λ t. get_or (set xs i y) j d ≡ (if t then y else get_or xs j d))
    (λ e. subst (λ (k : ℕ). get_or (set xs i y) k d ≡ y) (sym e) (get_or-set_same xs i y d l))
    (λ ne. get_or-set_other xs i j y d ne)

pub upd-ap : {A B : Type 0} (f : A → B) (g : ℕ → A) (c : ℕ) (x : A) (d : ℕ) → f (upd g c x d) ≡ upd (λ k. f (g k)) c (f x) d
upd-ap f g c x d = by_test d c (λ t. f (if t then x else g d) ≡ (if t then f x else f (g d))) (λ _. refl) (λ _. refl)

-- a value put back where it was
pub upd-same : {A : Type 0} (g : ℕ → A) (c : ℕ) (x : A) (d : ℕ) → x ≡ g c → upd g c x d ≡ g d
upd-same g c x d e = by_test d c (λ t. (if t then x else g d) ≡ g d) (λ i. e ∙ ap g (sym i)) (λ _. refl)

pub core-set : (m : MachineView) (c : ℕ) (s : CoreState) (d : ℕ) → c < length m.cores → core_at (set_core m c s) d ≡ upd (core_at m) c s d
core-set m c s d l = get-set m.cores c d s blank_core l

pub bucket-set : (m : MachineView) (b : ℕ) (s : BucketState) (k : ℕ) → b < length m.buckets → bucket_at (set_bucket m b s) k ≡ upd (bucket_at m) b s k
bucket-set m b s k l = get-set m.buckets b k s blank_bucket l

-- a part of each core, where one core was changed
pub part-set : {A : Type 0} (f : CoreState → A) (m : MachineView) (c : ℕ) (s : CoreState) (d : ℕ) → c < length m.cores → f (core_at (set_core m c s) d) ≡ upd (λ k. f (core_at m k)) c (f s) d
part-set f m c s d l = ap f (core-set m c s d l) ∙ upd-ap f (core_at m) c s d

-- a part that the change leaves as it was
pub part-same : {A : Type 0} (f : CoreState → A) (m : MachineView) (c : ℕ) (s : CoreState) (d : ℕ) → c < length m.cores → f s ≡ f (core_at m c) → f (core_at (set_core m c s) d) ≡ f (core_at m d)
part-same f m c s d l e = part-set f m c s d l ∙ upd-same (λ k. f (core_at m k)) c (f s) d e

-- a part of each bucket, where one bucket was changed
pub entry-set : {A : Type 0} (f : BucketState → A) (m : MachineView) (b : ℕ) (s : BucketState) (k : ℕ) → b < length m.buckets → f (bucket_at (set_bucket m b s) k) ≡ upd (λ j. f (bucket_at m j)) b (f s) k
entry-set f m b s k l = ap f (bucket-set m b s k l) ∙ upd-ap f (bucket_at m) b s k

pub entry-same : {A : Type 0} (f : BucketState → A) (m : MachineView) (b : ℕ) (s : BucketState) (k : ℕ) → b < length m.buckets → f s ≡ f (bucket_at m b) → f (bucket_at (set_bucket m b s) k) ≡ f (bucket_at m k)
entry-same f m b s k l e = entry-set f m b s k l ∙ upd-same (λ j. f (bucket_at m j)) b (f s) k e

-- the items of a bucket in two lists
pub pieces-append : (b : ℕ) (xs ys : List Item) → pieces b (xs ++ ys) ≡ pieces b xs ++ pieces b ys
pieces-append b [] ys = refl
pieces-append b (Of kind bucket place ∷ xs) ys =
    by_test bucket b (λ t. (if t then piece kind place ∷ pieces b (xs ++ ys) else pieces b (xs ++ ys)) ≡ (if t then piece kind place ∷ pieces b xs else pieces b xs) ++ pieces b ys)
    (λ _. ap (λ (z : List Piece). piece kind place ∷ z) (pieces-append b xs ys)) (λ _. pieces-append b xs ys)
pieces-append b (End ∷ xs) ys = pieces-append b xs ys

pub pieces-here : (b : ℕ) (kind : Kind) (place : ℕ) (xs : List Item) → pieces b (Of kind b place ∷ xs) ≡ piece kind place ∷ pieces b xs
pieces-here b kind place xs = ap (λ (t : Bool). if t then piece kind place ∷ pieces b xs else pieces b xs) (eq-eqb b b refl)

pub pieces-other : (b bucket : ℕ) (kind : Kind) (place : ℕ) (xs : List Item) → bucket ≢ b → pieces b (Of kind bucket place ∷ xs) ≡ pieces b xs
pieces-other b bucket kind place xs ne = ap (λ (t : Bool). if t then piece kind place ∷ pieces b xs else pieces b xs) (ne_eqb bucket b ne)

pub pieces-push_here : (b : ℕ) (xs : List Item) (kind : Kind) (place : ℕ) → pieces b (xs ++ Of kind b place ∷ []) ≡ pieces b xs ++ piece kind place ∷ []
pieces-push_here b xs kind place = pieces-append b xs (Of kind b place ∷ []) ∙ ap (λ (z : List Piece). pieces b xs ++ z) (pieces-here b kind place [])

pub pieces-push_other : (b bucket : ℕ) (xs : List Item) (kind : Kind) (place : ℕ) → bucket ≢ b → pieces b (xs ++ Of kind bucket place ∷ []) ≡ pieces b xs
pieces-push_other b bucket xs kind place ne = pieces-append b xs (Of kind bucket place ∷ []) ∙ (ap (λ (z : List Piece). pieces b xs ++ z) (pieces-other b bucket kind place [] ne) ∙ append-nil (pieces b xs))

pub pieces-push_end : (b : ℕ) (xs : List Item) → pieces b (xs ++ End ∷ []) ≡ pieces b xs
pieces-push_end b xs = pieces-append b xs (End ∷ []) ∙ append-nil (pieces b xs)

-- an item that is no End changes no test for one
or-false : (a : Bool) → (a || (false || false)) ≡ a
or-false true = refl
or-false false = refl

or-true : (a : Bool) → (a || (true || false)) ≡ true
or-true true = refl
or-true false = refl

pub has_end-item : (xs : List Item) (kind : Kind) (b place : ℕ) → has_end (xs ++ Of kind b place ∷ []) ≡ has_end xs
has_end-item xs kind b place = list_any-append is_end xs (Of kind b place ∷ []) ∙ or-false (has_end xs)

pub has_end-end : (xs : List Item) → has_end (xs ++ End ∷ []) ≡ true
has_end-end xs = list_any-append is_end xs (End ∷ []) ∙ or-true (has_end xs)

pub end_sent-item : (ds : List Post) (o : ℕ) (kind : Kind) (b place : ℕ) → list_any (λ (p : Post). is_end p.item) (ds ++ record { core = o; item = Of kind b place } ∷ []) ≡ list_any (λ (p : Post). is_end p.item) ds
end_sent-item ds o kind b place = list_any-append (λ (p : Post). is_end p.item) ds (record { core = o; item = Of kind b place } ∷ []) ∙ or-false (list_any (λ (p : Post). is_end p.item) ds)

pub end_sent-end : (ds : List Post) (o : ℕ) → list_any (λ (p : Post). is_end p.item) (ds ++ record { core = o; item = End } ∷ []) ≡ true
end_sent-end ds o = list_any-append (λ (p : Post). is_end p.item) ds (record { core = o; item = End } ∷ []) ∙ or-true (list_any (λ (p : Post). is_end p.item) ds)
