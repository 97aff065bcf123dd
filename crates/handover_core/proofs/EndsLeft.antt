-- How many Ends are left after an event.
use Rattle.std.proofs.Common.{◌≡◌, ◌≢◌, ℕ, zero, suc, ◌+◌, ◌<◌, ◌≤◌, List, [], ◌∷◌, ◌++◌, length, set, Bool, true, false, ◌&&◌, ◌||◌, if◌then◌else◌, ◌==◌, refl, sym, ap, ◌∙◌, ⊎_elim, eq-eqb, ne_eqb, arith}
use Rattle.std.proofs.lemmas.Bool.{cases_lt}
use Rattle.std.proofs.lemmas.List.{length-set}
use Rattle.std.proofs.lemmas.List.Sums.{sum_by-append, sum_by-cons}
use Rattle.std.proofs.lemmas.List.Folds.{list_any-append}
use Rattle.std.specs.Prelude.{count_by, not}
use Rattle.std.specs.List.{list_any}
use Rattle.indirection.specs.Tries.{upto}
use Rattle.handover_core.specs.declared.item.Kind.{Kind}
use Rattle.handover_core.specs.declared.item.Item.TheVariants.{Of, End}
use Rattle.handover_core.specs.declared.post.Post.{Post}
use Rattle.handover_core.specs.State.{CoreState, MachineView, core_at, set_core, set_bucket}
use Rattle.handover_core.specs.declared.bucket_state.BucketState.{BucketState}
use Rattle.handover_core.specs.Machine.{is_end, end_sent_to, post}

-- the Ends that are left
unfoldable pub ends_left : MachineView → ℕ
ends_left m = count_by (λ c. not (end_sent_to m c)) (upto (length m.cores))

-- counts of tests that differ nowhere, or at one number
count-same : (p q : ℕ → Bool) (xs : List ℕ) → ((x : ℕ) → p x ≡ q x) → count_by p xs ≡ count_by q xs
count-same p q [] f = refl
count-same p q (x ∷ xs) f =
    sum_by-cons (λ x. if p x then 1 else 0) x xs
    ∙ (ap (λ (t : Bool). (if t then 1 else 0) + count_by p xs) (f x)
    ∙ (ap (λ (n : ℕ). (if q x then 1 else 0) + n) (count-same p q xs f) ∙ sym (sum_by-cons (λ x. if q x then 1 else 0) x xs)))

count-push : (p : ℕ → Bool) (n : ℕ) → count_by p (upto (suc n)) ≡ count_by p (upto n) + (if p n then 1 else 0)
count-push p n = let e = sum_by-append (λ x. if p x then 1 else 0) (upto n) (n ∷ []) in e ∙ omega arith

count-below : (p q : ℕ → Bool) (c n : ℕ) → ((x : ℕ) → x ≢ c → p x ≡ q x) → n ≤ c → count_by p (upto n) ≡ count_by q (upto n)
count-below p q c zero f l = refl
count-below p q c (suc n) f l =
    count-push p n ∙ (ap (λ (k : ℕ). k + (if p n then 1 else 0)) (count-below p q c n f (omega arith))
    ∙ (ap (λ (t : Bool). count_by q (upto n) + (if t then 1 else 0)) (f n (λ e. omega arith)) ∙ sym (count-push q n)))

count-drop : (p q : ℕ → Bool) (c n : ℕ) → ((x : ℕ) → x ≢ c → p x ≡ q x) → p c ≡ true → q c ≡ false → c < n → count_by p (upto n) ≡ count_by q (upto n) + 1
count-drop p q c zero f t u l = absurd (omega arith)
count-drop p q c (suc n) f t u l = ⊎_elim
    (λ (h : c < n).
    let i = count-drop p q c n f t u h in
    let e = f n (λ e. omega arith) in
    let a = count-push p n ∙ ap (λ (t : Bool). count_by p (upto n) + (if t then 1 else 0)) e in
    let b = count-push q n in omega arith)
    (λ (h : n ≤ c).
    let e : c ≡ n = omega arith in
    let i = count-below p q c n f h in
    let a = count-push p n ∙ ap (λ (t : Bool). count_by p (upto n) + (if t then 1 else 0)) (ap p (sym e) ∙ t) in
    let b = count-push q n ∙ ap (λ (t : Bool). count_by q (upto n) + (if t then 1 else 0)) (ap q (sym e) ∙ u) in omega arith)
    (cases_lt c n)

-- the Ends after one more item
or-false : (a : Bool) → (a || (false || false)) ≡ a
or-false true = refl
or-false false = refl

or-true : (a : Bool) → (a || (true || false)) ≡ true
or-true true = refl
or-true false = refl

and-none : (a : Bool) → (a && false) ≡ false
and-none true = refl
and-none false = refl

pub end_to-item : (ds : List Post) (o : ℕ) (kind : Kind) (b place c : ℕ) → list_any (λ (p : Post). (p.core == c) && is_end p.item) (ds ++ record { core = o; item = Of kind b place } ∷ []) ≡ list_any (λ (p : Post). (p.core == c) && is_end p.item) ds
end_to-item ds o kind b place c =
    list_any-append (λ (p : Post). (p.core == c) && is_end p.item) ds (record { core = o; item = Of kind b place } ∷ [])
    ∙ (ap (λ (t : Bool). list_any (λ (p : Post). (p.core == c) && is_end p.item) ds || (t || false)) (and-none (o == c)) ∙ or-false (list_any (λ (p : Post). (p.core == c) && is_end p.item) ds))

pub end_to-here : (ds : List Post) (o : ℕ) → list_any (λ (p : Post). (p.core == o) && is_end p.item) (ds ++ record { core = o; item = End } ∷ []) ≡ true
end_to-here ds o =
    list_any-append (λ (p : Post). (p.core == o) && is_end p.item) ds (record { core = o; item = End } ∷ [])
    ∙ (ap (λ (t : Bool). list_any (λ (p : Post). (p.core == o) && is_end p.item) ds || ((t && true) || false)) (eq-eqb o o refl) ∙ or-true (list_any (λ (p : Post). (p.core == o) && is_end p.item) ds))

pub end_to-other : (ds : List Post) (o c : ℕ) → o ≢ c → list_any (λ (p : Post). (p.core == c) && is_end p.item) (ds ++ record { core = o; item = End } ∷ []) ≡ list_any (λ (p : Post). (p.core == c) && is_end p.item) ds
end_to-other ds o c ne =
    list_any-append (λ (p : Post). (p.core == c) && is_end p.item) ds (record { core = o; item = End } ∷ [])
    ∙ (ap (λ (t : Bool). list_any (λ (p : Post). (p.core == c) && is_end p.item) ds || ((t && true) || false)) (ne_eqb o c ne) ∙ or-false (list_any (λ (p : Post). (p.core == c) && is_end p.item) ds))

pub ends-item : (m : MachineView) (o : ℕ) (kind : Kind) (b place : ℕ) → ends_left (post m o (Of kind b place)) ≡ ends_left m
unfolding ends_left
ends-item m o kind b place =
    ap (λ (n : ℕ). count_by (λ c. not (end_sent_to (post m o (Of kind b place)) c)) (upto n)) (length-set m.cores o (record (core_at m o) { queue = (core_at m o).queue ++ Of kind b place ∷ [] }))
    ∙ count-same (λ c. not (end_sent_to (post m o (Of kind b place)) c)) (λ c. not (end_sent_to m c)) (upto (length m.cores)) (λ c. ap not (end_to-item m.dispatched o kind b place c))

pub ends-end : (m : MachineView) (o : ℕ) → o < length m.cores → end_sent_to m o ≡ false → ends_left m ≡ ends_left (post m o End) + 1
unfolding ends_left
ends-end m o l e =
    count-drop (λ c. not (end_sent_to m c)) (λ c. not (end_sent_to (post m o End) c)) o (length m.cores)
    (λ c ne. ap not (sym (end_to-other m.dispatched o c (λ i. ne (sym i))))) (ap not e) (ap not (end_to-here m.dispatched o)) l
    ∙ ap (λ (n : ℕ). count_by (λ c. not (end_sent_to (post m o End) c)) (upto n) + 1) (sym (length-set m.cores o (record (core_at m o) { queue = (core_at m o).queue ++ End ∷ [] })))

pub ends-core : (m : MachineView) (c : ℕ) (x : CoreState) → ends_left (set_core m c x) ≡ ends_left m
unfolding ends_left
ends-core m c x = ap (λ (n : ℕ). count_by (λ c. not (end_sent_to m c)) (upto n)) (length-set m.cores c x)

-- the Ends that are left hang on what was sent and on the number of cores alone
pub ends-free : (m : MachineView) (free claims releases : ℕ) → ends_left (record m { free = free; claims = claims; releases = releases }) ≡ ends_left m
unfolding ends_left
ends-free m free claims releases = refl

pub ends-sent : (m : MachineView) (sent free moves : ℕ) → ends_left (record m { sent = sent; free = free; moves = moves }) ≡ ends_left m
unfolding ends_left
ends-sent m sent free moves = refl

pub ends-entry : (m : MachineView) (b : ℕ) (s : BucketState) → ends_left (set_bucket m b s) ≡ ends_left m
unfolding ends_left
ends-entry m b s = refl

pub ends-buckets : (m : MachineView) (c : ℕ) (x : CoreState) (b : ℕ) (s : BucketState) (free claims releases : ℕ)
    → ends_left (record m { free = free; claims = claims; releases = releases; cores = set m.cores c x; buckets = set m.buckets b s }) ≡ ends_left (set_core m c x)
unfolding ends_left
ends-buckets m c x b s free claims releases = refl

pub count-all : (n : ℕ) → count_by (λ c. true) (upto n) ≡ n
count-all zero = refl
count-all (suc n) = let e = count-push (λ c. true) n in let i = count-all n in omega arith
