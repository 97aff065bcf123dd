-- A run works the places of each bucket one after the other from 0 on.
use Rattle.std.proofs.Common.{◌≡◌, ◌≢◌, ℕ, zero, suc, ◌+◌, ◌<◌, List, [], ◌∷◌, ◌++◌, length, get_or, Bool, true, false, if◌then◌else◌, refl, sym, ap, ◌∙◌, subst, ⊎_elim, Some, None, arith}
use Rattle.std.proofs.lemmas.Bool.{cases_eq}
use Rattle.std.proofs.lemmas.List.{append-nil}
use Rattle.indirection.proofs.Tests.{by_test}
use Rattle.handover_core.specs.declared.item.Kind.{Kind}
use Rattle.handover_core.specs.declared.item.Kind.TheVariants.{First, Next, Mark}
use Rattle.handover_core.specs.declared.item.Item.{Item}
use Rattle.handover_core.specs.declared.item.Item.TheVariants.{Of}
use Rattle.handover_core.specs.State.{Hand, Away, Waiting, Held, Leaving, CoreState, MachineView, bucket_at, core_at, hand_at, hand_in}
use Rattle.handover_core.specs.Machine.{took, met, leave}
use Rattle.handover_core.specs.Bucket.{piece, places_from, BucketSnapshot}
use Rattle.handover_core.proofs.Turns.{upd, after_take}
use Rattle.handover_core.specs.Sound.{pieces, bucket_snapshot}
use Rattle.handover_core.specs.Promises.{hand_claimed_at, IsOnShelf, IsInHand, IsHeldOnce, Meets, worked_of, done_in, done_among, done_at, worked}
use Rattle.handover_core.proofs.Buckets.{IsSame, upd-here}
use Rattle.handover_core.proofs.WorkerSnapshots.{take-here}

-- the hand has a table with so many packets done
pub Has : ℕ → Hand → Type 0
Has d Away = ⊥
Has d (Waiting places) = ⊥
Has d (Held start done) = done ≡ d
Has d (Leaving start done) = done ≡ d

has-claimed : (d : ℕ) (h : Hand) → Has d h → hand_claimed_at h ≡ None → ⊥
unfolding Has
has-claimed d Away f e = f
has-claimed d (Waiting places) f e = f
has-claimed d (Held a x) f e = cc
has-claimed d (Leaving a x) f e = cc

has-done : (d : ℕ) (h : Hand) (rest : ℕ) → Has d h → done_in h rest ≡ d
unfolding Has
has-done d Away rest f = absurd f
has-done d (Waiting places) rest f = absurd f
has-done d (Held a x) rest f = f
has-done d (Leaving a x) rest f = f

free-done : (h : Hand) (rest : ℕ) → hand_claimed_at h ≡ None → done_in h rest ≡ rest
free-done Away rest e = refl
free-done (Waiting places) rest e = refl
free-done (Held a x) rest e = absurd (cc)
free-done (Leaving a x) rest e = absurd (cc)

claimed-has : (h : Hand) (s : ℕ) → hand_claimed_at h ≡ Some s → (d : ℕ) × Has d h
unfolding Has
claimed-has Away s e = absurd (cc)
claimed-has (Waiting places) s e = absurd (cc)
claimed-has (Held a x) s e = (x, refl)
claimed-has (Leaving a x) s e = (x, refl)

-- a hand that a claim gives has the table
pub has-held : (t : Bool) (first d : ℕ) → Has d (if t then leave (Held first d) else Held first d)
unfolding Has
has-held true first d = refl
has-held false first d = refl

pub has-held-leaving : (start d : ℕ) → Has d (Leaving start d)
unfolding Has
has-held-leaving start d = refl

-- the only core that has the table
hand_of_duty : List CoreState → ℕ → ℕ → Hand
hand_of_duty cores b c = hand_in (get_or cores c (record { queue = []; taken = []; hands = [] })) b

among-is : (b : ℕ) (cores : List CoreState) (c d : ℕ) → Has d (hand_of_duty cores b c) → ((x : ℕ) → x ≢ c → hand_claimed_at (hand_of_duty cores b x) ≡ None) → done_among b cores ≡ d
unfolding hand_of_duty Has
among-is b [] c d f alone = absurd f
among-is b (core ∷ cores) zero d f alone = has-done d (hand_in core b) (done_among b cores) f
among-is b (core ∷ cores) (suc c) d f alone =
    free-done (hand_in core b) (done_among b cores) (alone 0 (λ e. cc))
    ∙ among-is b cores c d f (λ x ne. alone (suc x) (λ e. ne (let i : x ≡ c = omega arith in i)))

pub worked-shelf : (m : MachineView) (b d : ℕ) → (bucket_at m b).shelf ≡ Some d → worked m b ≡ d
worked-shelf m b d e = ap (done_at m b) e

pub worked-has : (m : MachineView) (b c d : ℕ) → IsHeldOnce m → b < length m.buckets → Has d (hand_at m c b) → worked m b ≡ d
unfolding hand_of_duty
worked-has m b c d o l f = ⊎_elim
    (λ (s : IsOnShelf m b). absurd (has-claimed d (hand_at m c b) f (s.hands c)))
    (λ (s : IsInHand m b). ap (done_at m b) s.shelf ∙ ⊎_elim
    (λ (e : c ≡ s.core). among-is b m.cores c d f (λ x ne. s.alone x (λ i. ne (i ∙ sym e))))
    (λ (ne : c ≡ s.core → ⊥). absurd (has-claimed d (hand_at m c b) f (s.alone c ne))) (cases_eq c s.core))
    (o b l)

-- what leaves the number of packets worked as it was
pub record IsIdle (v w : BucketSnapshot) : Type 0 where
  pub shelf : w.shelf ≡ v.shelf
  pub hands : (c d : ℕ) → Has d (v.hand c) → Has d (w.hand c)

pub worked-idle : (m w : MachineView) (b : ℕ) → IsHeldOnce m → IsHeldOnce w → b < length m.buckets → b < length w.buckets → IsIdle (bucket_snapshot m b) (bucket_snapshot w b) → worked w b ≡ worked m b
worked-idle m w b o p l lw i = ⊎_elim
    (λ (s : IsOnShelf m b). worked-shelf w b s.start (i.shelf ∙ s.shelf) ∙ sym (worked-shelf m b s.start s.shelf))
    (λ (s : IsInHand m b).
    let h = claimed-has (hand_at m s.core b) s.start s.holds in
    worked-has w b s.core h.0 p lw (i.hands s.core h.0 h.1) ∙ sym (worked-has m b s.core h.0 o l h.1))
    (o b l)

pub idle-same : (v u w : BucketSnapshot) → IsSame u w → IsIdle v u → IsIdle v w
idle-same v u w s i = record { shelf = s.shelf ∙ i.shelf; hands = λ c d f. subst (Has d) (sym (s.hand c)) (i.hands c d f) }

pub idle-hand : (v : BucketSnapshot) (c : ℕ) (h : Hand) → ((d : ℕ) → Has d (v.hand c) → Has d h) → (x d : ℕ) → Has d (v.hand x) → Has d (upd v.hand c h x)
idle-hand v c h f x d g = by_test x c (λ t. Has d (if t then h else v.hand x)) (λ e. f d (subst (λ (y : ℕ). Has d (v.hand y)) e g)) (λ _. g)

pub has-leave : (h : Hand) (d : ℕ) → Has d h → Has d (leave h)
unfolding Has
has-leave Away d f = f
has-leave (Waiting places) d f = f
has-leave (Held a x) d f = f
has-leave (Leaving a x) d f = f

places-join : (p n k : ℕ) → places_from p n ++ places_from (p + n) k ≡ places_from p (n + k)
places-join p zero k = let e : p + 0 ≡ p = omega arith in let f : 0 + k ≡ k = omega arith in rw (e, f) refl
places-join p (suc n) k =
    let e : p + suc n ≡ p + 1 + n = omega arith in let f : suc n + k ≡ suc (n + k) = omega arith in
    rw (e, f) (ap (λ (z : List ℕ). p ∷ z) (places-join (p + 1) n k))

-- the places worked after an event that works these
pub adds-none : (before after : ℕ) (more : List ℕ) → after ≡ before → more ≡ [] → places_from 0 before ++ more ≡ places_from 0 after
adds-none before after more e f = rw (e, f, append-nil (places_from 0 before)) refl

pub adds-some : (before after n : ℕ) (more : List ℕ) → more ≡ places_from before n → after ≡ before + n → places_from 0 before ++ more ≡ places_from 0 after
adds-some before after n more e f =
    let z : 0 + before ≡ before = omega arith in
    rw (e, f) (ap (λ (x : ℕ). places_from 0 before ++ places_from x n) (sym z) ∙ places-join 0 before n)

-- the packets worked stand at their places when an item is taken
pub take-worked : (m : MachineView) (c : ℕ) (kind : Kind) (b place : ℕ) (q : List Item) → IsHeldOnce m → IsHeldOnce (took m c (Of kind b place ∷ q)) → c < length m.cores → b < length m.buckets → b < length (core_at m c).hands
    → Meets (hand_at m c b) (Of kind b place) → places_from 0 (worked m b) ++ worked_of (hand_at m c b) (Of kind b place) ≡ places_from 0 (worked (took m c (Of kind b place ∷ q)) b)
unfolding Has
take-worked m c First b place q o p l lb lh e =
    adds-none (worked m b) (worked (took m c (Of First b place ∷ q)) b) (worked_of (hand_at m c b) (Of First b place))
    (worked-idle m (took m c (Of First b place ∷ q)) b o p lb lb (idle-same (bucket_snapshot m b) (after_take (bucket_snapshot m b) c (piece First place) (pieces b q)) (bucket_snapshot (took m c (Of First b place ∷ q)) b) (take-here m c First b place q l lh)
    (record { shelf = refl; hands = λ x d f. idle-hand (bucket_snapshot m b) c (met (hand_at m c b) First place) (λ d f. absurd (subst (Has d) e f)) x d f })))
    (ap (λ (h : Hand). worked_of h (Of First b place)) e)
take-worked m c Mark b place q o p l lb lh e =
    adds-none (worked m b) (worked (took m c (Of Mark b place ∷ q)) b) (worked_of (hand_at m c b) (Of Mark b place))
    (worked-idle m (took m c (Of Mark b place ∷ q)) b o p lb lb (idle-same (bucket_snapshot m b) (after_take (bucket_snapshot m b) c (piece Mark place) (pieces b q)) (bucket_snapshot (took m c (Of Mark b place ∷ q)) b) (take-here m c Mark b place q l lh)
    (record { shelf = refl; hands = λ x d f. idle-hand (bucket_snapshot m b) c (met (hand_at m c b) Mark place) (λ d f. subst (λ (h : Hand). Has d (met h Mark place)) (sym e.1) (subst (Has d) e.1 f)) x d f })))
    (ap (λ (h : Hand). worked_of h (Of Mark b place)) e.1)
take-worked m c Next b place q o p l lb lh e = ⊎_elim
    (λ (w : (places : List ℕ) × (hand_at m c b ≡ Waiting places)).
    adds-none (worked m b) (worked (took m c (Of Next b place ∷ q)) b) (worked_of (hand_at m c b) (Of Next b place))
    (worked-idle m (took m c (Of Next b place ∷ q)) b o p lb lb (idle-same (bucket_snapshot m b) (after_take (bucket_snapshot m b) c (piece Next place) (pieces b q)) (bucket_snapshot (took m c (Of Next b place ∷ q)) b) (take-here m c Next b place q l lh)
    (record { shelf = refl; hands = λ x d f. idle-hand (bucket_snapshot m b) c (met (hand_at m c b) Next place) (λ d f. absurd (subst (Has d) w.1 f)) x d f })))
    (ap (λ (h : Hand). worked_of h (Of Next b place)) w.1))
    (λ (w : (start : ℕ) × (hand_at m c b ≡ Held start place)).
    let before = worked-has m b c place o lb (subst (Has place) (sym w.1) refl) in
    let after : worked (took m c (Of Next b place ∷ q)) b ≡ place + 1 = worked-has (took m c (Of Next b place ∷ q)) b c (place + 1) p lb
    (subst (Has (place + 1)) (sym ((take-here m c Next b place q l lh).hand c ∙ (upd-here (λ k. hand_at m k b) c (met (hand_at m c b) Next place) ∙ ap (λ (h : Hand). met h Next place) w.1))) refl) in
    adds-some (worked m b) (worked (took m c (Of Next b place ∷ q)) b) 1 (worked_of (hand_at m c b) (Of Next b place))
    (ap (λ (h : Hand). worked_of h (Of Next b place)) w.1 ∙ ap (λ (x : ℕ). x ∷ []) (sym before)) (omega arith))
    e
