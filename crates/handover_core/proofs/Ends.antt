-- Nothing follows End, and End is sent last.
use Rattle.std.proofs.Common.{◌≡◌, ◌≢◌, ℕ, List, [], ◌∷◌, ◌++◌, append_assoc, length, Bool, true, false, if◌then◌else◌, ◌==◌, ◌||◌, ◌&&◌, refl, sym, ◌∙◌, subst}
use Rattle.std.specs.List.{list_any}
use Rattle.std.proofs.lemmas.List.Folds.{list_any-append}
use Rattle.indirection.proofs.Tests.{by_test}
use Rattle.indirection.proofs.Each.{EachFrom-at}
use Rattle.handover_core.specs.declared.item.Item.{Item}
use Rattle.handover_core.specs.declared.item.Item.TheVariants.{Of, End}
use Rattle.handover_core.specs.Dispatch.{stream}
use Rattle.handover_core.specs.declared.post.Post.{Post}
use Rattle.handover_core.specs.Legal.{is_open, Follows, Legal}
use Rattle.handover_core.specs.State.{MachineView, core_at}
use Rattle.handover_core.specs.Machine.{is_end, has_end, end_sent}
use Rattle.handover_core.specs.Sound.{IsStreamed}
use Rattle.handover_core.proofs.Frames.{has_end-end}
use Rattle.handover_core.proofs.Streams.{follows-open}

pub open-no_end : (xs : List Item) → is_open xs ≡ true → has_end xs ≡ false
open-no_end [] o = refl
open-no_end (Of kind b place ∷ xs) o = open-no_end xs o
open-no_end (End ∷ xs) o = absurd (cc)

-- behind a list with an End nothing may stand
pub legal-quiet : (xs ys : List Item) → Legal (xs ++ ys) → has_end xs ≡ true → ys ≡ []
legal-quiet xs [] l h = refl
legal-quiet xs (y ∷ ys) l h = let f = open-no_end xs (follows-open xs y (EachFrom-at Follows [] xs y ys l)) in absurd (cc)

pub legal-end_last : (xs ys : List Item) → Legal (xs ++ End ∷ ys) → ys ≡ []
legal-end_last xs ys l = legal-quiet (xs ++ End ∷ []) ys (subst Legal (sym (append_assoc xs (End ∷ []) ys)) l) (has_end-end xs)

or-left : (a b : Bool) → a ≡ true → (a || b) ≡ true
or-left true b e = refl
or-left false b e = absurd (cc)

or-right : (a b : Bool) → b ≡ true → (a || b) ≡ true
or-right true b e = refl
or-right false b e = e

or-either : (a b c : Bool) → (a || b) ≡ true → (b ≡ true → c ≡ true) → (a || c) ≡ true
or-either true b c e f = refl
or-either false b c e f = f e

pub stream-end : (c : ℕ) (ds : List Post) → has_end (stream c ds) ≡ true → list_any (λ (p : Post). is_end p.item) ds ≡ true
stream-end c [] e = absurd (cc)
stream-end c (p ∷ ds) e =
    by_test p.core c (λ t. has_end ((if t then p.item ∷ [] else []) ++ stream c ds) ≡ true → (is_end p.item || list_any (λ (q : Post). is_end q.item) ds) ≡ true)
    (λ _ h. or-either (is_end p.item) (has_end (stream c ds)) (list_any (λ (q : Post). is_end q.item) ds) h (λ g. stream-end c ds g))
    (λ _ h. or-right (is_end p.item) (list_any (λ (q : Post). is_end q.item) ds) (stream-end c ds h)) e

-- a core that took End was sent one
pub taken-end : (m : MachineView) (c : ℕ) → IsStreamed m → has_end (core_at m c).taken ≡ true → end_sent m ≡ true
taken-end m c s e =
    stream-end c m.dispatched (subst (λ (z : List Item). has_end z ≡ true) (s.streams c)
    (list_any-append is_end (core_at m c).taken (core_at m c).queue ∙ or-left (has_end (core_at m c).taken) (has_end (core_at m c).queue) e))

by_bool : (a : Bool) → (a ≡ true → ⊥) → a ≡ false
by_bool true f = absurd (f refl)
by_bool false f = refl

pub not-taken-end : (m : MachineView) (c : ℕ) → IsStreamed m → end_sent m ≡ false → has_end (core_at m c).taken ≡ false
not-taken-end m c s o = by_bool (has_end (core_at m c).taken) (λ e. let t = taken-end m c s e in cc)

-- and has nothing queued
pub ended-quiet : (m : MachineView) (c : ℕ) → IsStreamed m → has_end (core_at m c).taken ≡ true → (core_at m c).queue ≡ []
ended-quiet m c s e = legal-quiet (core_at m c).taken (core_at m c).queue (subst Legal (sym (s.streams c)) (s.legal c)) e

pub not-sent-end : (m : MachineView) → IsStreamed m → m.sent ≢ length m.packets → end_sent m ≡ false
not-sent-end m s ne = by_bool (end_sent m) (λ e. ne (s.ends e))

-- a core that was sent no End has an open list
or-false_left : (a b : Bool) → (a || b) ≡ false → a ≡ false
or-false_left true b e = absurd (cc)
or-false_left false b e = refl

or-false_right : (a b : Bool) → (a || b) ≡ false → b ≡ false
or-false_right true b e = absurd (cc)
or-false_right false b e = e

open-item : (x : Item) (xs : List Item) → is_end x ≡ false → is_open xs ≡ true → is_open (x ∷ xs) ≡ true
open-item (Of kind b place) xs e o = o
open-item End xs e o = absurd (cc)

pub no_end-open : (c : ℕ) (ds : List Post) → list_any (λ (p : Post). (p.core == c) && is_end p.item) ds ≡ false → is_open (stream c ds) ≡ true
no_end-open c [] e = refl
no_end-open c (p ∷ ds) e =
    let rest = no_end-open c ds (or-false_right ((p.core == c) && is_end p.item) (list_any (λ (q : Post). (q.core == c) && is_end q.item) ds) e) in
    by_test p.core c (λ t. (t && is_end p.item) ≡ false → is_open ((if t then p.item ∷ [] else []) ++ stream c ds) ≡ true)
    (λ _ h. open-item p.item (stream c ds) h rest) (λ _ h. rest)
    (or-false_left ((p.core == c) && is_end p.item) (list_any (λ (q : Post). (q.core == c) && is_end q.item) ds) e)
