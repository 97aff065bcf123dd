-- What the dispatcher sends: event by event, and as a lawful journal says.
use Rattle.std.proofs.Common.{◌≡◌, ℕ, zero, suc, ◌+◌, ◌^◌, ◌<◌, ◌≤◌, ◌==◌, List, [], ◌∷◌, ◌++◌, append_assoc, length, length-append, true, refl, sym, ap, ◌∙◌, subst, ⊎_elim, arith}
use Rattle.std.proofs.lemmas.List.{append-nil}
use Rattle.std.proofs.lemmas.List.Sums.{count_by-le-length}
use Rattle.std.proofs.lemmas.Bool.{cases_eq}
use Rattle.indirection.proofs.Each.{EachFrom-keeps, gather_from-push}
use Rattle.indirection.proofs.Steps.{tries_of-round, tries_of-send, tries_of-append, parcels_of-round, parcels_of-try, parcels_of-append}
use Rattle.indirection.proofs.Told.{parcels_of-told}
use Rattle.indirection.specs.JournalView.{JournalView}
use Rattle.indirection.specs.Story.{Parcel, Step, Rounds, Tries, Sends, told, parcels_of, tries_of}
use Rattle.indirection.specs.Due.{Rules}
use Rattle.indirection.specs.Lawful.{Fits, IsLawfulSoFar}
use Rattle.handover_core.specs.declared.item.Item.{Item}
use Rattle.handover_core.specs.declared.item.Item.TheVariants.{Of, End}
use Rattle.handover_core.specs.declared.event.Event.{Event}
use Rattle.handover_core.specs.declared.event.Event.TheVariants.{Send, Look, Move, Place, SendEnd, Take, Claim, Release}
use Rattle.handover_core.specs.declared.post.Post.{Post}
use Rattle.handover_core.specs.State.{Hand, Away, Waiting, Held, Leaving, MachineView, core_at, hand_at}
use Rattle.handover_core.specs.Machine.{step, took, released, posts_by}
use Rattle.handover_core.specs.Dispatch.{stream, posts, dispatched, ends, dispatches}
use Rattle.handover_core.specs.Legal.{is_open, Legal}
use Rattle.handover_core.specs.Stands.{IsTold}
use Rattle.handover_core.proofs.DispatcherSide.{IsTold-none, IsTold-send, IsTold-try}
use Rattle.handover_core.proofs.Streams.{Legal-push, Legal-front, stream-append, stream-here, stream-away}

-- event by event

took_sends : (m : MachineView) (c : ℕ) (q : List Item) → (took m c q).dispatched ≡ m.dispatched ++ []
took_sends m c [] = sym (append-nil m.dispatched)
took_sends m c (Of kind b place ∷ q) = sym (append-nil m.dispatched)
took_sends m c (End ∷ q) = sym (append-nil m.dispatched)

released_sends : (m : MachineView) (c b : ℕ) (h : Hand) → (released m c b h).dispatched ≡ m.dispatched ++ []
released_sends m c b Away = sym (append-nil m.dispatched)
released_sends m c b (Waiting places) = sym (append-nil m.dispatched)
released_sends m c b (Held start done) = sym (append-nil m.dispatched)
released_sends m c b (Leaving start done) = sym (append-nil m.dispatched)

pub event_sends : (m : MachineView) (e : Event) → (step m e).dispatched ≡ m.dispatched ++ posts_by m e
event_sends m Send = refl
event_sends m (Look b) = sym (append-nil m.dispatched)
event_sends m (Move b to) = refl
event_sends m (Place b to) = sym (append-nil m.dispatched)
event_sends m (SendEnd c) = refl
event_sends m (Take c) = took_sends m c (core_at m c).queue
event_sends m (Claim c b) = sym (append-nil m.dispatched)
event_sends m (Release c b) = released_sends m c b (hand_at m c b)

-- as a lawful journal says

module _ (rules : Rules) where
  abbrev sends : List Step → List Post
  sends ss = dispatched rules.start ss

  -- of fewer than 2^32 packets
  AreTold : List Step → Type 0
  AreTold ss = length (parcels_of ss) < 2 ^ 32 → IsTold rules.start (tries_of ss) (parcels_of ss) (sends ss)

  told_step : (ss : List Step) (x : Step) → AreTold ss → Fits rules ss x → AreTold (ss ++ x ∷ [])
  unfolding AreTold
  told_step ss (Rounds h) t f few = rw (gather_from-push (posts rules.start) [] ss (Rounds h), append-nil (sends ss), tries_of-round ss h, parcels_of-round ss h) (t (subst (λ (z : List Parcel). length z < 2 ^ 32) (parcels_of-round ss h) few))
  told_step ss (Tries a o) t f few = rw (gather_from-push (posts rules.start) [] ss (Tries a o), tries_of-append ss (Tries a o ∷ []), parcels_of-try ss a o)
      (IsTold-try rules.start (tries_of ss) (parcels_of ss) (sends ss) a o (t (subst (λ (z : List Parcel). length z < 2 ^ 32) (parcels_of-try ss a o) few)) f.1)
  told_step ss (Sends p) t f few =
      let more : length (parcels_of (ss ++ Sends p ∷ [])) ≡ length (parcels_of ss) + 1 = ap (λ (z : List Parcel). length z) (parcels_of-append ss (Sends p ∷ [])) ∙ length-append (parcels_of ss) (p ∷ []) in
      let c = count_by-le-length (λ (z : Parcel). z.bucket == p.bucket) (parcels_of ss) in
      rw (gather_from-push (posts rules.start) [] ss (Sends p), tries_of-send ss p, parcels_of-append ss (Sends p ∷ []))
      (IsTold-send rules.start (tries_of ss) (parcels_of ss) (sends ss) p (t (omega arith)) (omega arith))

-- no End went to the cores from n on
no_end : (c n : ℕ) → n ≤ c → stream c (ends n) ≡ []
no_end c zero h = refl
no_end c (suc n) h = stream-away c n (ends n) End (λ e. absurd (omega arith)) ∙ no_end c n (omega arith)

with_end : (ds : List Post) (c n : ℕ) → Legal (stream c (ds ++ ends n)) → (n ≡ c → is_open (stream c (ds ++ ends n)) ≡ true) → Legal (stream c (ds ++ ends (suc n)))
with_end ds c n l o = subst (λ (z : List Post). Legal (stream c z)) (append_assoc ds (ends n) (record { core = n; item = End } ∷ [])) (⊎_elim
    (λ (e : n ≡ c). subst (λ (x : ℕ). Legal (stream c ((ds ++ ends n) ++ record { core = x; item = End } ∷ []))) (sym e) (subst Legal (sym (stream-here c (ds ++ ends n) End)) (Legal-push (stream c (ds ++ ends n)) End l (o e))))
    (λ (ne : n ≡ c → ⊥). subst Legal (sym (stream-away c n (ds ++ ends n) End ne)) l) (cases_eq n c))

legal_ends : (ds : List Post) (c n : ℕ) → Legal (stream c ds) → is_open (stream c ds) ≡ true → Legal (stream c (ds ++ ends n))
legal_ends ds c zero l o = subst (λ (z : List Post). Legal (stream c z)) (sym (append-nil ds)) l
legal_ends ds c (suc n) l o = with_end ds c n (legal_ends ds c n l o) (λ e.
    let none : stream c (ds ++ ends n) ≡ stream c ds = stream-append c ds (ends n) ∙ (ap (λ (z : List Item). stream c ds ++ z) (no_end c n (omega arith)) ∙ append-nil (stream c ds)) in
    subst (λ (z : List Item). is_open z ≡ true) (sym none) o)

pub journal_legal : (rules : Rules) (xs : List Parcel) (j : JournalView) (cores c : ℕ) → IsLawfulSoFar rules xs j → length xs < 2 ^ 32 → Legal (stream c (dispatches cores xs j))
unfolding AreTold
journal_legal rules xs j cores c l few =
    let steps = told 0 xs j.entries in
    let t : IsTold rules.start (tries_of steps) (parcels_of steps) (dispatched rules.start steps) = EachFrom-keeps (Fits rules) (AreTold rules) (told_step rules) [] steps (λ _. IsTold-none rules.start) l.steps (subst (λ (z : List Parcel). length z < 2 ^ 32) (sym (parcels_of-told j.entries 0 xs)) few) in
    subst (λ (z : List ℕ). Legal (stream c (dispatched z steps ++ ends cores))) (sym l.start) (legal_ends (dispatched rules.start steps) c cores (t.dispatcher.legal c) (t.dispatcher.open_lists c))

pub fronts_legal : (rules : Rules) (xs : List Parcel) (j : JournalView) (cores c : ℕ) (before behind : List Post) → IsLawfulSoFar rules xs j → length xs < 2 ^ 32 → dispatches cores xs j ≡ before ++ behind → Legal (stream c before)
fronts_legal rules xs j cores c before behind l few is = Legal-front (stream c before) (stream c behind) (subst Legal (ap (stream c) is ∙ stream-append c before behind) (journal_legal rules xs j cores c l few))
