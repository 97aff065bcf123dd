-- Each table is in one hand, and what is taken meets its bucket in place.
use Rattle.std.proofs.Common.{◌≡◌, ◌≢◌, ◌⊎◌, inl, inr, ℕ, zero, suc, ◌+◌, ◌*◌, ◌<◌, ◌≤◌, List, [], ◌∷◌, ◌++◌, length, Bool, if◌then◌else◌, ◌==◌, refl, ap, ◌∙◌, subst, ⊎_elim, Some, None, arith}
use Rattle.std.proofs.lemmas.Bool.{cases_lt}
use Rattle.std.proofs.lemmas.List.{get_or_past}
use Rattle.indirection.proofs.Tests.{by_test}
use Rattle.handover_core.specs.declared.item.Kind.{Kind}
use Rattle.handover_core.specs.declared.item.Kind.TheVariants.{First, Next, Mark}
use Rattle.handover_core.specs.declared.item.Item.{Item}
use Rattle.handover_core.specs.declared.item.Item.TheVariants.{Of, End}
use Rattle.handover_core.specs.declared.event.Event.{Event}
use Rattle.handover_core.specs.declared.event.Event.TheVariants.{Send, Look, Move, Place, SendEnd, Take, Claim, Release}
use Rattle.handover_core.specs.State.{Hand, Away, Waiting, Held, Leaving, CoreState, MachineView, blank_core, bucket_at, core_at, hand_at, hand_in}
use Rattle.handover_core.specs.Bucket.{Piece, piece, nexts, opening, places_from, BucketSnapshot, Task, Idle, Awaits, Works, Finishes, Fits, Stage, home, working, passing, over, task_in, IsIn, IsBucket}
use Rattle.handover_core.proofs.Enabled.{IsEnabled}
use Rattle.handover_core.specs.Sound.{pieces, bucket_snapshot, AreOf, IsSound}
use Rattle.handover_core.specs.Promises.{hand_claimed_at, IsOnShelf, IsInHand, IsHeldOnce, AreStreams, Meets, item_bucket, IsInPlace}
use Rattle.handover_core.proofs.Cases.{hand-waits}
use Rattle.handover_core.proofs.Frames.{pieces-here}
use Rattle.handover_core.proofs.Stages.{if-here, if-away, at_owner, waiting-home}

-- who has the table, by the task

pub idle-free : (e : Bool) (h : Hand) (q : List Piece) → Fits Idle e h q → hand_claimed_at h ≡ None
idle-free e Away q f = refl
idle-free e (Waiting ps) q f = refl
idle-free e (Held a d) q f = absurd f
idle-free e (Leaving a d) q f = absurd f

pub awaits-free : (s k : ℕ) (e : Bool) (h : Hand) (q : List Piece) → Fits (Awaits s k) e h q → hand_claimed_at h ≡ None
awaits-free s k e Away q f = refl
awaits-free s k e (Waiting ps) q f = refl
awaits-free s k e (Held a d) q f = absurd f
awaits-free s k e (Leaving a d) q f = absurd f

pub works-holds : (s k : ℕ) (e : Bool) (h : Hand) (q : List Piece) → Fits (Works s k) e h q → hand_claimed_at h ≡ Some s
works-holds s k e Away q f = absurd f
works-holds s k e (Waiting ps) q f = absurd f
works-holds s k e (Held a d) q f = ap Some f.1
works-holds s k e (Leaving a d) q f = ap Some f.0

pub finishes-holds : (s k : ℕ) (e : Bool) (h : Hand) (q : List Piece) → Fits (Finishes s k) e h q → hand_claimed_at h ≡ Some s
finishes-holds s k e Away q f = absurd f
finishes-holds s k e (Waiting ps) q f = absurd f
finishes-holds s k e (Held a d) q f = ap Some f.1
finishes-holds s k e (Leaving a d) q f = ap Some f.0

home-free : (v : BucketSnapshot) → IsIn home v → (c : ℕ) → hand_claimed_at (v.hand c) ≡ None
home-free v i c = by_test c v.owner (λ t. Fits (if t then Awaits v.start v.sent else Idle) (v.ended c) (v.hand c) (v.queue c) → hand_claimed_at (v.hand c) ≡ None)
    (λ _ f. awaits-free v.start v.sent (v.ended c) (v.hand c) (v.queue c) f) (λ _ f. idle-free (v.ended c) (v.hand c) (v.queue c) f) (i.fits c)

working-alone : (v : BucketSnapshot) → IsIn working v → (c : ℕ) → c ≢ v.owner → hand_claimed_at (v.hand c) ≡ None
working-alone v i c ne = idle-free (v.ended c) (v.hand c) (v.queue c) (subst (λ (r : Task). Fits r (v.ended c) (v.hand c) (v.queue c)) (if-away c v.owner (Works v.start v.sent) Idle ne) (i.fits c))

pub at_finisher : (v : BucketSnapshot) (p r : ℕ) → IsIn (passing p r) v → Fits (Finishes r v.start) (v.ended p) (v.hand p) (v.queue p)
at_finisher v p r i = subst (λ (z : Task). Fits z (v.ended p) (v.hand p) (v.queue p))
    (if-away p v.owner (Awaits v.start v.sent) (if p == p then Finishes r v.start else Idle) i.bounds.0 ∙ if-here p (Finishes r v.start) Idle) (i.fits p)

passing-alone : (v : BucketSnapshot) (p r : ℕ) → IsIn (passing p r) v → (c : ℕ) → c ≢ p → hand_claimed_at (v.hand c) ≡ None
passing-alone v p r i c ne = by_test c v.owner (λ t. Fits (if t then Awaits v.start v.sent else (if c == p then Finishes r v.start else Idle)) (v.ended c) (v.hand c) (v.queue c) → hand_claimed_at (v.hand c) ≡ None)
    (λ _ f. awaits-free v.start v.sent (v.ended c) (v.hand c) (v.queue c) f)
    (λ _ f. idle-free (v.ended c) (v.hand c) (v.queue c) (subst (λ (z : Task). Fits z (v.ended c) (v.hand c) (v.queue c)) (if-away c p (Finishes r v.start) Idle ne) f)) (i.fits c)

-- only a core can have a hand
pub holder-core : (m : MachineView) (c b s : ℕ) → hand_claimed_at (hand_at m c b) ≡ Some s → c < length m.cores
holder-core m c b s e = ⊎_elim (λ (l : c < length m.cores). l)
    (λ (l : length m.cores ≤ c). let f = ap (λ (x : CoreState). hand_claimed_at (hand_in x b)) (get_or_past m.cores c blank_core l) in absurd (cc)) (cases_lt c (length m.cores))

one-hand : (m : MachineView) (b : ℕ) (g : Stage) → IsIn g (bucket_snapshot m b) → IsOnShelf m b ⊎ IsInHand m b
one-hand m b home i = inl (record { start = (bucket_at m b).start; word = i.word; shelf = i.shelf; hands = home-free (bucket_snapshot m b) i })
one-hand m b over i = inl (record { start = (bucket_snapshot m b).sent; word = i.word; shelf = i.shelf; hands = λ c. idle-free ((bucket_snapshot m b).ended c) (hand_at m c b) ((bucket_snapshot m b).queue c) (i.fits c) })
one-hand m b working i =
    let v = bucket_snapshot m b in
    let h : hand_claimed_at (v.hand v.owner) ≡ Some v.start = works-holds v.start v.sent (v.ended v.owner) (v.hand v.owner) (v.queue v.owner) (at_owner v (Works v.start v.sent) (λ x. Idle) i.fits) in
    inr (record { start = v.start; core = v.owner; word = i.word; shelf = i.shelf; is_core = holder-core m v.owner b v.start h; holds = h; alone = working-alone v i })
one-hand m b (passing p r) i =
    let v = bucket_snapshot m b in
    let h : hand_claimed_at (v.hand p) ≡ Some r = finishes-holds r v.start (v.ended p) (v.hand p) (v.queue p) (at_finisher v p r i) in
    inr (record { start = r; core = p; word = i.word; shelf = i.shelf; is_core = holder-core m p b r h; holds = h; alone = passing-alone v p r i })

pub held-once : (m : MachineView) → IsSound m → IsHeldOnce m
held-once m s b l = let i = s.buckets.buckets b l in one-hand m b i.stage i.is_in

pub streams-kept : (m : MachineView) → IsSound m → AreStreams m
streams-kept m s = record { order = s.streamed.streams; legal = s.streamed.legal }

-- what an item meets

away-meets : (h : Hand) (s n : ℕ) (x : Piece) (rest : List Piece) → h ≡ Away → x ∷ rest ≡ opening s n → Meets h (Of x.kind 0 x.place)
away-meets h s zero x rest i q = absurd (cc)
away-meets h s (suc n) x rest i q = let kx : piece First s ≡ x = cc in subst (λ (x : Piece). Meets h (Of x.kind 0 x.place)) kx i

waiting-meets : (h : Hand) (p n : ℕ) (places : List ℕ) (x : Piece) (rest : List Piece) → h ≡ Waiting places → x ∷ rest ≡ nexts p n → Meets h (Of x.kind 0 x.place)
waiting-meets h p zero places x rest i q = absurd (cc)
waiting-meets h p (suc n) places x rest i q = let kx : piece Next p ≡ x = cc in subst (λ (x : Piece). Meets h (Of x.kind 0 x.place)) kx (inl (places, i))

held-meets : (h : Hand) (start d n : ℕ) (x : Piece) (rest : List Piece) → h ≡ Held start d → x ∷ rest ≡ nexts d n → Meets h (Of x.kind 0 x.place)
held-meets h start d zero x rest i q = absurd (cc)
held-meets h start d (suc n) x rest i q = let kx : piece Next d ≡ x = cc in subst (λ (x : Piece). Meets h (Of x.kind 0 x.place)) kx (inr (start, i))

last-meets : (h : Hand) (start d n top : ℕ) (x : Piece) (rest : List Piece) → h ≡ Held start d → d + n ≡ top → x ∷ rest ≡ nexts d n ++ piece Mark top ∷ [] → Meets h (Of x.kind 0 x.place)
last-meets h start d zero top x rest i a q =
    let kx : piece Mark top ≡ x = cc in let t : d ≡ top = omega arith in
    subst (λ (x : Piece). Meets h (Of x.kind 0 x.place)) kx (start, i ∙ ap (λ (z : ℕ). Held start z) t)
last-meets h start d (suc n) top x rest i a q = let kx : piece Next d ≡ x = cc in subst (λ (x : Piece). Meets h (Of x.kind 0 x.place)) kx (inr (start, i))

fits-meets : (r : Task) (e : Bool) (h : Hand) (x : Piece) (rest : List Piece) → Fits r e h (x ∷ rest) → Meets h (Of x.kind 0 x.place)
fits-meets Idle e Away x rest f = absurd (cc)
fits-meets Idle e (Waiting ps) x rest f = absurd f
fits-meets Idle e (Held a d) x rest f = absurd f
fits-meets Idle e (Leaving a d) x rest f = absurd f
fits-meets (Awaits s k) e Away x rest f = away-meets Away s f.0 x rest refl f.2
fits-meets (Awaits s k) e (Waiting ps) x rest f = waiting-meets (Waiting ps) (s + f.0) f.1 ps x rest refl f.5
fits-meets (Awaits s k) e (Held a d) x rest f = absurd f
fits-meets (Awaits s k) e (Leaving a d) x rest f = absurd f
fits-meets (Works s k) e Away x rest f = absurd f
fits-meets (Works s k) e (Waiting ps) x rest f = absurd f
fits-meets (Works s k) e (Held a d) x rest f = held-meets (Held a d) a d f.0 x rest refl f.4
fits-meets (Works s k) e (Leaving a d) x rest f = let q = f.3 in absurd (cc)
fits-meets (Finishes s k) e Away x rest f = absurd f
fits-meets (Finishes s k) e (Waiting ps) x rest f = absurd f
fits-meets (Finishes s k) e (Held a d) x rest f = last-meets (Held a d) a d f.0 k x rest refl f.3 f.4
fits-meets (Finishes s k) e (Leaving a d) x rest f = let q = f.3 in absurd (cc)

meets-any : (h : Hand) (kind : Kind) (b place : ℕ) → Meets h (Of kind 0 place) → Meets h (Of kind b place)
meets-any h First b place f = f
meets-any h Next b place f = f
meets-any h Mark b place f = f

pub take-meets : (m : MachineView) → IsSound m → (c : ℕ) (x : Item) (q : List Item) → (core_at m c).queue ≡ x ∷ q → Meets (hand_at m c (item_bucket x)) x
take-meets m s c End q i = tt
take-meets m s c (Of kind b place) q i =
    let l = (subst (λ (z : List Item). AreOf (length m.buckets) z) i (s.shaped.items c)).0 in
    let g = s.buckets.buckets b l in
    meets-any (hand_at m c b) kind b place
    (fits-meets (task_in g.stage (bucket_at m b).owner (bucket_at m b).start (bucket_snapshot m b).sent c) ((bucket_snapshot m b).ended c) (hand_at m c b) (piece kind place) (pieces b q)
    (subst (λ (z : List Piece). Fits (task_in g.stage (bucket_at m b).owner (bucket_at m b).start (bucket_snapshot m b).sent c) ((bucket_snapshot m b).ended c) (hand_at m c b) z) (ap (pieces b) i ∙ pieces-here b kind place q) (g.is_in.fits c)))

pub claim-meets : (v : BucketSnapshot) (c first : ℕ) (rest : List ℕ) → v.hand c ≡ Waiting (first ∷ rest) → v.word ≡ 2 * first + 1 → IsBucket v → (done n : ℕ) × (v.shelf ≡ Some done) × (v.hand c ≡ Waiting (places_from done n))
claim-meets v c first rest h w b =
    let at_home = waiting-home v c first rest h w b.stage b.is_in in
    let f = subst (λ (x : Hand). Fits (Awaits v.start v.sent) (v.ended v.owner) x (v.queue v.owner)) (subst (λ (x : ℕ). v.hand x ≡ Waiting (first ∷ rest)) at_home.0 h) (at_owner v (Awaits v.start v.sent) (λ x. Idle) at_home.1.fits) in
    (v.start, f.0, at_home.1.shelf, h ∙ ap Waiting f.4)

pub in-place : (m : MachineView) (e : Event) → IsSound m → IsEnabled m e → IsInPlace m e
in-place m Send s i = tt
in-place m (Look b) s i = tt
in-place m (Move b to) s i = tt
in-place m (Place b to) s i = tt
in-place m (SendEnd c) s i = tt
in-place m (Take c) s i = take-meets m s c
in-place m (Claim c b) s i = let f = hand-waits (hand_at m c b) (bucket_at m b).word i.2 in claim-meets (bucket_snapshot m b) c f.0 f.1 f.2 f.3 (s.buckets.buckets b i.1)
in-place m (Release c b) s i = tt
