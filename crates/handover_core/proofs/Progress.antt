-- Where not all cells are free, a worker's event is enabled.
use Rattle.std.proofs.Common.{◌≡◌, ◌≢◌, ℕ, zero, suc, ◌+◌, ◌*◌, ◌<◌, ◌≤◌, List, [], ◌∷◌, ◌++◌, length, get_or, Bool, true, false, if◌then◌else◌, ltb, refl, sym, ap, subst, ⊎_elim, arith}
use Rattle.std.proofs.lemmas.Bool.{cases_lt, lt-ltb, and_from, eq-eqb}
use Rattle.std.proofs.lemmas.List.Sums.{sum_by-cons}
use Rattle.std.specs.Prelude.{sum_by, not}
use Rattle.std.proofs.lemmas.Bool.{not_from_false}
use Rattle.indirection.proofs.Tests.{by_test}
use Rattle.handover_core.specs.declared.item.Item.{Item}
use Rattle.handover_core.specs.declared.item.Kind.TheVariants.{Mark}
use Rattle.handover_core.specs.declared.event.Event.{Event}
use Rattle.handover_core.specs.declared.event.Event.TheVariants.{Take, Claim, Release}
use Rattle.handover_core.specs.State.{Hand, Away, Waiting, Held, Leaving, MachineView, blank_core, bucket_at, core_at, hand_at}
use Rattle.handover_core.specs.Machine.{enabled, is_empty, waiting_places, waits_for, is_leaving}
use Rattle.handover_core.specs.Bucket.{Piece, piece, nexts, places_from, BucketSnapshot, Idle, Awaits, Works, Finishes, Fits, Stage, home, working, passing, over, IsIn}
use Rattle.handover_core.specs.Sound.{pieces, bucket_snapshot, cells_in, IsSound}
use Rattle.handover_core.specs.Promises.{IsOfWorker}
use Rattle.handover_core.proofs.Counted.{cells_of, waiting_in, cells-split, cells-nothing}
use Rattle.handover_core.proofs.OneHand.{at_finisher, finishes-holds, holder-core}

-- a sum that isn't 0 has an element that isn't
sum-some : {A : Type 0} (f : A → ℕ) (d : A) (xs : List A) → 0 < sum_by f xs → (i : ℕ) × (i < length xs) × (0 < f (get_or xs i d))
sum-some f d [] l = absurd (omega arith)
sum-some f d (x ∷ xs) l = ⊎_elim
    (λ (h : 0 < f x). (0, omega arith, h))
    (λ (h : f x ≤ 0). let e = sum_by-cons f x xs in let r = sum-some f d xs (omega arith) in (suc r.0, (let b = r.1 in omega arith), r.2))
    (cases_lt 0 (f x))

waiting-some : (hs : List Hand) → 0 < waiting_in hs → (i : ℕ) × (i < length hs) × (0 < length (waiting_places (get_or hs i Away)))
unfolding waiting_in
waiting-some hs l = sum-some (λ (h : Hand). length (waiting_places h)) Away hs l

full-queue : (xs : List Item) → 0 < cells_of xs → is_empty xs ≡ false
full-queue [] l = absurd (let e = cells-nothing in omega arith)
full-queue (x ∷ xs) l = refl

pub take-enabled : (m : MachineView) (c : ℕ) → c < length m.cores → is_empty (core_at m c).queue ≡ false → enabled m (Take c) ≡ true
take-enabled m c l e = and_from (ltb c (length m.cores)) (not (is_empty (core_at m c).queue)) (lt-ltb c (length m.cores) l) (not_from_false (is_empty (core_at m c).queue) e)

pub claim-enabled : (m : MachineView) (c b : ℕ) → c < length m.cores → b < length m.buckets → waits_for (hand_at m c b) (bucket_at m b).word ≡ true → enabled m (Claim c b) ≡ true
claim-enabled m c b l lb e = and_from (ltb c (length m.cores)) _ (lt-ltb c (length m.cores) l) (and_from (ltb b (length m.buckets)) (waits_for (hand_at m c b) (bucket_at m b).word) (lt-ltb b (length m.buckets) lb) e)

pub release-enabled : (m : MachineView) (c b : ℕ) → c < length m.cores → b < length m.buckets → is_leaving (hand_at m c b) ≡ true → enabled m (Release c b) ≡ true
release-enabled m c b l lb e = and_from (ltb c (length m.cores)) _ (lt-ltb c (length m.cores) l) (and_from (ltb b (length m.buckets)) (is_leaving (hand_at m c b)) (lt-ltb b (length m.buckets) lb) e)

-- a bucket that waits is claimed, or its earlier holder goes on

waits-head : (s j w : ℕ) (places : List ℕ) → 0 < j → places ≡ places_from s j → w ≡ 2 * s + 1 → waits_for (Waiting places) w ≡ true
waits-head s zero w places l e i = absurd (omega arith)
waits-head s (suc j) w places l e i = subst (λ (ps : List ℕ). waits_for (Waiting ps) w ≡ true) (sym e) (eq-eqb w (2 * s + 1) i)

awaits-claims : (s k w : ℕ) (e : Bool) (h : Hand) (q : List Piece) → Fits (Awaits s k) e h q → 0 < length (waiting_places h) → w ≡ 2 * s + 1 → waits_for h w ≡ true
awaits-claims s k w e Away q f l i = absurd (omega arith)
awaits-claims s k w e (Waiting ps) q f l i = waits-head s f.0 w ps f.2 f.4 i
awaits-claims s k w e (Held a d) q f l i = absurd f
awaits-claims s k w e (Leaving a d) q f l i = absurd f

idle-waiting_places : (e : Bool) (h : Hand) (q : List Piece) → Fits Idle e h q → 0 < length (waiting_places h) → ⊥
idle-waiting_places e Away q f l = omega arith
idle-waiting_places e (Waiting ps) q f l = f
idle-waiting_places e (Held a d) q f l = f
idle-waiting_places e (Leaving a d) q f l = f

works-waiting_places : (s k : ℕ) (e : Bool) (h : Hand) (q : List Piece) → Fits (Works s k) e h q → 0 < length (waiting_places h) → ⊥
works-waiting_places s k e Away q f l = f
works-waiting_places s k e (Waiting ps) q f l = f
works-waiting_places s k e (Held a d) q f l = omega arith
works-waiting_places s k e (Leaving a d) q f l = omega arith

finishes-waiting_places : (s k : ℕ) (e : Bool) (h : Hand) (q : List Piece) → Fits (Finishes s k) e h q → 0 < length (waiting_places h) → ⊥
finishes-waiting_places s k e Away q f l = f
finishes-waiting_places s k e (Waiting ps) q f l = f
finishes-waiting_places s k e (Held a d) q f l = omega arith
finishes-waiting_places s k e (Leaving a d) q f l = omega arith

some-piece : (b : ℕ) (xs : List Item) (d n k : ℕ) → pieces b xs ≡ nexts d n ++ piece Mark k ∷ [] → is_empty xs ≡ false
some-piece b [] d zero k e = absurd (cc)
some-piece b [] d (suc n) k e = absurd (cc)
some-piece b (x ∷ xs) d n k e = refl

abbrev pub Acts : MachineView → Type 0
Acts m = (e : Event) × IsOfWorker e × (enabled m e ≡ true)

finisher-goes : (m : MachineView) (b p r s : ℕ) (e : Bool) (h : Hand) → h ≡ hand_at m p b → p < length m.cores → b < length m.buckets → Fits (Finishes r s) e h (pieces b (core_at m p).queue) → Acts m
finisher-goes m b p r s e Away i l lb f = absurd f
finisher-goes m b p r s e (Waiting ps) i l lb f = absurd f
finisher-goes m b p r s e (Held a d) i l lb f = (Take p, tt, take-enabled m p l (some-piece b (core_at m p).queue d f.0 s f.4))
finisher-goes m b p r s e (Leaving a d) i l lb f = (Release p b, tt, release-enabled m p b l lb (ap is_leaving (sym i)))

waiting-goes : (m : MachineView) (c b : ℕ) (g : Stage) → IsIn g (bucket_snapshot m b) → c < length m.cores → b < length m.buckets → 0 < length (waiting_places (hand_at m c b)) → Acts m
waiting-goes m c b home i l lb p = by_test c v.owner (λ t. Fits (if t then Awaits v.start v.sent else Idle) (v.ended c) (v.hand c) (v.queue c) → Acts m)
    (λ _ f. (Claim c b, tt, claim-enabled m c b l lb (awaits-claims v.start v.sent v.word (v.ended c) (v.hand c) (v.queue c) f p i.word)))
    (λ _ f. absurd (idle-waiting_places (v.ended c) (v.hand c) (v.queue c) f p)) (i.fits c) where
      v : BucketSnapshot
      v = bucket_snapshot m b
waiting-goes m c b working i l lb p = absurd (by_test c v.owner (λ t. Fits (if t then Works v.start v.sent else Idle) (v.ended c) (v.hand c) (v.queue c) → ⊥)
    (λ _ f. works-waiting_places v.start v.sent (v.ended c) (v.hand c) (v.queue c) f p)
    (λ _ f. idle-waiting_places (v.ended c) (v.hand c) (v.queue c) f p) (i.fits c)) where
      v : BucketSnapshot
      v = bucket_snapshot m b
waiting-goes m c b (passing q r) i l lb p =
    let v = bucket_snapshot m b in
    let f = at_finisher v q r i in
    finisher-goes m b q r v.start (v.ended q) (v.hand q) refl (holder-core m q b r (finishes-holds r v.start (v.ended q) (v.hand q) (v.queue q) f)) lb f
waiting-goes m c b over i l lb p = absurd (idle-waiting_places ((bucket_snapshot m b).ended c) (hand_at m c b) ((bucket_snapshot m b).queue c) (i.fits c) p)

core-goes : (m : MachineView) (c : ℕ) → IsSound m → c < length m.cores → 0 < cells_in (core_at m c) → Acts m
core-goes m c s l h = ⊎_elim
    (λ (q : 0 < cells_of (core_at m c).queue). (Take c, tt, take-enabled m c l (full-queue (core_at m c).queue q)))
    (λ (q : cells_of (core_at m c).queue ≤ 0).
    let e = cells-split (core_at m c) in
    let w = waiting-some (core_at m c).hands (omega arith) in
    let lb : w.0 < length m.buckets = subst (λ (n : ℕ). w.0 < n) (s.shaped.hands c l) w.1 in
    waiting-goes m c w.0 (s.buckets.buckets w.0 lb).stage (s.buckets.buckets w.0 lb).is_in l lb w.2)
    (cases_lt 0 (cells_of (core_at m c).queue))

-- a dispatcher that waits for a cell never waits alone
pub worker-goes : (m : MachineView) → IsSound m → m.free ≢ m.pool → Acts m
worker-goes m s ne =
    let c = s.counted.cells in
    let i = sum-some cells_in blank_core m.cores (let n = ne in omega arith) in
    core-goes m i.0 s i.1 i.2

-- what waits has a worker's event before it
pub waiting-acts : (m : MachineView) → IsSound m → (c b : ℕ) → c < length m.cores → b < length m.buckets → 0 < length (waiting_places (hand_at m c b)) → Acts m
waiting-acts m s c b l lb p = waiting-goes m c b (s.buckets.buckets b lb).stage (s.buckets.buckets b lb).is_in l lb p
