-- The events that change a bucket's numbers keep what is true of it.
use Rattle.std.proofs.Common.{◌≡◌, ◌≢◌, ℕ, ◌+◌, ◌*◌, ◌<◌, List, [], ◌∷◌, ◌++◌, length, Bool, true, false, if◌then◌else◌, ◌==◌, refl, sym, ap, ◌∙◌, subst, eq-eqb, ne_eqb, arith, Some, ◌⊎◌, inl, inr}
use Rattle.indirection.specs.Stints.{Stint, Joins}
use Rattle.indirection.proofs.Tests.{by_test}
use Rattle.handover_core.specs.declared.item.Kind.TheVariants.{Mark}
use Rattle.handover_core.specs.State.{Hand, Away, Waiting, Held, Leaving}
use Rattle.handover_core.specs.Dispatch.{kind_at}
use Rattle.handover_core.specs.Machine.{leave, shelf_done}
use Rattle.handover_core.specs.Bucket.{Piece, piece, BucketSnapshot, Task, Idle, Awaits, Works, Finishes, Fits, Stage, home, working, passing, over, task_in, stint_of, IsIn, IsBucket}
use Rattle.handover_core.proofs.Turns.{upd, after_send, after_move, after_place, after_claim, after_release}
use Rattle.handover_core.proofs.Fits.{awaits-send, works-send, works-mark, awaits-claim, idle-awaits, awaits-none, awaits-first}
use Rattle.handover_core.proofs.Buckets.{upd-away, fits-queue, fits-hand}

pub if-here : {A : Type 0} (x : ℕ) (a b : A) → (if x == x then a else b) ≡ a
if-here x a b = ap (λ (t : Bool). if t then a else b) (eq-eqb x x refl)

pub if-away : {A : Type 0} (x y : ℕ) (a b : A) → x ≢ y → (if x == y then a else b) ≡ b
if-away x y a b ne = ap (λ (t : Bool). if t then a else b) (ne_eqb x y ne)

-- one more packet

send-fits : (v : BucketSnapshot) (s1 : Task) (away : ℕ → Task) → Fits s1 (v.ended v.owner) (v.hand v.owner) (v.queue v.owner ++ piece (kind_at v.start v.sent) v.sent ∷ []) → (r1 : Task) → ((x : ℕ) → Fits (if x == v.owner then r1 else away x) (v.ended x) (v.hand x) (v.queue x))
    → (x : ℕ) → Fits (if x == v.owner then s1 else away x) (v.ended x) (v.hand x) (upd v.queue v.owner (v.queue v.owner ++ piece (kind_at v.start v.sent) v.sent ∷ []) x)
send-fits v s1 away here r1 all =
    fits-queue (λ x. if x == v.owner then r1 else away x) (λ x. if x == v.owner then s1 else away x) v.ended v.hand v.queue v.owner (v.queue v.owner ++ piece (kind_at v.start v.sent) v.sent ∷ []) all
    (λ x ne. if-away x v.owner s1 (away x) ne ∙ sym (if-away x v.owner r1 (away x) ne))
    (subst (λ (r : Task). Fits r (v.ended v.owner) (v.hand v.owner) (v.queue v.owner ++ piece (kind_at v.start v.sent) v.sent ∷ [])) (sym (if-here v.owner s1 (away v.owner))) here)

pub at_owner : (v : BucketSnapshot) (r1 : Task) (away : ℕ → Task) → ((x : ℕ) → Fits (if x == v.owner then r1 else away x) (v.ended x) (v.hand x) (v.queue x)) → Fits r1 (v.ended v.owner) (v.hand v.owner) (v.queue v.owner)
at_owner v r1 away all = subst (λ (r : Task). Fits r (v.ended v.owner) (v.hand v.owner) (v.queue v.owner)) (if-here v.owner r1 (away v.owner)) (all v.owner)

sent-in : (v : BucketSnapshot) → v.ended v.owner ≡ false → (g : Stage) → IsIn g v → IsIn g (after_send v)
sent-in v o home i = record {
  word = i.word;
  shelf = i.shelf;
  bounds = let b = i.bounds in omega arith;
  fits = send-fits v (Awaits v.start (v.sent + 1)) (λ x. Idle) (awaits-send v.start v.sent (v.ended v.owner) (v.hand v.owner) (v.queue v.owner) (at_owner v (Awaits v.start v.sent) (λ x. Idle) i.fits)) (Awaits v.start v.sent) i.fits;
}
sent-in v o working i = record {
  word = i.word;
  shelf = i.shelf;
  bounds = let b = i.bounds in omega arith;
  fits = send-fits v (Works v.start (v.sent + 1)) (λ x. Idle) (works-send v.start v.sent (v.ended v.owner) (v.hand v.owner) (v.queue v.owner) o (at_owner v (Works v.start v.sent) (λ x. Idle) i.fits)) (Works v.start v.sent) i.fits;
}
sent-in v o (passing p r) i = record {
  word = i.word;
  shelf = i.shelf;
  bounds = let b = i.bounds.2 in (i.bounds.0, i.bounds.1, omega arith, i.bounds.3);
  fits = send-fits v (Awaits v.start (v.sent + 1)) (λ x. if x == p then Finishes r v.start else Idle)
      (awaits-send v.start v.sent (v.ended v.owner) (v.hand v.owner) (v.queue v.owner) (at_owner v (Awaits v.start v.sent) (λ x. if x == p then Finishes r v.start else Idle) i.fits)) (Awaits v.start v.sent) i.fits;
}
sent-in v o over i = let t = i.bounds.1 in absurd (cc)

pub send-keeps : (v : BucketSnapshot) → v.ended v.owner ≡ false → IsBucket v → IsBucket (after_send v)
send-keeps v o b = record { stage = b.stage; is_in = sent-in v o b.stage b.is_in; joins = b.joins }

-- a move

Joins-push : (from : ℕ) (ss : List Stint) (to t c : ℕ) → Joins from ss to → to < t → Joins from (ss ++ stint_of c to t ∷ []) t
Joins-push from [] to t c j l = (sym j, omega arith, refl)
Joins-push from (s ∷ ss) to t c j l = (j.0, j.1, Joins-push s.to ss to t c j.2 l)

moved-in : (v : BucketSnapshot) (to : ℕ) → v.ended v.owner ≡ false → to ≢ v.owner → IsIn working v → IsIn (passing v.owner v.start) (after_move v to)
moved-in v to o ne i = record {
  word = i.word;
  shelf = i.shelf;
  bounds = (λ e. ne (sym e), i.bounds, omega arith, (v.stints, refl));
  fits = λ x. by_test x to (λ t. Fits (if t then Awaits v.sent v.sent else (if x == v.owner then Finishes v.start v.sent else Idle)) (v.ended x) (v.hand x) (upd v.queue v.owner marked x))
      (λ e. subst (λ (y : ℕ). Fits (Awaits v.sent v.sent) (v.ended y) (v.hand y) (upd v.queue v.owner marked y)) (sym e)
      (rw (upd-away v.queue v.owner to marked ne) (idle-awaits v.sent v.sent (v.ended to) (v.hand to) (v.queue to) refl (idle to ne))))
      (λ n. by_test x v.owner (λ t. Fits (if t then Finishes v.start v.sent else Idle) (v.ended x) (v.hand x) (if t then marked else v.queue x))
      (λ e. subst (λ (y : ℕ). Fits (Finishes v.start v.sent) (v.ended y) (v.hand y) marked) (sym e)
      (works-mark v.start v.sent (v.ended v.owner) (v.hand v.owner) (v.queue v.owner) o (at_owner v (Works v.start v.sent) (λ x. Idle) i.fits)))
      (λ m. idle x m));
} where
  marked : List Piece
  marked = v.queue v.owner ++ piece Mark v.sent ∷ []

  idle : (x : ℕ) → x ≢ v.owner → Fits Idle (v.ended x) (v.hand x) (v.queue x)
  idle x n = subst (λ (r : Task). Fits r (v.ended x) (v.hand x) (v.queue x)) (if-away x v.owner (Works v.start v.sent) Idle n) (i.fits x)

works_only : (v : BucketSnapshot) → v.ended v.owner ≡ false → v.word ≡ 2 * v.start + 2 → (g : Stage) → IsIn g v → IsIn working v
works_only v o w home i = let e = i.word in absurd (omega arith)
works_only v o w working i = i
works_only v o w (passing p r) i = let e = i.word in let l = i.bounds.1 in absurd (omega arith)
works_only v o w over i = let t = i.bounds.1 in absurd (cc)

pub move-keeps : (v : BucketSnapshot) (to : ℕ) → v.ended v.owner ≡ false → v.word ≡ 2 * v.start + 2 → to ≢ v.owner → IsBucket v → IsBucket (after_move v to)
move-keeps v to o w ne b = record {
  stage = passing v.owner v.start;
  is_in = moved-in v to o ne (works_only v o w b.stage b.is_in);
  joins = Joins-push 0 v.stints v.start v.sent v.owner b.joins (works_only v o w b.stage b.is_in).bounds;
}

-- a bucket of which nothing was sent

placed-in : (v : BucketSnapshot) (to : ℕ) → v.sent ≡ 0 → (g : Stage) → IsIn g v → IsIn home (after_place v to)
placed-in v to z working i = let b = i.bounds in absurd (omega arith)
placed-in v to z (passing p r) i = let b = i.bounds.1 in let d = i.bounds.2 in absurd (omega arith)
placed-in v to z over i = let b = i.bounds.0 in absurd (omega arith)
placed-in v to z home i = record {
  word = i.word;
  shelf = i.shelf;
  bounds = i.bounds;
  fits = λ x. by_test x to (λ t. Fits (if t then Awaits v.start v.sent else Idle) (v.ended x) (v.hand x) (v.queue x))
      (λ _. let b = i.bounds in idle-awaits v.start v.sent (v.ended x) (v.hand x) (v.queue x) (omega arith) (idle x))
      (λ _. idle x);
} where
  idle : (x : ℕ) → Fits Idle (v.ended x) (v.hand x) (v.queue x)
  idle x = by_test x v.owner (λ t. Fits (if t then Awaits v.start v.sent else Idle) (v.ended x) (v.hand x) (v.queue x) → Fits Idle (v.ended x) (v.hand x) (v.queue x))
      (λ _ f. awaits-none v.start v.sent (v.ended x) (v.hand x) (v.queue x) z f) (λ _ f. f) (i.fits x)

pub place-keeps : (v : BucketSnapshot) (to : ℕ) → v.sent ≡ 0 → IsBucket v → IsBucket (after_place v to)
place-keeps v to z b = record { stage = home; is_in = placed-in v to z b.stage b.is_in; joins = b.joins }

-- a claim

claimed-in : (v : BucketSnapshot) (first : ℕ) (rest : List ℕ) → v.hand v.owner ≡ Waiting (first ∷ rest) → (v.ended v.owner ≡ true → v.queue v.owner ≡ []) → IsIn home v → IsIn working (after_claim v v.owner first (first ∷ rest))
claimed-in v first rest h none i = record {
  word = ap (λ (x : ℕ). 2 * x + 2) starts.0;
  shelf = refl;
  bounds = starts.1;
  fits = fits-hand (task_in home v.owner v.start v.sent) (task_in working v.owner v.start v.sent) v.ended v.hand v.queue v.owner hand i.fits
      (λ x ne. if-away x v.owner (Works v.start v.sent) Idle ne ∙ sym (if-away x v.owner (Awaits v.start v.sent) Idle ne))
      (subst (λ (r : Task). Fits r (v.ended v.owner) hand (v.queue v.owner)) (sym (if-here v.owner (Works v.start v.sent) Idle))
      (rw (i.shelf, starts.0) (held (v.ended v.owner) (awaits-claim v.start v.sent (v.ended v.owner) (first ∷ rest) (v.queue v.owner) waits none))));
} where
  waits : Fits (Awaits v.start v.sent) (v.ended v.owner) (Waiting (first ∷ rest)) (v.queue v.owner)
  waits = subst (λ (x : Hand). Fits (Awaits v.start v.sent) (v.ended v.owner) x (v.queue v.owner)) h (at_owner v (Awaits v.start v.sent) (λ x. Idle) i.fits)

  starts : (first ≡ v.start) × (v.start < v.sent)
  starts = awaits-first v.start v.sent (v.ended v.owner) first rest (v.queue v.owner) waits

  hand : Hand
  hand = if v.ended v.owner then leave (Held first (shelf_done v.shelf + length (first ∷ rest))) else Held first (shelf_done v.shelf + length (first ∷ rest))

  held : (e : Bool) → Fits (Works v.start v.sent) e (if e then Leaving v.start (v.start + length (first ∷ rest)) else Held v.start (v.start + length (first ∷ rest))) (v.queue v.owner)
      → Fits (Works v.start v.sent) e (if e then leave (Held v.start (v.start + length (first ∷ rest))) else Held v.start (v.start + length (first ∷ rest))) (v.queue v.owner)
  held true f = f
  held false f = f

pub waiting-home : (v : BucketSnapshot) (c first : ℕ) (rest : List ℕ) → v.hand c ≡ Waiting (first ∷ rest) → v.word ≡ 2 * first + 1 → (g : Stage) → IsIn g v → (c ≡ v.owner) × IsIn home v
waiting-home v c first rest h w g i = at_stage g i (subst (λ (x : Hand). Fits (task_in g v.owner v.start v.sent c) (v.ended c) x (v.queue c)) h (i.fits c)) where
  at_stage : (g : Stage) → IsIn g v → Fits (task_in g v.owner v.start v.sent c) (v.ended c) (Waiting (first ∷ rest)) (v.queue c) → (c ≡ v.owner) × IsIn home v
  at_stage home i f = by_test c v.owner (λ t. Fits (if t then Awaits v.start v.sent else Idle) (v.ended c) (Waiting (first ∷ rest)) (v.queue c) → (c ≡ v.owner) × IsIn home v)
      (λ e _. (e, i)) (λ _ f. absurd f) f
  at_stage working i f = by_test c v.owner (λ t. Fits (if t then Works v.start v.sent else Idle) (v.ended c) (Waiting (first ∷ rest)) (v.queue c) → (c ≡ v.owner) × IsIn home v)
      (λ _ f. absurd f) (λ _ f. absurd f) f
  at_stage (passing p r) i f = let e = i.word in absurd (omega arith)
  at_stage over i f = absurd f

pub claim-keeps : (v : BucketSnapshot) (c first : ℕ) (rest : List ℕ) → v.hand c ≡ Waiting (first ∷ rest) → v.word ≡ 2 * first + 1 → (v.ended c ≡ true → v.queue c ≡ []) → IsBucket v → IsBucket (after_claim v c first (first ∷ rest))
claim-keeps v c first rest h w none b = record {
  stage = working;
  is_in = subst (λ (x : ℕ). IsIn working (after_claim v x first (first ∷ rest))) (sym at_home.0)
      (claimed-in v first rest (subst (λ (x : ℕ). v.hand x ≡ Waiting (first ∷ rest)) at_home.0 h) (subst (λ (x : ℕ). v.ended x ≡ true → v.queue x ≡ []) at_home.0 none) at_home.1);
  joins = b.joins;
} where
  at_home : (c ≡ v.owner) × IsIn home v
  at_home = waiting-home v c first rest h w b.stage b.is_in

pub claim-first : (v : BucketSnapshot) (c first : ℕ) (rest : List ℕ) → v.hand c ≡ Waiting (first ∷ rest) → v.word ≡ 2 * first + 1 → IsBucket v → first ≡ v.start
claim-first v c first rest h w b = (awaits-first v.start v.sent (v.ended v.owner) first rest (v.queue v.owner)
    (subst (λ (x : Hand). Fits (Awaits v.start v.sent) (v.ended v.owner) x (v.queue v.owner)) (subst (λ (x : ℕ). v.hand x ≡ Waiting (first ∷ rest)) at_home.0 h) (at_owner v (Awaits v.start v.sent) (λ x. Idle) at_home.1.fits))).0 where
      at_home : (c ≡ v.owner) × IsIn home v
      at_home = waiting-home v c first rest h w b.stage b.is_in

-- a release

released-over : (v : BucketSnapshot) (a d : ℕ) → v.hand v.owner ≡ Leaving a d → IsIn working v → IsIn over (after_release v v.owner d)
released-over v a d h i = record {
  word = ap (λ (x : ℕ). 2 * x + 1) f.2;
  shelf = ap Some f.2;
  bounds = (i.bounds, f.4);
  fits = fits-hand (task_in working v.owner v.start v.sent) (λ x. Idle) v.ended v.hand v.queue v.owner Away i.fits (λ x ne. sym (if-away x v.owner (Works v.start v.sent) Idle ne)) f.3;
} where
  f : Fits (Works v.start v.sent) (v.ended v.owner) (Leaving a d) (v.queue v.owner)
  f = subst (λ (x : Hand). Fits (Works v.start v.sent) (v.ended v.owner) x (v.queue v.owner)) h (at_owner v (Works v.start v.sent) (λ x. Idle) i.fits)

released-home : (v : BucketSnapshot) (p r a d : ℕ) → v.hand p ≡ Leaving a d → IsIn (passing p r) v → IsIn home (after_release v p d)
released-home v p r a d h i = record {
  word = ap (λ (x : ℕ). 2 * x + 1) f.2;
  shelf = ap Some f.2;
  bounds = i.bounds.2;
  fits = fits-hand (task_in (passing p r) v.owner v.start v.sent) (task_in home v.owner v.start v.sent) v.ended v.hand v.queue p Away i.fits
      (λ x ne. sym (ap (λ (z : Task). if x == v.owner then Awaits v.start v.sent else z) (if-away x p (Finishes r v.start) Idle ne)))
      (subst (λ (z : Task). Fits z (v.ended p) Away (v.queue p)) (sym (if-away p v.owner (Awaits v.start v.sent) Idle i.bounds.0)) f.3);
} where
  f : Fits (Finishes r v.start) (v.ended p) (Leaving a d) (v.queue p)
  f = subst (λ (x : Hand). Fits (Finishes r v.start) (v.ended p) x (v.queue p)) h
      (subst (λ (z : Task). Fits z (v.ended p) (v.hand p) (v.queue p)) (if-away p v.owner (Awaits v.start v.sent) (if p == p then Finishes r v.start else Idle) i.bounds.0 ∙ if-here p (Finishes r v.start) Idle) (i.fits p))

pub release-keeps : (v : BucketSnapshot) (c a d : ℕ) → v.hand c ≡ Leaving a d → IsBucket v → IsBucket (after_release v c d)
release-keeps v c a d h b = at_stage b.stage b.is_in (subst (λ (x : Hand). Fits (task_in b.stage v.owner v.start v.sent c) (v.ended c) x (v.queue c)) h (b.is_in.fits c)) where
  at_stage : (g : Stage) → IsIn g v → Fits (task_in g v.owner v.start v.sent c) (v.ended c) (Leaving a d) (v.queue c) → IsBucket (after_release v c d)
  at_stage home i f = absurd (by_test c v.owner (λ t. Fits (if t then Awaits v.start v.sent else Idle) (v.ended c) (Leaving a d) (v.queue c) → ⊥) (λ _ f. f) (λ _ f. f) f)
  at_stage working i f = by_test c v.owner (λ t. Fits (if t then Works v.start v.sent else Idle) (v.ended c) (Leaving a d) (v.queue c) → IsBucket (after_release v c d))
      (λ e _. record { stage = over; is_in = subst (λ (x : ℕ). IsIn over (after_release v x d)) (sym e) (released-over v a d (subst (λ (x : ℕ). v.hand x ≡ Leaving a d) e h) i); joins = b.joins })
      (λ _ f. absurd f) f
  at_stage (passing p r) i f = by_test c v.owner (λ t. Fits (if t then Awaits v.start v.sent else (if c == p then Finishes r v.start else Idle)) (v.ended c) (Leaving a d) (v.queue c) → IsBucket (after_release v c d))
      (λ _ f. absurd f)
      (λ _ f. by_test c p (λ t. Fits (if t then Finishes r v.start else Idle) (v.ended c) (Leaving a d) (v.queue c) → IsBucket (after_release v c d))
      (λ e _. record { stage = home; is_in = subst (λ (x : ℕ). IsIn home (after_release v x d)) (sym e) (released-home v p r a d (subst (λ (x : ℕ). v.hand x ≡ Leaving a d) e h) i); joins = b.joins })
      (λ _ f. absurd f) f) f
  at_stage over i f = absurd f

-- while no End was sent, nothing is to be released of a bucket that its owner works
pub no-release : (v : BucketSnapshot) (c a d : ℕ) → v.ended v.owner ≡ false → v.word ≡ 2 * v.start + 2 → v.hand c ≡ Leaving a d → IsBucket v → ⊥
no-release v c a d o w h b = by_test c v.owner (λ t. Fits (if t then Works v.start v.sent else Idle) (v.ended c) (Leaving a d) (v.queue c) → ⊥)
    (λ e f. let t = f.4 in let g : v.ended c ≡ false = ap v.ended e ∙ o in cc) (λ _ f. f)
    (subst (λ (x : Hand). Fits (task_in working v.owner v.start v.sent c) (v.ended c) x (v.queue c)) h ((works_only v o w b.stage b.is_in).fits c))

-- a table that is to be released was worked by the owner to the last packet, or by the core of the stint before to the newest start
pub leaving-is : (v : BucketSnapshot) (c a d : ℕ) → v.hand c ≡ Leaving a d → IsBucket v → ((v.word ≡ 2 * v.start + 2) × (d ≡ v.sent) × (v.start < v.sent)) ⊎ ((v.word < 2 * v.start + 1) × (d ≡ v.start))
leaving-is v c a d h b = at_stage b.stage b.is_in (subst (λ (x : Hand). Fits (task_in b.stage v.owner v.start v.sent c) (v.ended c) x (v.queue c)) h (b.is_in.fits c)) where
  at_stage : (g : Stage) → IsIn g v → Fits (task_in g v.owner v.start v.sent c) (v.ended c) (Leaving a d) (v.queue c) → ((v.word ≡ 2 * v.start + 2) × (d ≡ v.sent) × (v.start < v.sent)) ⊎ ((v.word < 2 * v.start + 1) × (d ≡ v.start))
  at_stage home i f = absurd (by_test c v.owner (λ t. Fits (if t then Awaits v.start v.sent else Idle) (v.ended c) (Leaving a d) (v.queue c) → ⊥) (λ _ f. f) (λ _ f. f) f)
  at_stage working i f = by_test c v.owner (λ t. Fits (if t then Works v.start v.sent else Idle) (v.ended c) (Leaving a d) (v.queue c) → ((v.word ≡ 2 * v.start + 2) × (d ≡ v.sent) × (v.start < v.sent)) ⊎ ((v.word < 2 * v.start + 1) × (d ≡ v.start)))
      (λ _ f. inl (i.word, f.2, i.bounds)) (λ _ f. absurd f) f
  at_stage (passing p r) i f = by_test c v.owner (λ t. Fits (if t then Awaits v.start v.sent else (if c == p then Finishes r v.start else Idle)) (v.ended c) (Leaving a d) (v.queue c) → ((v.word ≡ 2 * v.start + 2) × (d ≡ v.sent) × (v.start < v.sent)) ⊎ ((v.word < 2 * v.start + 1) × (d ≡ v.start)))
      (λ _ f. absurd f)
      (λ _ f. by_test c p (λ t. Fits (if t then Finishes r v.start else Idle) (v.ended c) (Leaving a d) (v.queue c) → ((v.word ≡ 2 * v.start + 2) × (d ≡ v.sent) × (v.start < v.sent)) ⊎ ((v.word < 2 * v.start + 1) × (d ≡ v.start)))
      (λ _ f. let w = i.word in let l = i.bounds.1 in inr (omega arith, f.2)) (λ _ f. absurd f) f) f
  at_stage over i f = absurd f
