-- Each event keeps what is true of a bucket.
use Rattle.std.proofs.Common.{◌≡◌, ◌≢◌, ℕ, List, [], ◌∷◌, Bool, true, if◌then◌else◌, refl, sym, ap, ◌∙◌, subst, eq-eqb, ne_eqb}
use Rattle.indirection.proofs.Tests.{by_test}
use Rattle.handover_core.specs.State.{Hand}
use Rattle.handover_core.specs.Machine.{met, leave}
use Rattle.handover_core.specs.Bucket.{Piece, BucketSnapshot, Task, Fits, Stage, home, working, passing, over, task_in, word_in, shelf_in, Bounds, IsIn, IsBucket}
use Rattle.handover_core.proofs.Turns.{upd, after_take, after_end}
use Rattle.handover_core.proofs.Fits.{fits-take, fits-end}

-- a snapshot that says the same
pub record IsSame (v w : BucketSnapshot) : Type 0 where
  pub owner : w.owner ≡ v.owner
  pub start : w.start ≡ v.start
  pub word : w.word ≡ v.word
  pub shelf : w.shelf ≡ v.shelf
  pub sent : w.sent ≡ v.sent
  pub stints : w.stints ≡ v.stints
  pub hand : (c : ℕ) → w.hand c ≡ v.hand c
  pub queue : (c : ℕ) → w.queue c ≡ v.queue c
  pub ended : (c : ℕ) → w.ended c ≡ v.ended c

bounds-same : (g : Stage) (v w : BucketSnapshot) → IsSame v w → Bounds g v → Bounds g w
bounds-same home v w s b = rw (s.start, s.sent) b
bounds-same working v w s b = rw (s.start, s.sent) b
bounds-same (passing p r) v w s b = rw (s.owner, s.start, s.sent, s.stints) b
bounds-same over v w s b = (rw (s.start, s.sent) b.0, s.ended w.owner ∙ (ap v.ended s.owner ∙ b.1))

fits-same : (g : Stage) (v w : BucketSnapshot) → IsSame v w → (c : ℕ) → Fits (task_in g v.owner v.start v.sent c) (v.ended c) (v.hand c) (v.queue c) → Fits (task_in g w.owner w.start w.sent c) (w.ended c) (w.hand c) (w.queue c)
fits-same g v w s c f = rw (s.owner, s.start, s.sent, s.ended c, s.hand c, s.queue c) f

is_in-same : (g : Stage) (v w : BucketSnapshot) → IsSame v w → IsIn g v → IsIn g w
is_in-same g v w s i = record {
  word = s.word ∙ (i.word ∙ (ap (λ (x : ℕ). word_in g x v.sent) (sym s.start) ∙ ap (λ (x : ℕ). word_in g w.start x) (sym s.sent)));
  shelf = s.shelf ∙ (i.shelf ∙ (ap (λ (x : ℕ). shelf_in g x v.sent) (sym s.start) ∙ ap (λ (x : ℕ). shelf_in g w.start x) (sym s.sent)));
  bounds = bounds-same g v w s i.bounds;
  fits = λ c. fits-same g v w s c (i.fits c);
}

pub is_bucket-same : (v w : BucketSnapshot) → IsSame v w → IsBucket v → IsBucket w
is_bucket-same v w s b = record { stage = b.stage; is_in = is_in-same b.stage v w s b.is_in; joins = rw (s.stints, s.start) b.joins }

-- the values of a changed function
pub upd-here : {A : Type 0} (f : ℕ → A) (c : ℕ) (x : A) → upd f c x c ≡ x
upd-here f c x = ap (λ (t : Bool). if t then x else f c) (eq-eqb c c refl)

pub upd-away : {A : Type 0} (f : ℕ → A) (c d : ℕ) (x : A) → d ≢ c → upd f c x d ≡ f d
upd-away f c d x ne = ap (λ (t : Bool). if t then x else f d) (ne_eqb d c ne)

-- one core's hand and queue change, and no other task
pub fits-upd : (r s : ℕ → Task) (e : ℕ → Bool) (h : ℕ → Hand) (q : ℕ → List Piece) (c : ℕ) (h1 : Hand) (q1 : List Piece) → ((x : ℕ) → Fits (r x) (e x) (h x) (q x)) → ((x : ℕ) → x ≢ c → s x ≡ r x) → Fits (s c) (e c) h1 q1
    → (x : ℕ) → Fits (s x) (e x) (upd h c h1 x) (upd q c q1 x)
fits-upd r s e h q c h1 q1 all same here x =
    by_test x c (λ t. Fits (s x) (e x) (if t then h1 else h x) (if t then q1 else q x))
    (λ i. subst (λ (y : ℕ). Fits (s y) (e y) h1 q1) (sym i) here)
    (λ ne. subst (λ (y : Task). Fits y (e x) (h x) (q x)) (sym (same x ne)) (all x))

pub fits-queue : (r s : ℕ → Task) (e : ℕ → Bool) (h : ℕ → Hand) (q : ℕ → List Piece) (c : ℕ) (q1 : List Piece) → ((x : ℕ) → Fits (r x) (e x) (h x) (q x)) → ((x : ℕ) → x ≢ c → s x ≡ r x) → Fits (s c) (e c) (h c) q1
    → (x : ℕ) → Fits (s x) (e x) (h x) (upd q c q1 x)
fits-queue r s e h q c q1 all same here x =
    by_test x c (λ t. Fits (s x) (e x) (h x) (if t then q1 else q x))
    (λ i. subst (λ (y : ℕ). Fits (s y) (e y) (h y) q1) (sym i) here)
    (λ ne. subst (λ (y : Task). Fits y (e x) (h x) (q x)) (sym (same x ne)) (all x))

pub fits-hand : (r s : ℕ → Task) (e : ℕ → Bool) (h : ℕ → Hand) (q : ℕ → List Piece) (c : ℕ) (h1 : Hand) → ((x : ℕ) → Fits (r x) (e x) (h x) (q x)) → ((x : ℕ) → x ≢ c → s x ≡ r x) → Fits (s c) (e c) h1 (q c)
    → (x : ℕ) → Fits (s x) (e x) (upd h c h1 x) (q x)
fits-hand r s e h q c h1 all same here x =
    by_test x c (λ t. Fits (s x) (e x) (if t then h1 else h x) (q x))
    (λ i. subst (λ (y : ℕ). Fits (s y) (e y) h1 (q y)) (sym i) here)
    (λ ne. subst (λ (y : Task). Fits y (e x) (h x) (q x)) (sym (same x ne)) (all x))

fits-ended : (r : ℕ → Task) (e : ℕ → Bool) (h : ℕ → Hand) (q : ℕ → List Piece) (c : ℕ) → ((x : ℕ) → Fits (r x) (e x) (h x) (q x)) → q c ≡ []
    → (x : ℕ) → Fits (r x) (upd e c true x) (upd h c (leave (h c)) x) (q x)
fits-ended r e h q c all none x =
    by_test x c (λ t. Fits (r x) (if t then true else e x) (if t then leave (h c) else h x) (q x))
    (λ i. subst (λ (y : ℕ). Fits (r y) true (leave (h c)) (q y)) (sym i) (rw none (fits-end (r c) (e c) (h c) (rw none at (all c)))))
    (λ ne. all x)

-- an item of the bucket is taken
pub take-keeps : (v : BucketSnapshot) (c : ℕ) (x : Piece) (rest : List Piece) → v.queue c ≡ x ∷ rest → IsBucket v → IsBucket (after_take v c x rest)
take-keeps v c x rest q b = record { stage = b.stage; is_in = taken b.stage b.is_in; joins = b.joins } where
  taken : (g : Stage) → IsIn g v → IsIn g (after_take v c x rest)
  taken g i = record {
    word = i.word;
    shelf = i.shelf;
    bounds = bounds g i.bounds;
    fits = fits-upd (task_in g v.owner v.start v.sent) (task_in g v.owner v.start v.sent) v.ended v.hand v.queue c (met (v.hand c) x.kind x.place) rest i.fits (λ d ne. refl)
        (fits-take (task_in g v.owner v.start v.sent c) (v.ended c) (v.hand c) x rest (rw q at (i.fits c)));
  } where
    bounds : (g : Stage) → Bounds g v → Bounds g (after_take v c x rest)
    bounds home a = a
    bounds working a = a
    bounds (passing p r) a = a
    bounds over a = a

-- End is taken, with nothing of the bucket behind it
pub end-keeps : (v : BucketSnapshot) (c : ℕ) → v.queue c ≡ [] → IsBucket v → IsBucket (after_end v c)
end-keeps v c q b = record { stage = b.stage; is_in = taken b.stage b.is_in; joins = b.joins } where
  bounds : (g : Stage) → Bounds g v → Bounds g (after_end v c)
  bounds home a = a
  bounds working a = a
  bounds (passing p r) a = a
  bounds over a = (a.0, by_test v.owner c (λ t. (if t then true else v.ended v.owner) ≡ true) (λ _. refl) (λ _. a.1))

  taken : (g : Stage) → IsIn g v → IsIn g (after_end v c)
  taken g i = record {
    word = i.word;
    shelf = i.shelf;
    bounds = bounds g i.bounds;
    fits = fits-ended (task_in g v.owner v.start v.sent) v.ended v.hand v.queue c i.fits q;
  }
