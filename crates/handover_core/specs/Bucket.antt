-- What is true of one bucket in every state that a run comes to.
use Rattle.std.specs.Prelude.{◌≡◌, ◌≢◌, ℕ, zero, suc, ◌+◌, ◌*◌, ◌<◌, ◌≤◌, List, [], ◌∷◌, ◌++◌, Bool, true, false, if◌then◌else◌, ◌==◌, Option, Some, None}
use Rattle.indirection.specs.Stints.{Stint, Joins}
use Rattle.handover_core.specs.declared.item.Kind.{Kind}
use Rattle.handover_core.specs.declared.item.Kind.TheVariants.{First, Next, Mark}
use Rattle.handover_core.specs.State.{Hand, Away, Waiting, Held, Leaving}

-- an item of the bucket, seen without the bucket
pub record Piece : Type 0 where
  pub kind : Kind
  pub place : ℕ

-- an item of this kind and place
abbrev pub piece : Kind → ℕ → Piece
piece kind place = record { kind = kind; place = place }

-- one bucket of a state: its entry, how many of its packets were sent, its ended stints, and for each core what it does with the bucket, which items of it are queued there, and whether the core took End
pub record BucketSnapshot : Type 0 where
  pub owner : ℕ
  pub start : ℕ
  pub word : ℕ
  pub shelf : Option ℕ
  pub sent : ℕ
  pub stints : List Stint
  pub hand : ℕ → Hand
  pub queue : ℕ → List Piece
  pub ended : ℕ → Bool

-- so many packets from a place on, none of them a stint's first
abbrev pub nexts : ℕ → ℕ → List Piece
nexts place zero = []
nexts place (suc n) = piece Next place ∷ nexts (place + 1) n

-- the first packets of the stint from a start on, so many
abbrev pub opening : ℕ → ℕ → List Piece
opening start zero = []
opening start (suc n) = piece First start ∷ nexts (start + 1) n

-- so many places from one on
abbrev pub places_from : ℕ → ℕ → List ℕ
places_from place zero = []
places_from place (suc n) = place ∷ places_from (place + 1) n

-- what a core has to do with the bucket: nothing; to claim it for the stint with the places from one to another; to work that stint as its owner; to finish that stint, up to the mark
pub data Task : Type 0 where
  Idle : Task
  Awaits : (from to : ℕ) → Task
  Works : (from to : ℕ) → Task
  Finishes : (from to : ℕ) → Task

-- a core in that task, that took End or not, does this with the bucket, and these items of it are queued there
abbrev pub Fits : Task → Bool → Hand → List Piece → Type 0
Fits Idle ended Away queue = queue ≡ []
Fits (Awaits from to) ended Away queue = (n : ℕ) × (from + n ≡ to) × (queue ≡ opening from n)
Fits (Awaits from to) ended (Waiting places) queue =
    (j : ℕ) × (n : ℕ) × (0 < j) × (from + j + n ≡ to) × (places ≡ places_from from j) × (queue ≡ nexts (from + j) n)
Fits (Works from to) ended (Held start done) queue =
    (n : ℕ) × (start ≡ from) × (from < done) × (done + n ≡ to) × (queue ≡ nexts done n) × (ended ≡ false)
Fits (Works from to) ended (Leaving start done) queue = (start ≡ from) × (from < done) × (done ≡ to) × (queue ≡ []) × (ended ≡ true)
Fits (Finishes from to) ended (Held start done) queue =
    (n : ℕ) × (start ≡ from) × (from < done) × (done + n ≡ to) × (queue ≡ nexts done n ++ piece Mark to ∷ []) × (ended ≡ false)
Fits (Finishes from to) ended (Leaving start done) queue = (start ≡ from) × (from < done) × (done ≡ to) × (queue ≡ [])
Fits task ended hand queue = ⊥

-- where the bucket's table is: on the shelf for the newest stint; with the owner, who works that stint; with the core of the stint before it; on the shelf for good
pub data Stage : Type 0 where
  home : Stage
  working : Stage
  passing : (core from : ℕ) → Stage
  over : Stage

-- the task of a core, where the bucket is `owner`'s, with k packets sent and its newest stint from s on
abbrev pub task_in : Stage → ℕ → ℕ → ℕ → ℕ → Task
task_in home owner s k c = if c == owner then Awaits s k else Idle
task_in working owner s k c = if c == owner then Works s k else Idle
task_in (passing core from) owner s k c = if c == owner then Awaits s k else (if c == core then Finishes from s else Idle)
task_in over owner s k c = Idle

-- the word in a stage, with k packets sent and the newest stint from s on
abbrev pub word_in : Stage → ℕ → ℕ → ℕ
word_in home s k = 2 * s + 1
word_in working s k = 2 * s + 2
word_in (passing core from) s k = 2 * from + 2
word_in over s k = 2 * k + 1

-- what is on the shelf then
abbrev pub shelf_in : Stage → ℕ → ℕ → Option ℕ
shelf_in home s k = Some s
shelf_in working s k = None
shelf_in (passing core from) s k = None
shelf_in over s k = Some k

-- a stint
abbrev pub stint_of : ℕ → ℕ → ℕ → Stint
stint_of core from to = record { core = core; from = from; to = to }

-- what a stage asks of the numbers: the core that a bucket passes from has its last ended stint; over, the owner took End
abbrev pub Bounds : Stage → BucketSnapshot → Type 0
Bounds home v = v.start ≤ v.sent
Bounds working v = v.start < v.sent
Bounds (passing core from) v =
    (core ≢ v.owner) × (from < v.start) × (v.start ≤ v.sent) × ((front : List Stint) × (v.stints ≡ front ++ stint_of core from v.start ∷ []))
Bounds over v = (v.start < v.sent) × (v.ended v.owner ≡ true)

-- the bucket is in this stage: word, shelf and numbers are its, and each core fits its task
pub record IsIn (g : Stage) (v : BucketSnapshot) : Type 0 where
  pub word : v.word ≡ word_in g v.start v.sent
  pub shelf : v.shelf ≡ shelf_in g v.start v.sent
  pub bounds : Bounds g v
  pub fits : (c : ℕ) → Fits (task_in g v.owner v.start v.sent c) (v.ended c) (v.hand c) (v.queue c)

-- the bucket is in a stage, and its ended stints join 0 to its newest start
pub record IsBucket (v : BucketSnapshot) : Type 0 where
  pub stage : Stage
  pub is_in : IsIn stage v
  pub joins : Joins 0 v.stints v.start
