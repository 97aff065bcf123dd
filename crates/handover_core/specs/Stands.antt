-- Where a bucket's items stand on the cores' lists, while it is sent, moved and placed.
use Rattle.std.specs.Prelude.{ℕ, ◌<◌, ◌≤◌, ◌≡◌, ◌≢◌, List, true}
use Rattle.indirection.specs.Tries.{Try, owner_after, tail_from, tails}
use Rattle.indirection.specs.Story.{Parcel, count_in}
use Rattle.indirection.specs.Stints.{Rises}
use Rattle.handover_core.specs.Dispatch.{stream}
use Rattle.handover_core.specs.declared.post.Post.{Post}
use Rattle.handover_core.specs.Legal.{Stand, new, within, past, stand_from, is_open, Legal}

-- at the owner, with k packets sent and the newest stint from s on
abbrev pub OwnerStand : ℕ → ℕ → Stand → Type 0
OwnerStand k s new = k ≡ s
OwnerStand k s (within n) = (n ≡ k) × (s < k)
OwnerStand k s (past n) = (k ≡ s) × (0 < n) × (n < s)

-- at another core
abbrev pub OtherStand : ℕ → Stand → Type 0
OtherStand s new = Unit {0}
OtherStand s (within n) = ⊥
OtherStand s (past n) = (0 < n) × (n ≤ s)

-- the bucket is o's, k of its packets were sent, its newest stint is from s on, and its items stand so at each core
pub record AreStands (o k s : ℕ) (stand : ℕ → Stand) : Type 0 where
  pub below : s ≤ k
  pub owner : OwnerStand k s (stand o)
  pub others : (c : ℕ) → c ≢ o → OtherStand s (stand c)

-- where bucket b's items stand at core c
abbrev pub stand_at : ℕ → List Post → ℕ → Stand
stand_at b ds c = stand_from b new (stream c ds)

-- the dispatcher's side: each bucket's owner, packets sent and start go with the items sent so far; no End was sent
pub record IsDispatcherSide (owner sent start : ℕ → ℕ) (ds : List Post) : Type 0 where
  pub stands : (b : ℕ) → AreStands (owner b) (sent b) (start b) (stand_at b ds)
  pub open_lists : (c : ℕ) → is_open (stream c ds) ≡ true
  pub legal : (c : ℕ) → Legal (stream c ds)

-- the tries made, the packets sent and the items sent of a run so far go together
pub record IsTold (first : List ℕ) (ts : List Try) (ps : List Parcel) (ds : List Post) : Type 0 where
  pub dispatcher : IsDispatcherSide (owner_after first ts) (λ b. count_in b ps) (λ b. tail_from b 0 ts) ds
  pub tails_rise : (b : ℕ) → Rises 0 (tails b ts) (tail_from b 0 ts)
