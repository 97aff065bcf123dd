-- Which core had which places of a bucket.
use Rattle.std.specs.Prelude.{ℕ, ◌<◌, ◌≤◌, ◌≡◌, List, [], ◌∷◌, ◌++◌, if◌then◌else◌, ◌==◌, nat_lt, slice_index}
use Rattle.indirection.specs.declared.outcome.Outcome.{Outcome}
use Rattle.indirection.specs.declared.outcome.Outcome.TheVariants.{Moved, Placed, Same, InPassage}
use Rattle.indirection.specs.Tries.{Try, ask_bucket, ask_to, owner_by, tail_by, tries}
use Rattle.indirection.specs.Story.{Parcel, count_in}
use Rattle.indirection.specs.JournalView.{JournalView}

-- a core has the places of a bucket from one on, up to below another
pub record Stint : Type 0 where
  pub core : ℕ
  pub from : ℕ
  pub to : ℕ

-- the stint, unless it has no packet
abbrev pub stint : ℕ → ℕ → ℕ → List Stint
stint core from to = if nat_lt from to then record { core = core; from = from; to = to } ∷ [] else []

-- the stint that an outcome ends
abbrev pub ended : ℕ → ℕ → Outcome → List Stint
ended core from (Moved tail) = stint core from tail
ended core from Placed = []
ended core from Same = []
ended core from (InPassage tail sent word) = []

-- the stints of a bucket with so many packets that the core has from this place on
abbrev pub stints_from : ℕ → ℕ → ℕ → ℕ → List Try → List Stint
stints_from b total core from [] = stint core from total
stints_from b total core from (t ∷ ts) =
    if ask_bucket t.ask == b
    then ended core from t.outcome ++ stints_from b total (owner_by core (ask_to t.ask) t.outcome) (tail_by from t.outcome) ts
    else stints_from b total core from ts

-- the stints of a bucket: from 0 over the tails of its Moved entries to its total
abbrev pub stints : JournalView → List Parcel → ℕ → List Stint
stints j xs b = stints_from b (count_in b xs) (slice_index j.start b) 0 (tries j.entries)

-- the stints lie one behind the other from one place to another
abbrev pub Joins : ℕ → List Stint → ℕ → Type 0
Joins from [] to = from ≡ to
Joins from (s ∷ ss) to = (s.from ≡ from) × (from < s.to) × Joins s.to ss to

-- the numbers rise strictly, from above the first to at most the last
abbrev pub Rises : ℕ → List ℕ → ℕ → Type 0
Rises low [] high = low ≤ high
Rises low (x ∷ xs) high = (low < x) × Rises x xs high
