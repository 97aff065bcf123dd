-- What an end of a shelf knows, and what its calls make of it.
use Rattle.std.specs.Prelude.{◌≡◌, ℕ, ◌+◌, ◌*◌, ◌==◌, max, if◌then◌else◌, List, [], ◌∷◌, ◌⊎◌, Option, Some, None}
use Rattle.toeplitz.specs.declared.key.Key.{Key}
use Rattle.handover_words.specs.declared.history.Met.{Met}
use Rattle.handover_words.specs.declared.history.Claim.{Claim}
use Rattle.handover_words.specs.declared.history.Stretch.{Stretch}
use Rattle.handover_words.specs.declared.history.ShelfHistory.{ShelfHistory}

-- the greatest word of the bucket that was met, or 0. Words never fall, so it is the last one too
abbrev pub top_in : ℕ → List Met → ℕ
top_in b [] = 0
top_in b (m ∷ ms) = max (if m.bucket == b then m.word else 0) (top_in b ms)

-- the greatest end of a custody of the bucket, as the word of its release, or 0
abbrev pub end_in : ℕ → List Stretch → ℕ
end_in b [] = 0
end_in b (s ∷ ss) = max (if s.bucket == b then 2 * s.to + 1 else 0) (end_in b ss)

-- the place at which the bucket was claimed, if it is held
abbrev pub place_in : ℕ → List Claim → Option ℕ
place_in b [] = None
place_in b (c ∷ cs) = if c.bucket == b then Some c.place else place_in b cs

-- the claims of the other buckets
abbrev pub without : ℕ → List Claim → List Claim
without b [] = []
without b (c ∷ cs) = if c.bucket == b then without b cs else c ∷ without b cs

-- the bucket is held, claimed at this place
abbrev pub HasClaim : ℕ → ℕ → List Claim → Type 0
HasClaim b place [] = ⊥
HasClaim b place (c ∷ cs) = ((c.bucket ≡ b) × (c.place ≡ place)) ⊎ HasClaim b place cs

abbrev pub number : Option ℕ → ℕ
number (Some n) = n
number None = 0

abbrev pub claimed_at : ℕ → ShelfHistory → Option ℕ
claimed_at b e = place_in b e.held

-- no word of the bucket is below this from now on
abbrev pub least_of : ShelfHistory → ℕ → ℕ
least_of e b = max (top_in b e.met) (end_in b e.ended)

-- an end that knows its run and its shares alone
abbrev pub fresh : Key → ℕ → ℕ → ShelfHistory
fresh key buckets shares = record { key = key; buckets = buckets; shares = shares; met = []; held = []; ended = [] }

-- a word was met
abbrev pub saw : ℕ → ℕ → ShelfHistory → ShelfHistory
saw b word e = record { key = e.key; buckets = e.buckets; shares = e.shares; met = record { bucket = b; word = word } ∷ e.met; held = e.held; ended = e.ended }

-- a bucket was claimed
abbrev pub claimed : ℕ → ℕ → ShelfHistory → ShelfHistory
claimed b place e = record { key = e.key; buckets = e.buckets; shares = e.shares; met = record { bucket = b; word = 2 * place + 1 } ∷ e.met; held = record { bucket = b; place = place } ∷ e.held; ended = e.ended }

-- a bucket was released
abbrev pub released : ℕ → ℕ → ShelfHistory → ShelfHistory
released b done e = record { key = e.key; buckets = e.buckets; shares = e.shares; met = e.met; held = without b e.held; ended = record { bucket = b; from = number (place_in b e.held); to = done } ∷ e.ended }
