-- The custodies of a bucket, in order.
use Rattle.std.specs.Prelude.{ℕ, ◌==◌, if◌then◌else◌, nat_lt, List, [], ◌∷◌}
use Rattle.handover_words.specs.declared.history.Stretch.{Stretch}

-- a pair put among pairs that end earlier and earlier
abbrev pub place_into : ℕ × ℕ → List (ℕ × ℕ) → List (ℕ × ℕ)
place_into p [] = p ∷ []
place_into p (q ∷ qs) = if nat_lt q.1 p.1 then p ∷ q ∷ qs else q ∷ place_into p qs

-- where each custody of the bucket began and ended, the last one first
abbrev pub sorted_spans : ℕ → List Stretch → List (ℕ × ℕ)
sorted_spans b [] = []
sorted_spans b (s ∷ ss) = if s.bucket == b then place_into (s.from, s.to) (sorted_spans b ss) else sorted_spans b ss
