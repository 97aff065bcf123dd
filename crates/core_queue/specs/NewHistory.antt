-- What an end of a new lane knows.
use Rattle.std.specs.Prelude.{ℕ, []}
use Rattle.toeplitz.specs.declared.key.Key.{Key}
use Rattle.core_queue.specs.declared.history.LaneHistory.{LaneHistory}

-- nothing was sent or taken
abbrev pub new_history : Key → ℕ → LaneHistory
new_history key buckets = record { key = key; buckets = buckets; sent = []; taken = []; fulls = 0; empties = 0 }
