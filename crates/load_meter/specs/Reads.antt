-- What an end of a meter read of a core. Tests alone use these definitions.
use Rattle.std.specs.Prelude.{ℕ, ◌+◌, ◌==◌, if◌then◌else◌, List, [], ◌∷◌}
use Rattle.load_meter.specs.declared.history.CoreLoad.{CoreLoad}
use Rattle.load_meter.specs.declared.history.LoadHistory.{LoadHistory}

-- the newest number of the core, or 0
abbrev pub last_in : ℕ → List CoreLoad → ℕ
last_in c [] = 0
last_in c (l ∷ ls) = if l.core == c then l.worked else last_in c ls

-- how many numbers of the core there are
abbrev pub count_in : ℕ → List CoreLoad → ℕ
count_in c [] = 0
count_in c (l ∷ ls) = (if l.core == c then 1 else 0) + count_in c ls

-- what the end read last of a core, and how often it read it
abbrev pub read_at : ℕ → LoadHistory → ℕ
read_at c e = last_in c e.read

abbrev pub reads_of : ℕ → LoadHistory → ℕ
reads_of c e = count_in c e.read
