-- What an end of a meter knows, and what its calls make of it.
use Rattle.std.specs.Prelude.{◌≡◌, ℕ, ◌==◌, max, if◌then◌else◌, List, [], ◌∷◌, ◌++◌, Option, Some, None, slice_index, slice_set}
use Rattle.load_meter.specs.declared.history.CoreLoad.{CoreLoad}
use Rattle.load_meter.specs.declared.history.LoadHistory.{LoadHistory}

-- the greatest number of the core, or 0
abbrev pub top_in : ℕ → List CoreLoad → ℕ
top_in c [] = 0
top_in c (l ∷ ls) = max (if l.core == c then l.worked else 0) (top_in c ls)

-- what the end noted last of a core. What it notes never falls, so it is the greatest number too
abbrev pub noted_at : ℕ → LoadHistory → ℕ
noted_at c e = top_in c e.noted

-- the greatest number of a core that the end knows
abbrev pub known_at : ℕ → LoadHistory → ℕ
known_at c e = max (top_in c e.noted) (max (top_in c e.read) (top_in c e.told))

-- an end that knows the number of cores alone
abbrev pub fresh : ℕ → LoadHistory
fresh cores = record { cores = cores; noted = []; read = []; told = [] }

-- a number was noted
abbrev pub noting : ℕ → ℕ → LoadHistory → LoadHistory
noting c n e = record { cores = e.cores; noted = record { core = c; worked = n } ∷ e.noted; read = e.read; told = e.told }

-- a number was read
abbrev pub reading : ℕ → ℕ → LoadHistory → LoadHistory
reading c n e = record { cores = e.cores; noted = e.noted; read = record { core = c; worked = n } ∷ e.read; told = e.told }

-- an end takes over what another noted and knew
abbrev pub joined : LoadHistory → LoadHistory → LoadHistory
joined e f = record { cores = e.cores; noted = e.noted ++ f.noted; read = e.read; told = e.told ++ (f.read ++ f.told) }

-- a note sets the number of its core
abbrev pub NotesNow : Option (List ℕ) → ℕ → ℕ → Option (List ℕ) → Type 0
NotesNow None c n now = now ≡ None
NotesNow (Some loads) c n now = now ≡ Some (slice_set loads c n)

-- a read answers the number of its core
abbrev pub ReadsNow : Option (List ℕ) → ℕ → ℕ → Option (List ℕ) → Type 0
ReadsNow None c n now = now ≡ None
ReadsNow (Some loads) c n now = (slice_index loads c ≡ n) × (now ≡ Some loads)
