-- A source and a sink in memory, as contracts see them.
use Rattle.std.specs.Prelude.{◌∷◌, [], ℕ, ◌+◌, ◌-◌, ◌%◌, ◌^◌, ◌++◌, max, List, length, slice_index}
use Rattle.rss_base.specs.Faults.{one_more}

-- a source in memory: all its bytes and how many of them were given, the largest piece of each call, the calls that fail
pub record Feed : Type 0 where
  pub all : List ℕ
  pub given : ℕ
  pub cuts : List ℕ
  pub fail_at : List ℕ
  pub calls : ℕ
  pub faults : ℕ

-- what the source was made over
abbrev pub made_over : Feed → List ℕ × List ℕ × List ℕ
made_over s = (s.all, s.cuts, s.fail_at)

-- the next call's number
abbrev pub next_call : ℕ → ℕ
next_call calls = one_more calls

-- the source behind a call that gave so many bytes, and behind one that failed
abbrev pub gave : Feed → ℕ → Feed
gave s n = record s { given = s.given + n; calls = next_call s.calls }

abbrev pub failed_to_give : Feed → Feed
failed_to_give s = record s { calls = next_call s.calls; faults = one_more s.faults }

-- how many bytes call number k may give
abbrev pub cut_at : List ℕ → ℕ → ℕ
cut_at [] k = 2 ^ 64 - 1
cut_at (c ∷ cs) k = max 1 (slice_index (c ∷ cs) ((k - 1) % length (c ∷ cs)))

-- a sink in memory: what was written, the room for more, the calls that fail
pub record Store : Type 0 where
  pub bytes : List ℕ
  pub room : ℕ
  pub fail_at : List ℕ
  pub calls : ℕ
  pub faults : ℕ

-- the sink behind a call that took the piece, and behind one that failed
abbrev pub took : Store → List ℕ → Store
took s piece = record s { bytes = s.bytes ++ piece; room = s.room - length piece; calls = next_call s.calls }

abbrev pub failed_to_take : Store → Store
failed_to_take s = record s { calls = next_call s.calls; faults = one_more s.faults }
