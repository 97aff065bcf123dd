-- What each step of the reading leaves.
use Rattle.std.specs.Prelude.{◌≡◌, ◌≤◌, ◌<◌, ◌⊎◌, ℕ, ◌+◌, ◌==◌, Bool, true, false, List, [], ◌++◌, length, take, drop, Option, None, Some, ⊤}
use Rattle.pcapng_reader.specs.declared.stage.Adds.{Adds}
use Rattle.pcapng_reader.specs.declared.stage.Adds.TheVariants.{Packet}
use Rattle.pcapng_reader.specs.declared.stage.Block.{Block}
use Rattle.pcapng_reader.specs.declared.stage.Stage.{Stage}
use Rattle.pcapng_reader.specs.declared.stage.Stage.TheVariants.{Plain, Between, Inside, Broken, Ended}
use Rattle.pcapng_reader.specs.Blocks.{at_first}
use Rattle.pcapng_reader.specs.Classic.{classic_header, record_header}
use Rattle.pcapng_reader.specs.Progress.{Progress, tells, scope_by, work}
use Rattle.pcapng_reader.specs.Looks.{passed}

-- nothing was read
abbrev pub fresh : Progress
fresh = record { ready = []; held = []; ahead = []; stage = Plain; scope = at_first; number = 0 }

-- bytes of an input that isn't pcapng, none of which are ready
abbrev pub hands_on_at : Stage → List ℕ → Bool
hands_on_at Plain ready = length ready == 0
hands_on_at _ ready = false

abbrev pub hands_on : Progress → Bool
hands_on p = hands_on_at p.stage p.ready

-- the block before is let go, and what is still to be given of it is kept back
abbrev pub settled : ℕ → Progress → Progress
settled skip p = record { ready = p.ready ++ p.held; held = []; ahead = drop skip p.ahead; stage = Between 0; scope = p.scope; number = p.number }

-- the header of a capture of no record, where none was given
abbrev pub last_header : Option ℕ → List ℕ
last_header None = classic_header 1
last_header (Some link) = []

abbrev pub finished : Stage → Progress → Progress
finished ending p = record { ready = p.ready ++ last_header p.scope.link; held = []; ahead = p.ahead; stage = ending; scope = p.scope; number = p.number }

-- an end of the reading
abbrev pub IsOver : Stage → Type 0
IsOver (Broken e) = ⊤
IsOver Ended = ⊤
IsOver _ = ⊥

-- the front of a block was read, and so many captured bytes behind it are held
abbrev pub opened_at : ℕ → ℕ → Block → Progress → Progress
opened_at front held block p =
    record { ready = p.ready; held = take held (drop front p.ahead); ahead = drop (front + held) p.ahead; stage = Inside block; scope = p.scope; number = p.number }

-- bytes of a block were let go
abbrev pub passed_over : Block → ℕ → Adds → Progress → Progress
passed_over block count adds p =
    record { ready = p.ready; held = p.held; ahead = drop count p.ahead; stage = Inside (passed block count adds); scope = p.scope; number = p.number }

-- the header of a packet of so many bytes, behind that of the capture where it is the first
abbrev pub packet_heading : Option ℕ → ℕ → List ℕ → List ℕ
packet_heading None link header = classic_header link ++ header
packet_heading (Some first) link header = header

abbrev pub heading : Adds → Option ℕ → ℕ → List ℕ
heading (Packet link nanos original) first held = packet_heading first link (record_header nanos held original)
heading _ first held = []

-- a block was whole and unbroken
abbrev pub closed : Block → Progress → Progress
closed block p = record {
  ready = p.ready ++ heading block.adds p.scope.link (length p.held);
  held = p.held;
  ahead = p.ahead;
  stage = Between block.rest;
  scope = scope_by block.adds block p.scope [];
  number = p.number + 1;
}

-- more bytes are needed: less is to be done, or no byte was let go
abbrev pub Nears : Progress → Progress → Type 0
Nears old new = (work new < work old) ⊎ ((work new ≡ work old) × (length old.held + length old.ahead ≤ length new.held + length new.ahead))

-- a step tells the same of each input that goes on, or ends, behind what was read ahead. It gets nearer to the end, or more bytes are needed and there is room for them
pub record Stands (old new : Progress) (ended lacks : Bool) : Type 0 where
  pub kept : (rest : List ℕ) → (ended ≡ true → rest ≡ []) → tells new rest ≡ tells old rest
  pub more : lacks ≡ true → (ended ≡ false) × (length new.held + length new.ahead < 524_288) × Nears old new
  pub less : lacks ≡ false → work new < work old
  pub over : new.stage ≡ Ended → ended ≡ true
  pub going : new.stage ≡ Plain → ⊥
