-- What is still to be given of an input, by what was read of it.
use Rattle.std.specs.Prelude.{◌≡◌, ◌≤◌, ◌<◌, ℕ, ◌+◌, ◌-◌, ◌*◌, ◌==◌, not, nat_lt, Bool, true, false, List, [], ◌∷◌, ◌++◌, length, take, drop, Option, None, Some, ⊤, if◌then◌else◌}
use Rattle.pcapng_reader.specs.declared.fault.NgKind.TheVariants as breaks
use Rattle.pcapng_reader.specs.declared.fault.NgBreak.{NgBreak}
use Rattle.pcapng_reader.specs.declared.interface.Interface.{Interface}
use Rattle.pcapng_reader.specs.declared.stage.Adds.{Adds}
use Rattle.pcapng_reader.specs.declared.stage.Adds.TheVariants.{Nothing, Section, Options, Described, Packet as Waits}
use Rattle.pcapng_reader.specs.declared.stage.Block.{Block}
use Rattle.pcapng_reader.specs.declared.stage.Stage.{Stage}
use Rattle.pcapng_reader.specs.declared.stage.Stage.TheVariants.{Plain, Between, Inside, Broken, Ended}
use Rattle.pcapng_reader.specs.Numbers.{number_at}
use Rattle.pcapng_reader.specs.Options.{resolution_of}
use Rattle.pcapng_reader.specs.Scope.{Scope}
use Rattle.pcapng_reader.specs.Breaks.{Row, row, first_row}
use Rattle.pcapng_reader.specs.Blocks.{Packet, Story, before, unless, story_at}
use Rattle.pcapng_reader.specs.Classic.{classic, records_text, classic_of, break_of}

-- what an input stands for: its classic bytes, and its first break
pub record Told : Type 0 where
  pub text : List ℕ
  pub broken : Option NgBreak

abbrev pub told_of : List ℕ → Told
told_of bytes = record { text = classic_of bytes; broken = break_of bytes }

-- these bytes, and then what is told
abbrev pub behind : List ℕ → Told → Told
behind front told = record { text = front ++ told.text; broken = told.broken }

-- the records of packets, behind the header of the capture where none of them was given before
abbrev pub text_with : Option ℕ → List Packet → List ℕ
text_with None packets = classic packets
text_with (Some link) packets = records_text packets

abbrev pub told_with : Option ℕ → Story → Told
told_with link story = record { text = text_with link story.packets; broken = story.broken }

-- a scope with one interface more
abbrev pub scope_and : Scope → Interface → Scope
scope_and scope interface = record { order = scope.order; interfaces = scope.interfaces ++ interface ∷ []; link = scope.link }

-- the link of the first record, where this is a record's
abbrev pub link_told : Option ℕ → ℕ → Option ℕ
link_told None link = Some link
link_told (Some first) link = Some first

-- what is known behind a block, of which these bytes are still to come
abbrev pub scope_by : Adds → Block → Scope → List ℕ → Scope
scope_by Nothing block scope input = scope
scope_by Section block scope input = record { order = block.order; interfaces = []; link = scope.link }
scope_by (Options link snap) block scope input = scope_and scope (record { link = link; snap = snap; resolution = resolution_of block.order (take (block.rest - 4) input) })
scope_by (Described interface) block scope input = scope_and scope interface
scope_by (Waits link nanos original) block scope input = record { order = scope.order; interfaces = scope.interfaces; link = link_told scope.link link }

-- the packet of a block, whose captured bytes these are
abbrev pub waiting : Adds → List ℕ → List Packet
waiting (Waits link nanos original) held = record { link = link; nanos = nanos; original = original; bytes = held } ∷ []
waiting _ held = []

-- the total length at the end of a block
abbrev pub tail_of : Block → List ℕ → ℕ
tail_of block input = number_at block.order 4 (block.rest - 4) input

-- what is wrong with what is left of a block
abbrev pub end_rows : Block → List ℕ → List Row
end_rows block input =
    row (nat_lt (length input) block.rest) breaks.Short (block.total - block.rest + length input)
    ∷ row (not (tail_of block input == block.total)) breaks.Tail (tail_of block input)
    ∷ []

-- the story behind the front of block n: its waiting bytes, and the input that is still to come
unfoldable pub story_inside : Scope → ℕ → Block → List ℕ → List ℕ → Story
story_inside scope n block held input =
    unless (first_row n (end_rows block input)) (before (waiting block.adds held) (story_at (scope_by block.adds block scope input) (n + 1) (drop block.rest input)))

-- what is still to be told at a stage, behind n blocks
abbrev pub told_at : Stage → Scope → ℕ → List ℕ → List ℕ → Told
told_at Plain scope n held input = record { text = held ++ input; broken = None }
told_at (Between skip) scope n held input = behind held (told_with scope.link (story_at scope n (drop skip input)))
told_at (Inside block) scope n held input = told_with scope.link (story_inside scope n block held input)
told_at (Broken e) scope n held input = record { text = held; broken = Some e }
told_at Ended scope n held input = record { text = held; broken = None }

-- how far a reading has come: bytes that are given first, those of a packet, and those read ahead of them; what is read next; and what n blocks told
pub record Progress : Type 0 where
  pub ready : List ℕ
  pub held : List ℕ
  pub ahead : List ℕ
  pub stage : Stage
  pub scope : Scope
  pub number : ℕ

-- what is still to be told, where the source has these bytes left
unfoldable pub tells : Progress → List ℕ → Told
tells p rest = behind p.ready (told_at p.stage p.scope p.number p.held (p.ahead ++ rest))

-- the same where the source may not tell its bytes
abbrev pub known : Progress → Option (List ℕ) → Option Told
known p None = None
known p (Some rest) = Some (tells p rest)

abbrev pub text_known : Option Told → Option (List ℕ)
text_known None = None
text_known (Some told) = Some told.text

-- what was known to be told is what is told
abbrev pub StaysTold : Option Told → Option Told → Type 0
StaysTold None now = ⊤
StaysTold (Some told) None = ⊥
StaysTold (Some told) (Some now) = now ≡ told

-- these bytes were given of what was known to be told
abbrev pub GivesTold : Option Told → Option Told → List ℕ → Type 0
GivesTold None now given = ⊤
GivesTold (Some told) None given = ⊥
GivesTold (Some told) (Some now) given = told ≡ behind given now

-- how many bytes may be given before the next block is read
abbrev pub waits_at : Stage → ℕ → Bool
waits_at (Between skip) count = nat_lt count 2
waits_at (Inside block) count = true
waits_at _ count = false

-- the next block is read before more is given
abbrev pub awaits_block : Progress → Bool
awaits_block p = waits_at p.stage (length p.ready + length p.held)

-- a byte is kept back, so that none is given last before what follows it is known
abbrev pub IsPrompt : Option ℕ → ℕ → Type 0
IsPrompt None count = ⊤
IsPrompt (Some link) count = 1 ≤ count

-- what a block adds can be added behind so many interfaces, and no bytes wait but those of a packet
abbrev pub AddsFit : Adds → ℕ → ℕ → Type 0
AddsFit (Options link snap) others held = (others < 256) × (held ≡ 0)
AddsFit (Described interface) others held = (others < 256) × (held ≡ 0)
AddsFit (Waits link nanos original) others held = nanos ≤ 4_294_967_295_999_999_999
AddsFit _ others held = held ≡ 0

-- a block with so many waiting bytes, behind so many interfaces and n blocks
pub record BlockFits (block : Block) (others held n : ℕ) : Type 0 where
  pub tail : 4 ≤ block.rest
  pub within : block.rest ≤ block.total
  pub numbered : n < 4_294_967_295
  pub adds : AddsFit block.adds others held

-- what a stage asks of the scope behind n blocks, and of so many bytes that are ready, held and read ahead
abbrev pub StageFits : Stage → Scope → ℕ → ℕ → ℕ → ℕ → Type 0
StageFits Plain scope n ready held ahead = (held ≡ 0) × (ahead ≡ 0)
StageFits (Between skip) scope n ready held ahead = (skip ≤ ahead) × (skip ≡ 0 → held ≡ 0) × IsPrompt scope.link (ready + held)
StageFits (Inside block) scope n ready held ahead = (ready ≤ 1) × IsPrompt scope.link ready × BlockFits block (length scope.interfaces) held n
StageFits (Broken e) scope n ready held ahead = ⊤
StageFits Ended scope n ready held ahead = ⊤

-- the same, and the held bytes are in the window, and no more than a record may have
pub record Suits (stage : Stage) (scope : Scope) (n ready held window : ℕ) : Type 0 where
  pub within : held ≤ window
  pub limit : held ≤ 262_144
  pub fits : StageFits stage scope n ready held (window - held)

-- how much is still to be done inside a block
abbrev pub work_inside : Adds → ℕ → ℕ
work_inside (Options link snap) rest = rest + 1
work_inside _ rest = rest

abbrev pub work_at : Stage → ℕ
work_at (Between skip) = if nat_lt 0 skip then 8_589_934_591 else 8_589_934_590
work_at (Inside block) = work_inside block.adds block.rest
work_at _ = 0

-- how much is still to be read: it falls with each step, since blocks are numbered
abbrev pub work : Progress → ℕ
work p = (4_294_967_296 - p.number) * 8_589_934_592 + work_at p.stage

-- the same, and how many bytes may still be read before a step is made
abbrev pub left_to_do : Progress → Bool → ℕ
left_to_do p ended = work p * 2_097_152 + (2 * (524_288 - (length p.held + length p.ahead)) + (if ended then 0 else 1))
