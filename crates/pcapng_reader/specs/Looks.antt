-- What one look at the bytes that were read ahead may tell of a block.
use Rattle.std.specs.Prelude.{◌≡◌, ◌≤◌, ◌<◌, ℕ, ◌+◌, ◌-◌, nat_lt, Bool, true, false, List, [], ◌++◌, length, take, drop, Option, Some, None, slice_get, ⊤, if◌then◌else◌}
use Rattle.pcapng_reader.specs.declared.byte_order.ByteOrder.{ByteOrder}
use Rattle.pcapng_reader.specs.declared.kind.BlockKind.{BlockKind}
use Rattle.pcapng_reader.specs.declared.kind.BlockKind.TheVariants as kinds
use Rattle.pcapng_reader.specs.declared.fault.NgKind.TheVariants as breaks
use Rattle.pcapng_reader.specs.declared.interface.Interface.{Interface}
use Rattle.pcapng_reader.specs.declared.stage.Adds.{Adds}
use Rattle.pcapng_reader.specs.declared.stage.Adds.TheVariants.{Nothing, Section, Options, Described, Packet}
use Rattle.pcapng_reader.specs.declared.stage.Block.{Block}
use Rattle.pcapng_reader.specs.declared.look.Look.{Look}
use Rattle.pcapng_reader.specs.declared.look.Look.TheVariants as looks
use Rattle.pcapng_reader.specs.declared.turn.Turn.{Turn}
use Rattle.pcapng_reader.specs.declared.turn.Turn.TheVariants as turns
use Rattle.pcapng_reader.specs.Numbers.{number_at}
use Rattle.pcapng_reader.specs.Time.{nanos_of}
use Rattle.pcapng_reader.specs.Scope.{Scope}
use Rattle.pcapng_reader.specs.Front.{order_in, total_length, looked_at, is_record, interface_named, bytes_at, captured_of, original_of, ticks_of}
use Rattle.pcapng_reader.specs.Blocks.{before, story_at}
use Rattle.pcapng_reader.specs.Progress.{story_inside, scope_by, waiting, BlockFits, AddsFit, work_inside}

-- a block, so many bytes of which were looked at
abbrev pub block_of : ByteOrder → List ℕ → ℕ → Adds → Block
block_of order front seen adds = record { order = order_in order front; total = total_length order front; rest = total_length order front - seen; adds = adds }

-- what a block without a packet adds
abbrev pub adds_of : BlockKind → ByteOrder → List ℕ → Adds
adds_of kinds.Section order front = Section
adds_of kinds.Description order front = Options (number_at order 2 8 front) (number_at order 4 12 front)
adds_of _ order front = Nothing

abbrev pub opened : BlockKind → ByteOrder → List ℕ → Look
opened kind order front = looks.Opens (looked_at kind) 0 (block_of order front (looked_at kind) (adds_of kind order front))

-- the packet that a record of an interface adds
abbrev pub packet_of : BlockKind → ByteOrder → Interface → List ℕ → Adds
packet_of kind order interface front = Packet interface.link (nanos_of (ticks_of kind order front) interface.resolution) (original_of kind order front)

abbrev pub opened_record : BlockKind → ByteOrder → Interface → List ℕ → Look
opened_record kind order interface front =
    let captured = captured_of kind order interface front in
    looks.Opens (bytes_at kind) captured (block_of order front (bytes_at kind + captured) (packet_of kind order interface front))

-- a record, of which so many bytes are there
abbrev pub looked_record : ℕ → BlockKind → ByteOrder → Interface → List ℕ → ℕ → Bool → Look
looked_record n kind order interface front have ended =
    if nat_lt have (bytes_at kind + captured_of kind order interface front)
    then (if ended then looks.Breaks (record { block = n; kind = breaks.Short; value = have }) else looks.More)
    else opened_record kind order interface front

abbrev pub looked_with : Option Interface → ℕ → BlockKind → ByteOrder → List ℕ → ℕ → Bool → Look
looked_with None n kind order front have ended = looks.More
looked_with (Some interface) n kind order front have ended = looked_record n kind order interface front have ended

-- a block whose front nothing breaks, of which so many bytes are there
abbrev pub looked_behind : BlockKind → Scope → ℕ → List ℕ → ℕ → Bool → Look
looked_behind kind scope n front have ended =
    if is_record kind then looked_with (slice_get scope.interfaces (interface_named kind scope.order front)) n kind scope.order front have ended
    else opened kind scope.order front

-- a block whose front has so many bytes and so many captured ones behind them
pub record Opens (scope : Scope) (n : ℕ) (bytes : List ℕ) (ended : Bool) (front held : ℕ) (block : Block) : Type 0 where
  pub there : front + held ≤ length bytes
  pub limit : held ≤ 262_144
  pub fits : BlockFits block (length scope.interfaces) held n
  pub story : (rest : List ℕ) → (ended ≡ true → rest ≡ []) → story_at scope n (bytes ++ rest) ≡ story_inside scope n block (take held (drop front bytes)) (drop (front + held) (bytes ++ rest))

-- what a look tells of block n, by the bytes that were read ahead and whether the input ends behind them
abbrev pub Looks : Scope → ℕ → List ℕ → Bool → Look → Type 0
Looks scope n bytes ended looks.More = (ended ≡ false) × (length bytes < 262_172)
Looks scope n bytes ended looks.End = (ended ≡ true) × (bytes ≡ [])
Looks scope n bytes ended (looks.Breaks e) = (rest : List ℕ) → (ended ≡ true → rest ≡ []) → story_at scope n (bytes ++ rest) ≡ record { packets = []; broken = Some e }
Looks scope n bytes ended (looks.Opens front held block) = Opens scope n bytes ended front held block

-- the input ends inside a block, or more of it is needed, where so many bytes of its rest are there
abbrev pub lacking : ℕ → Block → ℕ → Bool → Turn
lacking n block have ended = if ended then turns.Breaks (record { block = n; kind = breaks.Short; value = block.total - block.rest + have }) else turns.More

-- an interface of this time resolution
abbrev pub settles : ℕ → ℕ → ℕ → Turn
settles link snap resolution = turns.Passes 0 (Described (record { link = link; snap = snap; resolution = resolution }))

-- a block that has so many bytes less to come, and adds this
abbrev pub passed : Block → ℕ → Adds → Block
passed block count adds = record { order = block.order; total = block.total; rest = block.rest - count; adds = adds }

-- bytes of a block may be let go
pub record Passes (block : Block) (bytes : List ℕ) (count : ℕ) (adds : Adds) : Type 0 where
  pub there : count ≤ length bytes
  pub tail : count + 4 ≤ block.rest
  pub fits : (others held : ℕ) → AddsFit block.adds others held → AddsFit adds others held
  pub less : work_inside adds (block.rest - count) < work_inside block.adds block.rest
  pub story : (scope : Scope) (n : ℕ) (held rest : List ℕ) → story_inside scope n block held (bytes ++ rest) ≡ story_inside scope n (passed block count adds) held (drop count (bytes ++ rest))

-- the options of the block were read
abbrev pub IsSettled : Adds → Type 0
IsSettled (Options link snap) = ⊥
IsSettled _ = ⊤

-- the block stands whole and unbroken
pub record StandsWhole (block : Block) (bytes : List ℕ) : Type 0 where
  pub there : block.rest ≤ length bytes
  pub settled : IsSettled block.adds
  pub story : (scope : Scope) (n : ℕ) (held rest : List ℕ) →
      story_inside scope n block held (bytes ++ rest) ≡ before (waiting block.adds held) (story_at (scope_by block.adds block scope []) (n + 1) (drop block.rest (bytes ++ rest)))

-- what is done inside block n, by the bytes that were read ahead and whether the input ends behind them
abbrev pub Turns : ℕ → Block → List ℕ → Bool → Turn → Type 0
Turns n block bytes ended turns.More = (ended ≡ false) × (length bytes < 262_144)
Turns n block bytes ended (turns.Breaks e) = (scope : Scope) (held rest : List ℕ) → (ended ≡ true → rest ≡ []) → story_inside scope n block held (bytes ++ rest) ≡ record { packets = []; broken = Some e }
Turns n block bytes ended (turns.Passes count adds) = Passes block bytes count adds
Turns n block bytes ended turns.Whole = StandsWhole block bytes
