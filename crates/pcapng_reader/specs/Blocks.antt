-- A pcapng capture: its blocks one behind the other, the packets that they hold, and its first break.
use Rattle.std.specs.Prelude.{ℕ, zero, suc, ◌+◌, ◌-◌, List, [], ◌∷◌, ◌++◌, length, take, drop, Option, None, Some, slice_get}
use Rattle.pcapng_reader.specs.declared.byte_order.ByteOrder.{ByteOrder}
use Rattle.pcapng_reader.specs.declared.byte_order.ByteOrder.TheVariants.{Little}
use Rattle.pcapng_reader.specs.declared.kind.BlockKind.{BlockKind}
use Rattle.pcapng_reader.specs.declared.kind.BlockKind.TheVariants.{Section, Description, Simple, Enhanced}
use Rattle.pcapng_reader.specs.declared.fault.NgBreak.{NgBreak}
use Rattle.pcapng_reader.specs.declared.interface.Interface.{Interface}
use Rattle.pcapng_reader.specs.Numbers.{number_at}
use Rattle.pcapng_reader.specs.Options.{resolution_of}
use Rattle.pcapng_reader.specs.Time.{nanos_of}
use Rattle.pcapng_reader.specs.Scope.{Scope}
use Rattle.pcapng_reader.specs.Front.{kind_of, order_in, total_length, interface_named, bytes_at, captured_of, original_of, ticks_of}
use Rattle.pcapng_reader.specs.Breaks.{first_break}

-- a captured frame: what it begins with, when it came, how long it was on the wire, and its captured bytes
pub record Packet : Type 0 where
  pub link : ℕ
  pub nanos : ℕ
  pub original : ℕ
  pub bytes : List ℕ

-- how many bytes the block at the front has
abbrev pub extent : ByteOrder → List ℕ → ℕ
extent order bytes = total_length order (take 28 bytes)

-- the interface that a block describes: its options stand between byte 16 and the total length at the end (pcapng, "Interface Description Block")
abbrev pub described : ByteOrder → List ℕ → Interface
described order bytes = record {
  link = number_at order 2 8 (take 28 bytes);
  snap = number_at order 4 12 (take 28 bytes);
  resolution = resolution_of order (take (extent order bytes - 16 - 4) (drop 16 bytes));
}

-- the packet of a record of an interface
abbrev pub packet_at : BlockKind → ByteOrder → Interface → List ℕ → Packet
packet_at kind order interface bytes = record {
  link = interface.link;
  nanos = nanos_of (ticks_of kind order (take 28 bytes)) interface.resolution;
  original = original_of kind order (take 28 bytes);
  bytes = take (captured_of kind order interface (take 28 bytes)) (drop (bytes_at kind) bytes);
}

abbrev pub packet_by : BlockKind → ByteOrder → Option Interface → List ℕ → List Packet
packet_by kind order None bytes = []
packet_by kind order (Some interface) bytes = packet_at kind order interface bytes ∷ []

abbrev pub record_of : BlockKind → Scope → List ℕ → List Packet
record_of kind scope bytes = packet_by kind scope.order (slice_get scope.interfaces (interface_named kind scope.order (take 28 bytes))) bytes

-- the packets of a whole block: one of a record, and else none
abbrev pub block_packets_by : BlockKind → Scope → List ℕ → List Packet
block_packets_by Simple scope bytes = record_of Simple scope bytes
block_packets_by Enhanced scope bytes = record_of Enhanced scope bytes
block_packets_by _ scope bytes = []

unfoldable pub block_packets : Scope → List ℕ → List Packet
block_packets scope bytes = block_packets_by (kind_of scope.order (take 28 bytes)) scope bytes

-- the link of the first packet, if there is one
abbrev pub link_with : Option ℕ → List Packet → Option ℕ
link_with (Some link) packets = Some link
link_with None [] = None
link_with None (p ∷ ps) = Some p.link

-- what the blocks up to this one tell
abbrev pub after_by : BlockKind → Scope → List ℕ → Scope
after_by Section scope bytes = record { order = order_in scope.order (take 28 bytes); interfaces = []; link = scope.link }
after_by Description scope bytes = record { order = scope.order; interfaces = scope.interfaces ++ described scope.order bytes ∷ []; link = scope.link }
after_by kind scope bytes = record { order = scope.order; interfaces = scope.interfaces; link = link_with scope.link (block_packets_by kind scope bytes) }

unfoldable pub scope_after : Scope → List ℕ → Scope
scope_after scope bytes = after_by (kind_of scope.order (take 28 bytes)) scope bytes

-- the packets of an input, and the first break behind them
pub record Story : Type 0 where
  pub packets : List Packet
  pub broken : Option NgBreak

-- these packets, and then a story
abbrev pub before : List Packet → Story → Story
before packets story = record { packets = packets ++ story.packets; broken = story.broken }

-- the story behind a block: it ends at a break
abbrev pub unless : Option NgBreak → Story → Story
unless (Some e) story = record { packets = []; broken = Some e }
unless None story = story

-- the story of the blocks from number n on, at most so many, in the scope of the blocks before
unfoldable pub story_from : ℕ → Scope → ℕ → List ℕ → Story
story_from zero scope n bytes = record { packets = []; broken = None }
story_from (suc most) scope n [] = record { packets = []; broken = None }
story_from (suc most) scope n (b ∷ bs) =
    unless (first_break scope n (b ∷ bs))
    (before (block_packets scope (b ∷ bs)) (story_from most (scope_after scope (b ∷ bs)) (n + 1) (drop (extent scope.order (b ∷ bs)) (b ∷ bs))))

-- the story from a block on: each block takes at least one byte
unfoldable pub story_at : Scope → ℕ → List ℕ → Story
story_at scope n bytes = story_from (length bytes) scope n bytes

-- nothing was told before the first block, which is a section header
abbrev pub at_first : Scope
at_first = record { order = Little; interfaces = []; link = None }

-- the story of a list of bytes
abbrev pub story_of : List ℕ → Story
story_of bytes = story_at at_first 0 bytes
