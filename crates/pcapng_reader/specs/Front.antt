-- The numbers at the front of a block: its first 28 bytes have all its fixed fields.
use Rattle.std.specs.Prelude.{ℕ, ◌+◌, ◌*◌, ◌^◌, ◌==◌, min, Bool, true, false, List, Option, None, Some, if◌then◌else◌}
use Rattle.pcapng_reader.specs.declared.byte_order.ByteOrder.{ByteOrder}
use Rattle.pcapng_reader.specs.declared.byte_order.ByteOrder.TheVariants.{Little, Big}
use Rattle.pcapng_reader.specs.declared.kind.BlockKind.{BlockKind}
use Rattle.pcapng_reader.specs.declared.kind.BlockKind.TheVariants.{Section, Description, Simple, Enhanced, Other}
use Rattle.pcapng_reader.specs.declared.interface.Interface.{Interface}
use Rattle.pcapng_reader.specs.Numbers.{number_at}

-- the kind of a block type (pcapng, "Block Types")
abbrev pub kind_by : ℕ → BlockKind
kind_by number =
    if number == 1 then Description
    else (if number == 3 then Simple
    else (if number == 6 then Enhanced
    else Other))

-- a section header, whose type reads alike in both orders
abbrev pub is_section : List ℕ → Bool
is_section front = number_at Big 4 0 front == 0x0a0d_0d0a

-- the kind of the block with this front
unfoldable pub kind_of : ByteOrder → List ℕ → BlockKind
kind_of order front = if is_section front then Section else kind_by (number_at order 4 0 front)

-- the byte order that a section header's magic tells (pcapng, "Section Header Block": Byte-Order Magic)
abbrev pub order_told : List ℕ → Option ByteOrder
order_told front =
    if number_at Big 4 8 front == 0x1a2b_3c4d then Some Big
    else (if number_at Little 4 8 front == 0x1a2b_3c4d then Some Little
    else None)

abbrev pub or_else : {T : Type 0} → Option T → T → T
or_else None value = value
or_else (Some told) value = told

-- the byte order of the block's numbers: a section header's own, else that of its section
unfoldable pub order_in : ByteOrder → List ℕ → ByteOrder
order_in order front = if is_section front then or_else (order_told front) order else order

-- the total length that the front tells (pcapng, "General Block Structure": Block Total Length)
abbrev pub total_length : ByteOrder → List ℕ → ℕ
total_length order front = number_at (order_in order front) 4 4 front

-- the least total length of a kind: its fixed fields, and the total length again
abbrev pub least_total : BlockKind → ℕ
least_total Section = 28
least_total Description = 20
least_total Simple = 16
least_total Enhanced = 32
least_total Other = 12

-- how many bytes are read before the fields are looked at
abbrev pub looked_at : BlockKind → ℕ
looked_at Section = 16
looked_at Description = 16
looked_at Simple = 12
looked_at Enhanced = 28
looked_at Other = 8

-- a kind that holds a packet
abbrev pub is_record : BlockKind → Bool
is_record Simple = true
is_record Enhanced = true
is_record _ = false

-- the interface that a record names: a simple packet is of the first (pcapng, "Simple Packet Block")
abbrev pub interface_named : BlockKind → ByteOrder → List ℕ → ℕ
interface_named Enhanced order front = number_at order 4 8 front
interface_named _ order front = 0

-- where a record's captured bytes begin
abbrev pub bytes_at : BlockKind → ℕ
bytes_at Enhanced = 28
bytes_at _ = 12

-- the smaller of a length and a snap length, where a snap length of 0 bounds nothing
abbrev pub bounded : ℕ → ℕ → ℕ
bounded snap length = if snap == 0 then length else min length snap

-- how many bytes of a record's frame were captured (pcapng, "Enhanced Packet Block" and "Simple Packet Block")
abbrev pub captured_of : BlockKind → ByteOrder → Interface → List ℕ → ℕ
captured_of Enhanced order interface front = number_at order 4 20 front
captured_of _ order interface front = bounded interface.snap (number_at order 4 8 front)

-- the length of a record's frame on the wire
abbrev pub original_of : BlockKind → ByteOrder → List ℕ → ℕ
original_of Enhanced order front = number_at order 4 24 front
original_of _ order front = number_at order 4 8 front

-- a record's time in units of its interface, the high half of the number first (pcapng, "Enhanced Packet Block": Timestamp). A simple packet has none
abbrev pub ticks_of : BlockKind → ByteOrder → List ℕ → ℕ
ticks_of Enhanced order front = number_at order 4 12 front * 2 ^ 32 + number_at order 4 16 front
ticks_of _ order front = 0
