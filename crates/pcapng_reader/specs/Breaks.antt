-- The first break of a block, as a table whose first row that applies counts.
use Rattle.std.specs.Prelude.{ℕ, ◌+◌, ◌-◌, ◌%◌, ◌==◌, ◌&&◌, ◌||◌, not, nat_lt, Bool, true, false, List, [], ◌∷◌, length, take, Option, None, Some, slice_get, if◌then◌else◌}
use Rattle.pcapng_reader.specs.declared.byte_order.ByteOrder.{ByteOrder}
use Rattle.pcapng_reader.specs.declared.byte_order.ByteOrder.TheVariants.{Big}
use Rattle.pcapng_reader.specs.declared.kind.BlockKind.{BlockKind}
use Rattle.pcapng_reader.specs.declared.kind.BlockKind.TheVariants.{Section, Description}
use Rattle.pcapng_reader.specs.declared.fault.NgKind.{NgKind}
use Rattle.pcapng_reader.specs.declared.fault.NgKind.TheVariants as breaks
use Rattle.pcapng_reader.specs.declared.fault.NgBreak.{NgBreak}
use Rattle.pcapng_reader.specs.declared.interface.Interface.{Interface}
use Rattle.pcapng_reader.specs.Numbers.{number_at}
use Rattle.pcapng_reader.specs.Options.{padded}
use Rattle.pcapng_reader.specs.Scope.{Scope}
use Rattle.pcapng_reader.specs.Front.{is_section, kind_of, order_told, order_in, total_length, least_total, looked_at, is_record, interface_named, bytes_at, captured_of}

-- a row of the table: whether it applies, and the break that it is then
pub record Row : Type 0 where
  pub applies : Bool
  pub kind : NgKind
  pub value : ℕ

abbrev pub row : Bool → NgKind → ℕ → Row
row applies kind value = record { applies = applies; kind = kind; value = value }

-- the break of block n by the first row that applies
abbrev pub first_row : ℕ → List Row → Option NgBreak
first_row n [] = None
first_row n (r ∷ rs) = if r.applies then Some (record { block = n; kind = r.kind; value = r.value }) else first_row n rs

-- the first of two breaks
abbrev pub earlier_break : Option NgBreak → Option NgBreak → Option NgBreak
earlier_break None later = later
earlier_break (Some e) later = Some e

abbrev pub is_none : {T : Type 0} → Option T → Bool
is_none None = true
is_none (Some _) = false

abbrev pub is_kind_section : BlockKind → Bool
is_kind_section Section = true
is_kind_section _ = false

abbrev pub is_kind_description : BlockKind → Bool
is_kind_description Description = true
is_kind_description _ = false

-- what is wrong with the frame of a block: its number, its first bytes, its byte order and its total length
abbrev pub frame_rows : ByteOrder → ℕ → List ℕ → List Row
frame_rows order n front =
    row (n == 4_294_967_295) breaks.Blocks 0
    ∷ row (nat_lt (length front) 8 || (is_section front && nat_lt (length front) 12)) breaks.Short (length front)
    ∷ row (is_section front && is_none (order_told front)) breaks.Order (number_at Big 4 8 front)
    ∷ row (not (total_length order front % 4 == 0) || nat_lt (total_length order front) (least_total (kind_of order front))) breaks.Length (total_length order front)
    ∷ row (nat_lt (length front) (looked_at (kind_of order front))) breaks.Short (length front)
    ∷ []

-- what is wrong with a section header or an interface, among so many others
abbrev pub section_rows : ByteOrder → ℕ → List ℕ → List Row
section_rows order others front =
    row (is_kind_section (kind_of order front) && not (number_at (order_in order front) 2 12 front == 1)) breaks.Version (number_at (order_in order front) 2 12 front)
    ∷ row (is_kind_description (kind_of order front) && not (nat_lt others 256)) breaks.Interfaces 256
    ∷ []

-- a link that no record may have: neither Ethernet (1) nor raw IP (101), or not that of the first record
abbrev pub is_bad_link : Option ℕ → ℕ → Bool
is_bad_link None link = not (link == 1 || link == 101)
is_bad_link (Some first) link = not (link == 1 || link == 101) || not (link == first)

-- what is wrong with a record of an interface
abbrev pub record_rows : Option ℕ → BlockKind → ByteOrder → Interface → List ℕ → List Row
record_rows first kind order interface front =
    row (is_bad_link first interface.link) breaks.Link interface.link
    ∷ row (nat_lt 262_144 (captured_of kind order interface front)) breaks.Long (captured_of kind order interface front)
    ∷ row (nat_lt (number_at order 4 4 front) (bytes_at kind + padded (captured_of kind order interface front) + 4)) breaks.Length (number_at order 4 4 front)
    ∷ []

-- what is wrong with a record: its interface isn't there, or as above
abbrev pub record_break : ℕ → Option ℕ → BlockKind → ByteOrder → Option Interface → List ℕ → Option NgBreak
record_break n first kind order None front = Some (record { block = n; kind = breaks.Interface; value = interface_named kind order front })
record_break n first kind order (Some interface) front = first_row n (record_rows first kind order interface front)

-- what is wrong at the front of block n
abbrev pub front_break : Scope → ℕ → List ℕ → Option NgBreak
front_break scope n front =
    earlier_break (first_row n (frame_rows scope.order n front))
    (earlier_break (first_row n (section_rows scope.order (length scope.interfaces) front))
    (if is_record (kind_of scope.order front)
    then record_break n scope.link (kind_of scope.order front) scope.order (slice_get scope.interfaces (interface_named (kind_of scope.order front) scope.order front)) front
    else None))

-- the total length at the end of the block at the front (pcapng, "General Block Structure")
abbrev pub total_again : ByteOrder → List ℕ → ℕ
total_again order bytes = number_at (order_in order (take 28 bytes)) 4 (total_length order (take 28 bytes) - 4) bytes

-- what is wrong behind the front of a block: it is cut off, or tells another total length at its end
abbrev pub rest_rows : ByteOrder → List ℕ → List Row
rest_rows order bytes =
    row (nat_lt (length bytes) (total_length order (take 28 bytes))) breaks.Short (length bytes)
    ∷ row (not (total_again order bytes == total_length order (take 28 bytes))) breaks.Tail (total_again order bytes)
    ∷ []

-- the first break of block n, which these bytes begin with
unfoldable pub first_break : Scope → ℕ → List ℕ → Option NgBreak
first_break scope n bytes = earlier_break (front_break scope n (take 28 bytes)) (first_row n (rest_rows scope.order bytes))
