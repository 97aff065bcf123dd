-- The bits of a list of bytes in network order: bit 0 is the most significant bit of the first byte.
use Rattle.std.specs.Prelude.{◌==◌, ℕ, ◌+◌, ◌-◌, ◌*◌, ◌/◌, ◌%◌, ◌^◌, Bool, List, length}
use Rattle.std.specs.List.{filter, range_with_len}
use Rattle.byteorder.specs.Endian.{big_number}

-- so many bits from a place on, all of which are there, as a number: the bytes as one number, without the bits behind these and those before
unfoldable pub bits_at : ℕ → ℕ → List ℕ → ℕ
bits_at count place bytes = big_number (length bytes) bytes / 2 ^ (8 * length bytes - (place + count)) % 2 ^ count

-- the bit at a place is set
abbrev pub is_set : List ℕ → ℕ → Bool
is_set bytes place = bits_at 1 place bytes == 1

-- the places of the bits that are set
unfoldable pub set_bits : List ℕ → List ℕ
set_bits bytes = filter (is_set bytes) (range_with_len 0 (8 * length bytes))
