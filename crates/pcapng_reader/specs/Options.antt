-- The options of a block (pcapng, "Options").
use Rattle.std.specs.Prelude.{ℕ, zero, suc, ◌+◌, ◌*◌, ◌/◌, ◌==◌, ◌&&◌, not, nat_lt, Bool, List, [], ◌∷◌, length, take, drop, slice_index, find, Option, None, Some, if◌then◌else◌}
use Rattle.pcapng_reader.specs.declared.byte_order.ByteOrder.{ByteOrder}
use Rattle.pcapng_reader.specs.Numbers.{number_at}

-- a code and a value
pub record NgOption : Type 0 where
  pub code : ℕ
  pub value : List ℕ

-- a length with its padding to a multiple of four
abbrev pub padded : ℕ → ℕ
padded n = (n + 3) / 4 * 4

-- how many bytes the option at the front takes: code, length, and the padded value
abbrev pub option_length : ByteOrder → List ℕ → ℕ
option_length order bytes = 4 + padded (number_at order 2 2 bytes)

-- an option stands at the front: it isn't the end of the options (opt_endofopt, code 0), and it fits
unfoldable pub has_option : ByteOrder → List ℕ → Bool
has_option order bytes =
    not (nat_lt (length bytes) 4) && (not (number_at order 2 0 bytes == 0) && not (nat_lt (length bytes) (option_length order bytes)))

-- the option at the front
abbrev pub first_option : ByteOrder → List ℕ → NgOption
first_option order bytes = record { code = number_at order 2 0 bytes; value = take (number_at order 2 2 bytes) (drop 4 bytes) }

-- the options that stand one behind the other, at most so many
unfoldable pub options : ℕ → ByteOrder → List ℕ → List NgOption
options zero order bytes = []
options (suc most) order bytes =
    if has_option order bytes then first_option order bytes ∷ options most order (drop (option_length order bytes) bytes) else []

-- the time resolution that an option tells (pcapng, "Interface Description Block Options": if_tsresol has code 9 and one byte). Without one it is 6: microseconds
abbrev pub told_by : Option NgOption → ℕ
told_by None = 6
told_by (Some option) = if length option.value == 1 then slice_index option.value 0 else 6

-- the time resolution that these bytes of options tell: the first such option counts
unfoldable pub resolution_of : ByteOrder → List ℕ → ℕ
resolution_of order bytes = told_by (find (λ o. o.code == 9) (options (length bytes) order bytes))
