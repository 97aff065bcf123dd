-- The Toeplitz hash (Microsoft RSS), of inputs that are at least four bytes shorter than the key.
use Rattle.std.specs.Prelude.{ℕ, List, map, bit_xor}
use Rattle.std.specs.List.{fold}
use Rattle.toeplitz.specs.Bits.{bits_at, set_bits}

-- the exclusive or of the numbers in a list
abbrev pub exclusive_or : List ℕ → ℕ
exclusive_or numbers = fold bit_xor 0 numbers

-- the 32 bits of a key from a place on, as a number
abbrev pub key_bits : List ℕ → ℕ → ℕ
key_bits key place = bits_at 32 place key

-- the hash of an input: the exclusive or, over each of its bits that is set, of the 32 bits of the key from there on
unfoldable pub toeplitz : List ℕ → List ℕ → ℕ
toeplitz key input = exclusive_or (map (key_bits key) (set_bits input))
