-- The length and the sum of what was written.
use Rattle.std.specs.Prelude.{◌≡◌, ℕ, ◌+◌, ◌-◌, ◌*◌, ◌%◌, ◌^◌, min, List, length, fold}

-- a sink that keeps the length and the sum of what was written, and not the bytes
pub record Folded : Type 0 where
  pub count : ℕ
  pub value : ℕ

-- the sum so far times 31, and the next byte, of which 32 bits are kept
abbrev pub sum_with : ℕ → ℕ → ℕ
sum_with sum byte = (31 * sum + byte) % 2 ^ 32

-- the sum of a list of bytes
abbrev pub text_sum : List ℕ → ℕ
text_sum bytes = fold sum_with 0 bytes

-- the length of a list of bytes, which counts as the greatest `u64` where it is above that
abbrev pub text_count : List ℕ → ℕ
text_count bytes = min (length bytes) (2 ^ 64 - 1)

-- a list of this length and this sum
pub record Sums (s : Folded) (bytes : List ℕ) : Type 0 where
  pub count : s.count ≡ text_count bytes
  pub value : s.value ≡ text_sum bytes

-- the sink behind a write
abbrev pub folded_with : Folded → List ℕ → Folded
folded_with s piece = record { count = min (s.count + length piece) (2 ^ 64 - 1); value = fold sum_with s.value piece }
