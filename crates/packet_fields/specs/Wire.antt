-- Numbers in network byte order (RFC 791, appendix B; RFC 8200, section 3).
use Rattle.std.specs.Prelude.{ℕ, List, drop}
use Rattle.byteorder.specs.Endian.{big_number}

-- the number in the two bytes from place i
unfoldable pub u16_at : ℕ → List ℕ → ℕ
u16_at i bytes = big_number 2 (drop i bytes)

-- the number in the four bytes from place i
unfoldable pub u32_at : ℕ → List ℕ → ℕ
u32_at i bytes = big_number 4 (drop i bytes)

-- the number in the sixteen bytes from place i
unfoldable pub u128_at : ℕ → List ℕ → ℕ
u128_at i bytes = big_number 16 (drop i bytes)
