-- The numbers that decide which flow a packet is of.
use Rattle.std.specs.Prelude.{ℕ, ◌+◌, ◌*◌, ◌/◌, ◌%◌, ◌^◌, nat_lt, if◌then◌else◌}

-- one step of a linear congruential generator (Numerical Recipes in C, second edition, section 7.1)
abbrev pub next_number : ℕ → ℕ
next_number x = (1_664_525 * x + 1_013_904_223) % 2 ^ 32

-- the number that is drawn for the packet at an index; the factor is a prime near 2^32 divided by the golden ratio (Knuth, The Art of Computer Programming, volume 3, section 6.4)
unfoldable pub draw : ℕ → ℕ → ℕ
draw number index = next_number (next_number ((number + 2_654_435_761 * index) % 2 ^ 32))

-- the flow of the packet at an index, by the high 16 bits of the number drawn: one of four large flows in half of the cases, and else one of 1,020
unfoldable pub flow_of : ℕ → ℕ → ℕ
flow_of number index =
    let high = draw number index / 2 ^ 16 in
    if nat_lt high (2 ^ 15) then high % 4 else 4 + high % 1_020
