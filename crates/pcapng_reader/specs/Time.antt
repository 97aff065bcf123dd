-- The time of a record.
use Rattle.std.specs.Prelude.{ℕ, ◌-◌, ◌*◌, ◌/◌, ◌^◌, nat_lt, min, if◌then◌else◌}

-- units in a second: a power of ten, and from 128 on a power of two (pcapng, "Interface Description Block Options": if_tsresol)
abbrev pub units : ℕ → ℕ
units resolution = if nat_lt resolution 128 then 10 ^ resolution else 2 ^ (resolution - 128)

-- so many units of time in nanoseconds, up to the last nanosecond of the greatest second that a classic capture can tell
abbrev pub nanos_of : ℕ → ℕ → ℕ
nanos_of ticks resolution = min (ticks * 1_000_000_000 / units resolution) 4_294_967_295_999_999_999
