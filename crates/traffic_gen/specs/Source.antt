-- A source of traffic as contracts see it.
use Rattle.std.specs.Prelude.{ℕ, ◌+◌, List, drop}
use Rattle.traffic_gen.specs.Traffic.{traffic}

-- what it was made over, and how many bytes it gave
pub record TrafficView : Type 0 where
  pub count : ℕ
  pub number : ℕ
  pub given : ℕ

-- what it was made over: the number of records, and the number of the traffic
abbrev pub made_over : TrafficView → ℕ × ℕ
made_over s = (s.count, s.number)

-- the traffic behind the bytes that were given
abbrev pub left_of : TrafficView → List ℕ
left_of s = drop s.given (traffic s.count s.number)

-- so many bytes more were given
abbrev pub gave : TrafficView → ℕ → TrafficView
gave s n = record { count = s.count; number = s.number; given = s.given + n }
