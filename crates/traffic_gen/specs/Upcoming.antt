-- What is still to be given of traffic.
use Rattle.std.specs.Prelude.{◌≡◌, ◌≤◌, ℕ, ◌-◌, List, ◌++◌, length, drop}
use Rattle.traffic_gen.specs.declared.layout.TheConstants.{MOST_RECORDS}
use Rattle.traffic_gen.specs.declared.upcoming.Upcoming.{Upcoming}
use Rattle.traffic_gen.specs.Traffic.{records_from, traffic}

-- what was made ahead, and the records behind it
abbrev pub upcoming_bytes : Upcoming → List ℕ
upcoming_bytes u = u.ahead ++ records_from u.number u.next (u.count - u.next)

-- what is still to be given is the traffic behind so many bytes
pub record StandsBehind (u : Upcoming) (given : ℕ) : Type 0 where
  pub few : u.count ≤ MOST_RECORDS
  pub within : given ≤ length (traffic u.count u.number)
  pub bytes : upcoming_bytes u ≡ drop given (traffic u.count u.number)
