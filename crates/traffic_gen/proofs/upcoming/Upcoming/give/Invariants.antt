use Rattle.std.proofs.Common.{◌≡◌, ◌≤◌, ◌-◌, length, take, drop}
use Rattle.traffic_gen.specs.Upcoming.{upcoming_bytes}
use Rattle.traffic_gen.proofs.upcoming.Upcoming.give.Given as goal

abbrev pub invariant-loop-done : goal.invariant-loop-done
invariant-loop-done l =
    record {
      within : l.done ≤ length l.into;
      there : l.done ≤ length (upcoming_bytes l.fn.self);
      count : l.self.count ≡ l.fn.self.count;
      number : l.self.number ≡ l.fn.self.number;
      bytes : take l.done l.into ≡ take l.done (upcoming_bytes l.fn.self);
      rest : upcoming_bytes l.self ≡ drop l.done (upcoming_bytes l.fn.self);
    }

abbrev pub decreases-loop-done : goal.decreases-loop-done
decreases-loop-done l = length l.into - l.done
