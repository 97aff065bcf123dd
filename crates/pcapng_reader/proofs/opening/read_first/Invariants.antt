use Rattle.std.proofs.Common.{◌≡◌, ◌≤◌, ◌-◌, length, take}
use Rattle.std.specs.Io.KnownBytes.{Consumes}
use Rattle.pcapng_reader.proofs.opening.read_first.Given as goal

abbrev pub invariant-reading : goal.invariant-reading
invariant-reading g l =
    record {
      bytes : Consumes (g.S.Source.left l.fn.source) (g.S.Source.left l.source) (take l.have l.first);
      within : l.have ≤ length l.first;
      quiet : g.S.Source.faults l.source ≡ g.S.Source.faults l.fn.source;
      origin : g.S.Source.origin l.source ≡ g.S.Source.origin l.fn.source;
    }

abbrev pub decreases-reading : goal.decreases-reading
decreases-reading g l = length l.first - l.have
