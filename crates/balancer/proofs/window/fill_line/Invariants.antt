use Rattle.std.proofs.Common.{◌≡◌, ◌+◌, ◌-◌, length}
use Rattle.std.specs.Io.KnownBytes.{Keeps, prepend_known}
use Rattle.balancer.specs.declared.number.TheConstants.{LONGEST_LINE}
use Rattle.balancer.proofs.window.fill_line.Given as goal

abbrev pub invariant-reading : goal.invariant-reading
invariant-reading g l =
    record {
      still : Keeps (prepend_known l.fn.window (g.S.Source.left l.fn.source)) (prepend_known l.window (g.S.Source.left l.source));
      quiet : g.S.Source.faults l.source ≡ g.S.Source.faults l.fn.source;
      origin : g.S.Source.origin l.source ≡ g.S.Source.origin l.fn.source;
    }

abbrev pub decreases-reading : goal.decreases-reading
decreases-reading g l = LONGEST_LINE + 1 - length l.window
