use Rattle.std.proofs.Common.{◌≡◌, map, take}
use Rattle.std.specs.List.{flat_map}
use Rattle.rss_base.specs.Written.{Gets}
use Rattle.flow_report.specs.JournalText.{line_bytes, custody_line}
use Rattle.flow_report.proofs.journal.write_held.Given as goal

abbrev pub invariant-loop-held : goal.invariant-loop-held
invariant-loop-held g l =
    record {
      got : Gets (g.K.Sink.may_hold l.fn.out) (g.K.Sink.may_hold l.out) (flat_map line_bytes (map custody_line (take l.held-index l.custody)));
      quiet : g.K.Sink.faults l.out ≡ g.K.Sink.faults l.fn.out;
    }
