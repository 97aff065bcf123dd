use Rattle.std.proofs.Common.{◌≡◌, take}
use Rattle.std.specs.List.{flat_map}
use Rattle.rss_base.specs.Written.{Gets}
use Rattle.flow_report.specs.JournalText.{line_bytes, entry_lines}
use Rattle.flow_report.proofs.journal.write_entries.Given as goal

abbrev pub invariant-loop-entry : goal.invariant-loop-entry
invariant-loop-entry g l =
    record {
      got : Gets (g.K.Sink.may_hold l.fn.out) (g.K.Sink.may_hold l.out) (flat_map line_bytes (flat_map entry_lines (take l.entry-index l.entries)));
      quiet : g.K.Sink.faults l.out ≡ g.K.Sink.faults l.fn.out;
    }
