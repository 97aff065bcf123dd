use Rattle.std.proofs.Common.{◌≡◌, ◌++◌, List}
use Rattle.std.specs.List.{flat_map, zip}
use Rattle.std.specs.Slice.Iter.{iter_rest}
use Rattle.rss_base.specs.Written.{Gets}
use Rattle.indirection.specs.declared.proposal.Proposal.{Proposal}
use Rattle.indirection.specs.declared.outcome.Outcome.{Outcome}
use Rattle.flow_report.proofs.JournalWrites.{tried_bytes}
use Rattle.flow_report.proofs.journal.write_tried.Given as goal

abbrev pub invariant-tried : goal.invariant-tried
invariant-tried g l =
    record {
      lines : (done : List (Proposal × Outcome)) × (done ++ zip (iter_rest l.proposal-iterator.a) (iter_rest l.proposal-iterator.b) ≡ zip l.proposals l.outcomes) × Gets (g.K.Sink.may_hold l.fn.out) (g.K.Sink.may_hold l.out) (flat_map tried_bytes done);
      quiet : g.K.Sink.faults l.out ≡ g.K.Sink.faults l.fn.out;
    }
