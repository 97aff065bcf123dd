use Rattle.std.proofs.Common.{◌≡◌, ◌++◌, List}
use Rattle.std.specs.List.{flat_map}
use Rattle.rss_base.specs.Written.{Gets}
use Rattle.packet_fields.specs.declared.key.FlowKey.{FlowKey}
use Rattle.flow_report.specs.Report.{flow_line}
use Rattle.flow_report.specs.Tables.{all_flows, in_key_order}
use Rattle.flow_report.proofs.write.report.Given as goal

abbrev pub invariant-flows : goal.invariant-flows
invariant-flows g l =
    record {
      lines : (done : List (FlowKey × g.row.W-State.Denot)) × (done ++ l.key-iterator ≡ in_key_order (all_flows l.tables)) × Gets (g.K.Sink.may_hold l.fn.out) (g.K.Sink.may_hold l.out) (flat_map (λ e. flow_line g.W.FlowWork.line_text e.0 e.1) done);
      quiet : g.K.Sink.faults l.out ≡ g.K.Sink.faults l.fn.out;
    }
