use Rattle.flow_report.proofs.Together.{text_is}
use Rattle.std.proofs.Common.{◌∙◌, List, subst, ℕ}
use Rattle.std.specs.Map.Iter.{deref_pair}
use Rattle.std.proofs.lemmas.Map.Iter.{rest_more, rest_all}
use Rattle.std.proofs.lemmas.Result.{on_ok_weaker, on_err_weaker}
use Rattle.packet_fields.specs.declared.key.FlowKey.{FlowKey}
use Rattle.rss_base.specs.Written.{Gets, GetsFront}
use Rattle.flow_report.specs.Report.{flow_line, total_line}
use Rattle.flow_report.specs.Tables.{all_flows, in_key_order, totals_of}
use Rattle.flow_report.specs.declared.numbers.Totals.{Totals}
use Rattle.flow_report.proofs.Lines.{put_more, put_front, put_last, put_last_front}
use Rattle.flow_report.proofs.write.report.Goals as goal

pub flows-preserved : goal.flows-preserved
flows-preserved g c =
    let holds = g.K.Sink.may_hold in
    let f : FlowKey × g.row.W-State.Denot → List ℕ = λ e. flow_line g.W.FlowWork.line_text e.0 e.1 in
    let so_far = c.flows.invariant.lines in
    let first = rest_more deref_pair c.flows.key-iterator c.next.new.self c.next.result (c.in-Some.key, c.in-Some.state) c.in-Some.is c.next.ensures.steps in
    record {
      lines = put_more f (holds c.args.out.now) (holds c.flows.out) (holds c.write_flow.new.out) (in_key_order (all_flows c.args.tables.now)) so_far.0 c.flows.key-iterator so_far.1 so_far.2
          (c.in-Some.key.now, c.in-Some.state.now) c.next.new.self first c.in-Ok-write_flow.ensures.ok;
      quiet = c.in-Ok-write_flow.ensures.cause.kept ∙ c.flows.invariant.quiet;
    }

pub returns-in-Err-clause-err : goal.returns-in-Err-clause-err
returns-in-Err-clause-err g c =
    let holds = g.K.Sink.may_hold in
    let f : FlowKey × g.row.W-State.Denot → List ℕ = λ e. flow_line g.W.FlowWork.line_text e.0 e.1 in
    let so_far = c.flows.invariant.lines in
    let first = rest_more deref_pair c.flows.key-iterator c.next.new.self c.next.result (c.in-Some.key, c.in-Some.state) c.in-Some.is c.next.ensures.steps in
    put_front f (holds c.args.out.now) (holds c.flows.out) (holds c.write_flow.new.out) (in_key_order (all_flows c.args.tables.now)) so_far.0 c.flows.key-iterator so_far.1 so_far.2
    (c.in-Some.key.now, c.in-Some.state.now) c.next.new.self _ first c.in-Err.ensures.err

pub returns-clause-ok : goal.returns-clause-ok
returns-clause-ok g c =
    let holds = g.K.Sink.may_hold in
    let f : FlowKey × g.row.W-State.Denot → List ℕ = λ e. flow_line g.W.FlowWork.line_text e.0 e.1 in
    let so_far = c.flows.invariant.lines in
    let sorted = in_key_order (all_flows c.args.tables.now) in
    let total = totals_of c.args.tables.now in
    let none = rest_all deref_pair c.flows.key-iterator c.next.new.self c.next.result c.in-None.is c.next.ensures.steps in
    on_ok_weaker c.write_total.result
    (λ h. put_last f (holds c.args.out.now) (holds c.flows.out) (holds c.write_total.new.out) sorted so_far.0 c.flows.key-iterator so_far.1 so_far.2
    (total_line total.flows total.packets total.bytes) none
    (subst (λ (t : Totals). Gets (holds c.flows.out) (holds c.write_total.new.out) (total_line t.flows t.packets t.bytes)) c.totals.ensures.tables h))
    c.write_total.ensures.ok

pub returns-clause-err : goal.returns-clause-err
returns-clause-err g c =
    let holds = g.K.Sink.may_hold in
    let f : FlowKey × g.row.W-State.Denot → List ℕ = λ e. flow_line g.W.FlowWork.line_text e.0 e.1 in
    let so_far = c.flows.invariant.lines in
    let sorted = in_key_order (all_flows c.args.tables.now) in
    let total = totals_of c.args.tables.now in
    let none = rest_all deref_pair c.flows.key-iterator c.next.new.self c.next.result c.in-None.is c.next.ensures.steps in
    on_err_weaker c.write_total.result
    (λ h. put_last_front f (holds c.args.out.now) (holds c.flows.out) (holds c.write_total.new.out) sorted so_far.0 c.flows.key-iterator so_far.1 so_far.2
    (total_line total.flows total.packets total.bytes) none
    (subst (λ (t : Totals). GetsFront (holds c.flows.out) (holds c.write_total.new.out) (total_line t.flows t.packets t.bytes)) c.totals.ensures.tables h))
    c.write_total.ensures.err

pub returns-clause-packets : goal.returns-clause-packets
returns-clause-packets g c = λ packets bucket_of together. text_is g.W.FlowWork.opening g.W.FlowWork.after bucket_of packets c.args.tables.now together g.W.FlowWork.line_text

pub returns-in_default-clause-packets : goal.returns-in_default-clause-packets
returns-in_default-clause-packets g c = λ packets bucket_of together. text_is g.W.FlowWork.opening g.W.FlowWork.after bucket_of packets c.args.tables.now together g.W.FlowWork.line_text

pub returns-in-Err-clause-packets : goal.returns-in-Err-clause-packets
returns-in-Err-clause-packets g c = λ packets bucket_of together. text_is g.W.FlowWork.opening g.W.FlowWork.after bucket_of packets c.args.tables.now together g.W.FlowWork.line_text
