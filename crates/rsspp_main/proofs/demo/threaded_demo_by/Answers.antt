use Rattle.std.proofs.Common.{List, Some, length, refl, subst}
use Rattle.traffic_gen.specs.Source.{left_of}
use Rattle.flow_report.specs.Report.{report}
use Rattle.packet_fields.specs.declared.packet.PacketInfo.{PacketInfo}
use Rattle.dispatch_loop.specs.Terms.{terms_of}
use Rattle.rsspp_main.specs.Reports.{bucket_by}
use Rattle.rsspp_main.specs.Run.{ends}
use Rattle.rsspp_main.proofs.Demos.{demo_refused, shown_by, all_made}
use Rattle.rsspp_main.specs.Threads.{IsTraceOf}
use Rattle.rsspp_main.proofs.Traces.{trace_is}
use Rattle.rsspp_main.proofs.demo.threaded_demo_by.Goals as goal

pub returns-in-Err-clause-outcome : goal.returns-in-Err-clause-outcome
returns-in-Err-clause-outcome g c = λ left reads.
    let W = g.W.FlowWork in
    let now = ends left reads (g.K.Sink.faults c.args.out.now) (g.K.Sink.may_hold c.args.out.now) in
    let command = c.args.command.now in
    let refused = rw c.new-traffic.ensures at c.in-Err.ensures.refused in
    rw c.fault_of_run.ensures (demo_refused g.N.RunName.packets (report W.opening W.after W.line_text) command now now c.in-Err.fault (c.good_capture.ensures command.count command.number c.requires.few)
    (Some (left_of c.threads_to_report.new.source)) refused c.in-Err.ensures.cause (record { left = refl; reads = refl; writes = refl; silent = λ bytes h. h }))

pub returns-in-Ok-tell_demo : goal.returns-in-Ok-tell_demo
returns-in-Ok-tell_demo g c =
    let command = c.args.command.now in
    let o = command.options in
    let run = c.in-Ok.ensures.run in
    let end = c.in-Ok.end in
    let made = c.trace_of.ensures in
    let whole = rw c.new-traffic.ensures at run.1 in
    let same = all_made command.count command.number o.packets (c.good_capture.ensures command.count command.number c.requires.few) run.0 whole in record {
      outcome = λ left reads.
          c.in-Ok-tell_demo.ensures.outcome g.N.RunName.packets run.0 run.3 (bucket_by o.key (length o.start.owners)) whole (shown_by g.N.RunName.packets g.W.FlowWork.cost_of o run.0 run.3 run.4) run.5 left reads;
      trace = subst (λ (all : List PacketInfo). IsTraceOf (terms_of g.W.FlowWork.cost_of o) all c.trace_of.result) same
          (trace_is (terms_of g.W.FlowWork.cost_of o) run.0 c.trace_of.result end.journal end.custody.items end.worked.items end.notes.items end.shelf made.journal made.custody made.worked made.notes made.shelf run.2);
    }

pub returns-in-Err-tell_demo-clause-outcome : goal.returns-in-Err-tell_demo-clause-outcome
returns-in-Err-tell_demo-clause-outcome g c = λ left reads.
    let o = c.args.command.now.options in
    let run = c.in-Ok.ensures.run in
    c.in-Err-tell_demo.ensures.outcome g.N.RunName.packets run.0 run.3 (bucket_by o.key (length o.start.owners)) (rw c.new-traffic.ensures at run.1) (shown_by g.N.RunName.packets g.W.FlowWork.cost_of o run.0 run.3 run.4) run.5 left reads
