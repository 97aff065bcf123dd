use Rattle.std.proofs.Common.{◌++◌, length, None, Some, refl}
use Rattle.flow_report.specs.Report.{report}
use Rattle.dispatch_loop.specs.Terms.{terms_of}
use Rattle.rsspp_main.specs.Reports.{bucket_by, journal_part}
use Rattle.rsspp_main.specs.Threads.{IsThreadedText}
use Rattle.rsspp_main.specs.Run.{ends}
use Rattle.rsspp_main.specs.declared.trace.Trace.{Trace}
use Rattle.rsspp_main.proofs.Reported.{unwritten, written}
use Rattle.rsspp_main.proofs.Traces.{value_of, trace_is, text_of}
use Rattle.rsspp_main.proofs.threaded.threaded_by.Goals as goal

pub returns-in-Err-clause-outcome : goal.returns-in-Err-clause-outcome
returns-in-Err-clause-outcome g c = unwritten _ _ _ _ c.in-Err.fault c.in-Err.ensures.refused (record { silent = λ bytes h. h; writes = refl })

pub returns-in-Ok-write_run-clause-outcome : goal.returns-in-Ok-write_run-clause-outcome
returns-in-Ok-write_run-clause-outcome g c =
    let W = g.W.FlowWork in
    let o = c.args.command.now.options in
    let h = c.in-Ok.ensures.run in
    let end = c.in-Ok.end in
    let made = c.trace_of.ensures in
    let report_of = report W.opening W.after W.line_text in
    let asked = c.args.command.now.journal in
    let is = trace_is (terms_of g.W.FlowWork.cost_of o) h.0 c.trace_of.result end.journal end.custody.items end.worked.items end.notes.items end.shelf made.journal made.custody made.worked made.notes made.shelf h.2 in (
      (h.0, report_of h.3 ++ journal_part asked end.journal end.custody.items, (h.1, c.in-Ok.ensures.whole.0, c.in-Ok.ensures.whole.1), text_of g.N.RunName.packets report_of asked (terms_of g.W.FlowWork.cost_of o) (Some c.trace_of.result) h.0 h.3 c.trace_of.result end.journal end.custody.items refl h.4 is made.journal made.custody, c.in-Ok-write_run.ensures.ok h.3 (bucket_by o.key (length o.start.owners)) h.5),
      record { reads = c.in-Ok.ensures.whole.2; writes = c.in-Ok-write_run.ensures.cause.kept },
    )

pub returns-in-Err-write_run-clause-outcome : goal.returns-in-Err-write_run-clause-outcome
returns-in-Err-write_run-clause-outcome g c =
    let left = g.S.Source.left in
    let faults = g.S.Source.faults in
    let writes = g.K.Sink.faults in
    let holds = g.K.Sink.may_hold in
    let W = g.W.FlowWork in
    let o = c.args.command.now.options in
    let h = c.in-Ok.ensures.run in
    let end = c.in-Ok.end in
    let note = value_of end.shelf c.in-Ok.ensures.shelf in
    let run : Trace = record { journal = end.journal; custody = end.custody; worked = end.worked; notes = end.notes; shelf = note.0 } in
    let report_of = report W.opening W.after W.line_text in
    let asked = c.args.command.now.journal in
    let is = trace_is (terms_of g.W.FlowWork.cost_of o) h.0 run end.journal end.custody.items end.worked.items end.notes.items end.shelf refl refl refl refl note.1 h.2 in
    let threaded = IsThreadedText g.N.RunName.packets report_of asked (terms_of g.W.FlowWork.cost_of o) None in
    let text = report_of h.3 ++ journal_part asked end.journal end.custody.items in
    let old = ends (left c.args.source.now) (faults c.args.source.now) (writes c.args.out.now) (holds c.args.out.now) in
    let new = ends (left c.threads_over_input.new.source) (faults c.threads_over_input.new.source) (writes c.write_run.new.out) (holds c.write_run.new.out) in
    rw c.fault_of_report.ensures (written o.packets threaded old new h.0 text c.in-Err-write_run.fault (h.1, c.in-Ok.ensures.whole.0, c.in-Ok.ensures.whole.1)
    (text_of g.N.RunName.packets report_of asked (terms_of g.W.FlowWork.cost_of o) None h.0 h.3 run end.journal end.custody.items tt h.4 is refl refl)
    (c.in-Err-write_run.ensures.err h.3 (bucket_by o.key (length o.start.owners)) h.5) c.in-Err-write_run.ensures.cause.blames c.in-Ok.ensures.whole.2)
