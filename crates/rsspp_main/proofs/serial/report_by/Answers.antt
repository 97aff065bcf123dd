use Rattle.std.proofs.Common.{◌++◌, length, refl}
use Rattle.flow_report.specs.Report.{report}
use Rattle.dispatch_loop.specs.Terms.{terms_of}
use Rattle.rsspp_main.specs.Reports.{IsSerialText, bucket_by, journal_part}
use Rattle.rsspp_main.specs.Run.{ends}
use Rattle.rsspp_main.proofs.Reported.{unwritten, written}
use Rattle.rsspp_main.proofs.serial.report_by.Goals as goal

pub returns-in-Err-clause-outcome : goal.returns-in-Err-clause-outcome
returns-in-Err-clause-outcome g c = unwritten _ _ _ _ c.in-Err.fault c.in-Err.ensures.refused (record { silent = λ bytes h. h; writes = refl })

pub returns-in-Ok-write_run-clause-outcome : goal.returns-in-Ok-write_run-clause-outcome
returns-in-Ok-write_run-clause-outcome g c =
    let o = c.args.command.now.options in
    let run = c.in-Ok.ensures.run in
    let end = c.in-Ok.end in
    let W = g.W.FlowWork in
    let text = report W.opening W.after W.line_text run.3 ++ journal_part c.args.command.now.journal end.journal end.custody.items in (
      (run.0, text, (run.1, c.in-Ok.ensures.whole.0, c.in-Ok.ensures.whole.1), record { shown = run.3; are_shown = run.4; journal = end.journal; custody = end.custody.items; worked = end.worked.items; run = run.2; text_is = refl }, c.in-Ok-write_run.ensures.ok run.3 (bucket_by o.key (length o.start.owners)) run.5),
      record { reads = c.in-Ok.ensures.whole.2; writes = c.in-Ok-write_run.ensures.cause.kept },
    )

pub returns-clause-outcome : goal.returns-clause-outcome
returns-clause-outcome g c =
    let left = g.S.Source.left in
    let faults = g.S.Source.faults in
    let writes = g.K.Sink.faults in
    let holds = g.K.Sink.may_hold in
    let W = g.W.FlowWork in
    let o = c.args.command.now.options in
    let run = c.in-Ok.ensures.run in
    let end = c.in-Ok.end in
    let serial = IsSerialText g.N.RunName.packets (report W.opening W.after W.line_text) c.args.command.now.journal (terms_of g.W.FlowWork.cost_of o) o.pool c.args.number in
    let text = report W.opening W.after W.line_text run.3 ++ journal_part c.args.command.now.journal end.journal end.custody.items in
    let old = ends (left c.args.source.now) (faults c.args.source.now) (writes c.args.out.now) (holds c.args.out.now) in
    let new = ends (left c.run_input.new.source) (faults c.run_input.new.source) (writes c.write_run.new.out) (holds c.write_run.new.out) in
    rw c.fault_of_report.ensures (written o.packets serial old new run.0 text c.in-Err-write_run.fault (run.1, c.in-Ok.ensures.whole.0, c.in-Ok.ensures.whole.1)
    (record { shown = run.3; are_shown = run.4; journal = end.journal; custody = end.custody.items; worked = end.worked.items; run = run.2; text_is = refl })
    (c.in-Err-write_run.ensures.err run.3 (bucket_by o.key (length o.start.owners)) run.5) c.in-Err-write_run.ensures.cause.blames c.in-Ok.ensures.whole.2)
