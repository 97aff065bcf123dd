use Rattle.std.proofs.Common.{Some, length, refl}
use Rattle.traffic_gen.specs.Source.{left_of}
use Rattle.flow_report.specs.Report.{report}
use Rattle.rsspp_main.specs.Reports.{bucket_by}
use Rattle.rsspp_main.specs.Run.{ends}
use Rattle.rsspp_main.proofs.Demos.{demo_refused, shown_by}
use Rattle.rsspp_main.proofs.demo.demo_by.Goals as goal

pub returns-in-Err : goal.returns-in-Err
returns-in-Err g c = record {
  outcome = λ left reads.
      let W = g.W.FlowWork in
      let now = ends left reads (g.K.Sink.faults c.args.out.now) (g.K.Sink.may_hold c.args.out.now) in
      let command = c.args.command.now in
      let refused = rw c.new-source.ensures at c.in-Err.ensures.refused in
      rw c.fault_of_run.ensures (demo_refused g.N.RunName.packets (report W.opening W.after W.line_text) command now now c.in-Err.fault (c.good_capture.ensures command.count command.number c.requires.few)
      (Some (left_of c.run_to_report.new.source)) refused c.in-Err.ensures.cause (record { left = refl; reads = refl; writes = refl; silent = λ bytes h. h }));
}

pub returns-in-Ok : goal.returns-in-Ok
returns-in-Ok g c = record {
  outcome = λ left reads.
      let o = c.args.command.now.options in
      let run = c.in-Ok.ensures.run in
      c.tell_demo.ensures.outcome g.N.RunName.packets run.0 run.3 (bucket_by o.key (length o.start.owners)) (rw c.new-source.ensures at run.1) (shown_by g.N.RunName.packets g.W.FlowWork.cost_of o run.0 run.3 run.4) run.5 left reads;
}
