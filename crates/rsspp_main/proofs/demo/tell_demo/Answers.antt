use Rattle.std.proofs.Common.{refl, sym, subst}
use Rattle.flow_report.specs.Report.{report}
use Rattle.flow_report.specs.Tables.{StandTogether}
use Rattle.rsspp_main.proofs.Demos.{demo_shown, folded}
use Rattle.rsspp_main.proofs.demo.tell_demo.Goals as goal

pub returns-in-Ok-write_demo : goal.returns-in-Ok-write_demo
returns-in-Ok-write_demo g c = record {
  outcome = λ packets all shown f whole are together left reads.
      let W = g.W.FlowWork in
      let command = c.args.command.now in
      let report_of = report W.opening W.after W.line_text in
      let counted = c.totals.ensures.packets shown f (subst (λ ts. StandTogether W.opening W.after f shown ts) (sym c.deref-2.ensures.value) together) in
      let text = c.report.ensures.packets shown f (subst (λ ts. StandTogether W.opening W.after f shown ts) (sym c.deref.ensures.value) together) in
      let got = rw (c.new-text.ensures, text) at c.in-Ok.ensures.ok in
      let sums = folded (report_of shown) c.report.new.out got in
      let d = demo_shown packets report_of command all shown c.totals.result c.report.new.out (c.good_capture.ensures command.count command.number c.requires.few) whole are counted sums in
      (d.0, _, d.1, c.in-Ok-write_demo.ensures.ok, record { left = refl; reads = refl }, c.in-Ok-write_demo.ensures.cause.kept);
}

pub returns-in-Err-write_demo : goal.returns-in-Err-write_demo
returns-in-Err-write_demo g c = record {
  outcome = λ packets all shown f whole are together left reads.
      let W = g.W.FlowWork in
      let command = c.args.command.now in
      let report_of = report W.opening W.after W.line_text in
      let counted = c.totals.ensures.packets shown f (subst (λ ts. StandTogether W.opening W.after f shown ts) (sym c.deref-2.ensures.value) together) in
      let text = c.report.ensures.packets shown f (subst (λ ts. StandTogether W.opening W.after f shown ts) (sym c.deref.ensures.value) together) in
      let got = rw (c.new-text.ensures, text) at c.in-Ok.ensures.ok in
      let sums = folded (report_of shown) c.report.new.out got in
      let d = demo_shown packets report_of command all shown c.totals.result c.report.new.out (c.good_capture.ensures command.count command.number c.requires.few) whole are counted sums in
      (d.0, _, d.1, c.in-Err-write_demo.ensures.err, record { left = refl; reads = refl }, c.in-Err-write_demo.ensures.cause.failed);
}
