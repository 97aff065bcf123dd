use Rattle.std.proofs.Common.{◌++◌, refl}
use Rattle.std.proofs.lemmas.Result.{on_ok_weaker, on_err_weaker}
use Rattle.rss_base.proofs.Pieces.{Gets-trans}
use Rattle.flow_report.specs.Report.{total_line}
use Rattle.flow_report.proofs.Lines.{front_first, front_behind, front_last}
use Rattle.rsspp_main.specs.Demo.{demo_line, sum_line}
use Rattle.rsspp_main.proofs.demo.write_demo.Goals as goal

pub returns-in-Err-clause-err : goal.returns-in-Err-clause-err
returns-in-Err-clause-err g c =
    let holds = g.K.Sink.may_hold in
    let t = c.args.totals.now in
    let total = total_line t.flows t.packets t.bytes in
    front_first (holds c.args.out.now) (holds c.write_asked.new.out) (demo_line c.args.command.now.count c.args.command.now.number) (total ++ sum_line c.args.text.now.count c.args.text.now.value) c.in-Err.ensures.err

pub returns-in-Err-write_totals-clause-err : goal.returns-in-Err-write_totals-clause-err
returns-in-Err-write_totals-clause-err g c =
    let holds = g.K.Sink.may_hold in
    let t = c.args.totals.now in
    let total = total_line t.flows t.packets t.bytes in
    front_behind (holds c.args.out.now) (holds c.write_asked.new.out) (holds c.write_totals.new.out) (demo_line c.args.command.now.count c.args.command.now.number) total (sum_line c.args.text.now.count c.args.text.now.value) c.in-Ok.ensures.ok c.in-Err-write_totals.ensures.err

pub returns-clause-ok : goal.returns-clause-ok
returns-clause-ok g c =
    let holds = g.K.Sink.may_hold in
    let t = c.args.totals.now in
    let asked = demo_line c.args.command.now.count c.args.command.now.number in
    let total = total_line t.flows t.packets t.bytes in
    let sums = sum_line c.args.text.now.count c.args.text.now.value in
    on_ok_weaker c.write_sum.result
    (λ last. Gets-trans (holds c.args.out.now) (holds c.write_asked.new.out) (holds c.write_sum.new.out) asked (total ++ sums) (asked ++ (total ++ sums)) c.in-Ok.ensures.ok
    (Gets-trans (holds c.write_asked.new.out) (holds c.write_totals.new.out) (holds c.write_sum.new.out) total sums (total ++ sums) c.in-Ok-write_totals.ensures.ok (rw (← c.length.ensures, ← c.sum.ensures) last) refl) refl)
    c.write_sum.ensures.ok

pub returns-clause-err : goal.returns-clause-err
returns-clause-err g c =
    let holds = g.K.Sink.may_hold in
    let t = c.args.totals.now in
    let asked = demo_line c.args.command.now.count c.args.command.now.number in
    let total = total_line t.flows t.packets t.bytes in
    let sums = sum_line c.args.text.now.count c.args.text.now.value in
    on_err_weaker c.write_sum.result
    (λ last. front_last (holds c.args.out.now) (holds c.write_asked.new.out) (holds c.write_sum.new.out) asked (total ++ sums) c.in-Ok.ensures.ok
    (front_last (holds c.write_asked.new.out) (holds c.write_totals.new.out) (holds c.write_sum.new.out) total sums c.in-Ok-write_totals.ensures.ok (rw (← c.length.ensures, ← c.sum.ensures) last)))
    c.write_sum.ensures.err
