use Rattle.std.proofs.Common.{◌++◌, List, ℕ, sym, subst, refl}
use Rattle.std.proofs.lemmas.Result.{on_ok_weaker, on_err_weaker}
use Rattle.bucket_table.specs.declared.custody.Custody.{Custody}
use Rattle.rss_base.specs.Written.{Gets, GetsFront}
use Rattle.rss_base.proofs.Pieces.{Gets-trans}
use Rattle.flow_report.specs.Report.{report}
use Rattle.flow_report.specs.Tables.{StandTogether}
use Rattle.flow_report.proofs.Lines.{front_first, front_last}
use Rattle.rsspp_main.specs.Reports.{journal_part}
use Rattle.rsspp_main.proofs.serial.write_run.Goals as goal

pub returns-in-Err-clause-err : goal.returns-in-Err-clause-err
returns-in-Err-clause-err g c = λ shown bucket_of together.
    let W = g.W.FlowWork in
    let holds = g.K.Sink.may_hold in
    let text = c.report.ensures.packets shown bucket_of (subst (λ ts. StandTogether W.opening W.after bucket_of shown ts) (sym c.deref.ensures.value) together) in
    front_first (holds c.args.out.now) (holds c.report.new.out) (report W.opening W.after W.line_text shown) (journal_part c.args.with_journal c.args.end.now.journal c.args.end.now.custody.items)
    (subst (λ (w : List ℕ). GetsFront (holds c.args.out.now) (holds c.report.new.out) w) text c.in-Err.ensures.err)

pub returns-clause-ok : goal.returns-clause-ok
returns-clause-ok g c = λ shown bucket_of together.
    let W = g.W.FlowWork in
    let holds = g.K.Sink.may_hold in
    let all = report W.opening W.after W.line_text shown in
    let journal = journal_part c.args.with_journal c.args.end.now.journal c.args.end.now.custody.items in
    let text = c.report.ensures.packets shown bucket_of (subst (λ ts. StandTogether W.opening W.after bucket_of shown ts) (sym c.deref.ensures.value) together) in
    let got : Gets (holds c.args.out.now) (holds c.report.new.out) all = subst (λ (w : List ℕ). Gets (holds c.args.out.now) (holds c.report.new.out) w) text c.in-Ok.ensures.ok in
    on_ok_weaker c.write_journal.result
    (λ more. Gets-trans (holds c.args.out.now) (holds c.report.new.out) (holds c.write_journal.new.out) all journal (all ++ journal) got
    (subst (λ (cs : List Custody). Gets (holds c.report.new.out) (holds c.write_journal.new.out) (journal_part c.args.with_journal c.args.end.now.journal cs)) c.deref-2.ensures.value more) refl)
    c.write_journal.ensures.ok

pub returns-clause-err : goal.returns-clause-err
returns-clause-err g c = λ shown bucket_of together.
    let W = g.W.FlowWork in
    let holds = g.K.Sink.may_hold in
    let all = report W.opening W.after W.line_text shown in
    let journal = journal_part c.args.with_journal c.args.end.now.journal c.args.end.now.custody.items in
    let text = c.report.ensures.packets shown bucket_of (subst (λ ts. StandTogether W.opening W.after bucket_of shown ts) (sym c.deref.ensures.value) together) in
    let got : Gets (holds c.args.out.now) (holds c.report.new.out) all = subst (λ (w : List ℕ). Gets (holds c.args.out.now) (holds c.report.new.out) w) text c.in-Ok.ensures.ok in
    on_err_weaker c.write_journal.result
    (λ more. front_last (holds c.args.out.now) (holds c.report.new.out) (holds c.write_journal.new.out) all journal got
    (subst (λ (cs : List Custody). GetsFront (holds c.report.new.out) (holds c.write_journal.new.out) (journal_part c.args.with_journal c.args.end.now.journal cs)) c.deref-2.ensures.value more))
    c.write_journal.ensures.err
