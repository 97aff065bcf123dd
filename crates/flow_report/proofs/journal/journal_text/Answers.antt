use Rattle.std.proofs.Common.{◌∙◌, refl, ap}
use Rattle.std.proofs.lemmas.Result.{on_ok_weaker, on_err_weaker}
use Rattle.indirection.specs.Views.{TableView}
use Rattle.indirection.specs.JournalView.{journal_view}
use Rattle.flow_report.proofs.JournalWrites.{fails_first, fails_second, fails_third, fails_fourth, fails_last, all_written}
use Rattle.flow_report.proofs.journal.journal_text.Goals as goal

pub returns-in-Err-clause-err : goal.returns-in-Err-clause-err
returns-in-Err-clause-err g c =
    let holds = g.K.Sink.may_hold in
    let j = journal_view c.args.journal.now in
    fails_first j c.args.custody.now j.start j.entries refl refl (holds c.args.out.now) (holds c.write_line.new.out) c.in-Err.ensures.err

pub returns-in-Err-write_line-clause-err : goal.returns-in-Err-write_line-clause-err
returns-in-Err-write_line-clause-err g c =
    let holds = g.K.Sink.may_hold in
    let j = journal_view c.args.journal.now in
    let owners = c.owners.ensures.value ∙ ap (λ (t : TableView). t.owners) c.start.ensures in
    fails_second j c.args.custody.now c.owners.result.now j.entries owners refl (holds c.args.out.now) (holds c.write_line.new.out) c.in-Ok.ensures.ok (holds c.write_line-2.new.out) c.in-Err-write_line.ensures.err

pub returns-in-Err-write_entries-clause-err : goal.returns-in-Err-write_entries-clause-err
returns-in-Err-write_entries-clause-err g c =
    let holds = g.K.Sink.may_hold in
    let j = journal_view c.args.journal.now in
    let owners = c.owners.ensures.value ∙ ap (λ (t : TableView). t.owners) c.start.ensures in
    fails_third j c.args.custody.now c.owners.result.now c.entries.result.now owners c.entries.ensures.value (holds c.args.out.now) (holds c.write_line.new.out) c.in-Ok.ensures.ok (holds c.write_line-2.new.out) c.in-Ok-write_line.ensures.ok
    (holds c.write_entries.new.out) c.in-Err-write_entries.ensures.err

pub returns-in-Err-write_held-clause-err : goal.returns-in-Err-write_held-clause-err
returns-in-Err-write_held-clause-err g c =
    let holds = g.K.Sink.may_hold in
    let j = journal_view c.args.journal.now in
    let owners = c.owners.ensures.value ∙ ap (λ (t : TableView). t.owners) c.start.ensures in
    fails_fourth j c.args.custody.now c.owners.result.now c.entries.result.now owners c.entries.ensures.value (holds c.args.out.now) (holds c.write_line.new.out) c.in-Ok.ensures.ok (holds c.write_line-2.new.out) c.in-Ok-write_line.ensures.ok
    (holds c.write_entries.new.out) c.in-Ok-write_entries.ensures.ok (holds c.write_held.new.out) c.in-Err-write_held.ensures.err

pub returns-clause-ok : goal.returns-clause-ok
returns-clause-ok g c =
    let holds = g.K.Sink.may_hold in
    let j = journal_view c.args.journal.now in
    let owners = c.owners.ensures.value ∙ ap (λ (t : TableView). t.owners) c.start.ensures in
    on_ok_weaker c.write_line-3.result
    (all_written j c.args.custody.now c.owners.result.now c.entries.result.now owners c.entries.ensures.value (holds c.args.out.now) (holds c.write_line.new.out) c.in-Ok.ensures.ok (holds c.write_line-2.new.out) c.in-Ok-write_line.ensures.ok
    (holds c.write_entries.new.out) c.in-Ok-write_entries.ensures.ok (holds c.write_held.new.out) c.in-Ok-write_held.ensures.ok (holds c.write_line-3.new.out))
    c.write_line-3.ensures.ok

pub returns-clause-err : goal.returns-clause-err
returns-clause-err g c =
    let holds = g.K.Sink.may_hold in
    let j = journal_view c.args.journal.now in
    let owners = c.owners.ensures.value ∙ ap (λ (t : TableView). t.owners) c.start.ensures in
    on_err_weaker c.write_line-3.result
    (fails_last j c.args.custody.now c.owners.result.now c.entries.result.now owners c.entries.ensures.value (holds c.args.out.now) (holds c.write_line.new.out) c.in-Ok.ensures.ok (holds c.write_line-2.new.out) c.in-Ok-write_line.ensures.ok
    (holds c.write_entries.new.out) c.in-Ok-write_entries.ensures.ok (holds c.write_held.new.out) c.in-Ok-write_held.ensures.ok (holds c.write_line-3.new.out))
    c.write_line-3.ensures.err
