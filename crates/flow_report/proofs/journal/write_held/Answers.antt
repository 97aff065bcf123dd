use Rattle.std.proofs.Common.{get_or}
use Rattle.std.proofs.lemmas.List.{append-nil}
use Rattle.bucket_table.specs.declared.custody.Custody.{Custody}
use Rattle.flow_report.specs.JournalText.{line_bytes, custody_line}
use Rattle.flow_report.proofs.Lines.{rows_front}
use Rattle.flow_report.proofs.JournalWrites.{held_bytes, held_join}
use Rattle.flow_report.proofs.journal.write_held.Goals as goal

pub returns-in-Err-clause-err : goal.returns-in-Err-clause-err
returns-in-Err-clause-err g c =
    let holds = g.K.Sink.may_hold in
    let custody = c.args.custody.now in
    let i = c.loop-held.held-index in
    let none : Custody = record { bucket = 0; core = 0; from = 0; to = 0 } in
    rows_front held_bytes held_join (holds c.args.out.now) (holds c.loop-held.out) (holds c.write_line.new.out) custody i none (line_bytes (custody_line (get_or custody i none)))
    (append-nil (line_bytes (custody_line (get_or custody i none)))) c.loop-held.invariant.got c.loop-held-test.true c.in-Err.ensures.err
