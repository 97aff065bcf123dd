use Rattle.std.proofs.Common.{◌≡◌, ◌∙◌, List, [], ◌∷◌, ap, sym, get_or}
use Rattle.std.specs.List.{flat_map}
use Rattle.std.proofs.lemmas.List.{append-nil}
use Rattle.indirection.specs.declared.entry.Entry.{Entry}
use Rattle.flow_report.specs.JournalText.{line_bytes, entry_lines}
use Rattle.flow_report.proofs.Lines.{rows_front}
use Rattle.flow_report.proofs.JournalWrites.{entries_bytes, entries_join}
use Rattle.flow_report.proofs.journal.write_entries.Goals as goal

pub returns-in-Err-clause-err : goal.returns-in-Err-clause-err
returns-in-Err-clause-err g c =
    let holds = g.K.Sink.may_hold in
    let entries : List Entry = c.args.entries.now in
    let e : Entry = c.entry-item.result in
    let row : entries_bytes (get_or entries c.loop-entry.entry-index e ∷ []) ≡ flat_map line_bytes (entry_lines e) =
    ap (λ (x : Entry). entries_bytes (x ∷ [])) (sym c.entry-item.is) ∙ ap (flat_map line_bytes) (append-nil (entry_lines e)) in
    rows_front entries_bytes entries_join (holds c.args.out.now) (holds c.loop-entry.out) (holds c.write_entry.new.out) entries c.loop-entry.entry-index e (flat_map line_bytes (entry_lines e)) row
    c.loop-entry.invariant.got c.loop-entry-test.true c.in-Err.ensures.err
