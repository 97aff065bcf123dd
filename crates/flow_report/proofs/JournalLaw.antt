-- The text of a journal tells all of it.
use Rattle.std.proofs.Common.{◌≡◌, List, ◌∙◌, sym, ap}
use Rattle.bucket_table.specs.declared.custody.Custody.{Custody}
use Rattle.indirection.specs.JournalView.{JournalView}
use Rattle.flow_report.specs.JournalText.{journal_lines, journal_bytes, HasWholeRounds}
use Rattle.flow_report.specs.JournalNumbers.{HasShortNumbers}
use Rattle.flow_report.proofs.Words.{same_lines}
use Rattle.flow_report.proofs.JournalWords.{journal_are_lines}
use Rattle.flow_report.proofs.ReadJournal.{told_by, told_back}

-- equal texts have equal lines, whatever their numbers
pub equal_lines : (j k : JournalView) (c d : List Custody) → journal_bytes j c ≡ journal_bytes k d → journal_lines j c ≡ journal_lines k d
equal_lines j k c d e = same_lines (journal_lines j c) (journal_lines k d) (journal_are_lines j c) (journal_are_lines k d) e

pub texts_tell_all : (j k : JournalView) (c d : List Custody) → HasWholeRounds j.entries → HasWholeRounds k.entries → HasShortNumbers j c → HasShortNumbers k d → journal_bytes j c ≡ journal_bytes k d → (j ≡ k) × (c ≡ d)
texts_tell_all j k c d whole_j whole_k short_j short_k e =
    let both = sym (told_back j c short_j whole_j) ∙ (ap told_by (equal_lines j k c d e) ∙ told_back k d short_k whole_k) in
    (ap (λ (p : JournalView × List Custody). p.0) both, ap (λ (p : JournalView × List Custody). p.1) both)
