-- The trace of a run in threads, from what the run came to.
use Rattle.std.proofs.Common.{◌≡◌, ◌++◌, ℕ, List, Bool, refl, sym, subst, Option, None, Some, IsSome, true≢false}
use Rattle.packet_fields.specs.declared.packet.PacketInfo.{PacketInfo}
use Rattle.bucket_table.specs.declared.custody.Custody.{Custody}
use Rattle.indirection.specs.JournalView.{JournalState}
use Rattle.core_queue.specs.RuledLane.{Noted}
use Rattle.handover_words.specs.declared.history.Stretch.{Stretch}
use Rattle.dispatch_loop.specs.Terms.{Terms}
use Rattle.threaded_run.specs.Threaded.{IsThreadedRun}
use Rattle.rsspp_main.specs.declared.trace.Trace.{Trace}
use Rattle.rsspp_main.specs.Reports.{AreShown, journal_part}
use Rattle.rsspp_main.specs.Threads.{IsTraceOf, IsThreadedText, Tells}

-- the value that is there
pub value_of : {A : Type 0} (o : Option A) → IsSome o → (a : A) × (o ≡ Some a)
value_of (Some a) h = (a, refl)
value_of None h = absurd (true≢false (sym h))

-- a trace has the parts of the run
pub trace_is : (t : Terms) (all : List PacketInfo) (run : Trace) (journal : JournalState) (custody : List Custody) (worked : List ℕ) (notes : List Noted) (shelf : Option (List Stretch))
    → run.journal ≡ journal → run.custody.items ≡ custody → run.worked.items ≡ worked → run.notes.items ≡ notes → shelf ≡ Some run.shelf
    → IsThreadedRun t all journal custody worked notes shelf → IsTraceOf t all run
trace_is t all run journal custody worked notes shelf ej ec ew en es h =
    rw (ej, ec, ew, en) (subst (λ (o : Option (List Stretch)). IsThreadedRun t all journal custody worked notes o) es h)

-- a text with the journal and the custody of a trace
pub text_of : (packets : Option (List PacketInfo)) (report_of : List PacketInfo → List ℕ) (asked : Bool) (t : Terms) (told : Option Trace) (all shown : List PacketInfo) (run : Trace) (journal : JournalState) (custody : List Custody)
    → Tells told run → AreShown packets t all shown → IsTraceOf t all run → run.journal ≡ journal → run.custody.items ≡ custody
    → IsThreadedText packets report_of asked t told all (report_of shown ++ journal_part asked journal custody)
text_of packets report_of asked t told all shown run journal custody tells are is ej ec =
    record { shown = shown; are_shown = are; run = run; is_told = tells; is_run = is; text_is = rw (ej, ec) refl }
