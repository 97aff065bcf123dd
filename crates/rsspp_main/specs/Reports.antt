-- What a run over the packets of a capture reports of them.
use Rattle.std.specs.Prelude.{◌≡◌, ◌<◌, ◌≤◌, ◌%◌, ℕ, List, [], ◌++◌, sum_by, Bool, true, false, Option, None, Some, All}
use Rattle.std.specs.List.{AllPairs}
use Rattle.packet_fields.specs.declared.key.FlowKey.{FlowKey}
use Rattle.packet_fields.specs.declared.packet.PacketInfo.{PacketInfo}
use Rattle.toeplitz.specs.declared.key.Key.{Key}
use Rattle.toeplitz.specs.Bucket.{total_in}
use Rattle.toeplitz.specs.Packet.{hash_by}
use Rattle.indirection.specs.declared.entry.Entry.{Entry}
use Rattle.indirection.specs.JournalView.{JournalState, journal_view}
use Rattle.bucket_table.specs.declared.custody.Custody.{Custody}
use Rattle.bucket_table.specs.Table.{TableOf}
use Rattle.flow_report.specs.JournalText.{HasWholeRounds, journal_bytes}
use Rattle.flow_report.specs.Tables.{SharesNoKey}
use Rattle.dispatch_loop.specs.Terms.{Terms, buckets_of}
use Rattle.pcapng_reader.specs.declared.fault.NgBreak.{NgBreak}
use Rattle.pcapng_reader.specs.declared.fault.NgError.{NgError}
use Rattle.pcapng_reader.specs.declared.fault.NgError.TheVariants as beginning
use Rattle.rsspp_run.specs.Ends.{IsSerialRun}
use Rattle.rsspp_run.specs.declared.run_end.RunFault.{RunFault}
use Rattle.rsspp_run.specs.declared.run_end.RunFault.TheVariants as running
use Rattle.flow_report.specs.declared.fault.ReportFault.{ReportFault}
use Rattle.flow_report.specs.declared.fault.ReportFault.TheVariants as writing
use Rattle.command_words.specs.declared.command.Command.{Command}
use Rattle.rsspp_main.specs.declared.fault.TopFault.{TopFault}
use Rattle.rsspp_main.specs.declared.fault.TopFault.TheVariants.{Capture, Block, ReadFault, WriteFault, NoMemory, TooMany}
use Rattle.rsspp_main.specs.Run.{report_by, run_terms}

-- the bucket of a flow, of so many buckets
abbrev pub bucket_by : Key → ℕ → FlowKey → ℕ
bucket_by key buckets flow = hash_by flow.class key flow % buckets

-- the packets that a report of all packets shows: these themselves, where the packets of the run are named, and else as many in each bucket
abbrev pub AreShown : Option (List PacketInfo) → Terms → List PacketInfo → List PacketInfo → Type 0
AreShown (Some named) t all shown = shown ≡ all
AreShown None t all shown = (b : ℕ) → b < buckets_of t → total_in t.key (buckets_of t) b shown ≡ total_in t.key (buckets_of t) b all

-- the tables and the journal of a run can be written: no table is short, no key stands in two, the packets can be counted, and each round is whole
pub record IsReportable {S : Type 0} (tables : List (TableOf S)) (entries : List Entry) : Type 0 where
  pub whole : All (λ t. t.short ≡ false) tables
  pub apart : AllPairs SharesNoKey tables
  pub few : sum_by (λ t. t.done) tables ≤ 4294967295
  pub rounds : HasWholeRounds entries

-- what stands behind a report: the text of the run's journal and custody, where it is asked for
abbrev pub journal_part : Bool → JournalState → List Custody → List ℕ
journal_part false journal custody = []
journal_part true journal custody = journal_bytes (journal_view journal) custody

-- the text is the report of the packets that are shown of all (AreShown), and behind it, where it is asked for, the journal of the serial run under the number over all packets
pub record IsSerialText (packets : Option (List PacketInfo)) (report_of : List PacketInfo → List ℕ) (asked : Bool) (t : Terms) (pool number : ℕ) (all : List PacketInfo) (text : List ℕ) : Type 0 where
  pub shown : List PacketInfo
  pub are_shown : AreShown packets t all shown
  pub journal : JournalState
  pub custody : List Custody
  pub worked : List ℕ
  pub run : IsSerialRun t pool number all journal custody worked
  pub text_is : text ≡ report_of shown ++ journal_part asked journal custody

-- what a command writes of all packets by the serial run under a number
abbrev pub WritesSerial : Option (List PacketInfo) → Command → ℕ → List PacketInfo → List ℕ → Type 0
WritesSerial packets c number all text = IsSerialText packets (report_by c.options.work) c.journal (run_terms c.options) c.options.pool number all text

-- a fault of a run, as the fault of the whole
abbrev pub run_fault : RunFault → TopFault
run_fault (running.Capture e) = Capture e
run_fault running.ReadFault = ReadFault
run_fault (running.TooMany n) = TooMany n
run_fault running.NoMemory = NoMemory

-- the fault of a run over an input whose blocks break so, if they do: a break behind its last record comes before want of memory behind that record
abbrev pub fault_behind : Option NgBreak → RunFault → TopFault
fault_behind None fault = run_fault fault
fault_behind (Some e) running.NoMemory = Block e
fault_behind (Some e) fault = run_fault fault

-- an error at the beginning of an input
abbrev pub opening_fault : NgError → TopFault
opening_fault beginning.NoMemory = NoMemory
opening_fault beginning.ReadFault = ReadFault

-- a fault of a report
abbrev pub report_fault : ReportFault → TopFault
report_fault writing.NoMemory = NoMemory
report_fault writing.WriteFault = WriteFault
