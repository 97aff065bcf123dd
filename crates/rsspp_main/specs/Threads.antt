-- What a run in threads writes, and what its trace tells.
use Rattle.std.specs.Prelude.{◌≡◌, ℕ, List, ◌++◌, Bool, Option, None, Some, IfSome, IsSome}
use Rattle.packet_fields.specs.declared.packet.PacketInfo.{PacketInfo}
use Rattle.dispatch_loop.specs.Terms.{Terms}
use Rattle.threaded_run.specs.Threaded.{IsThreadedRun}
use Rattle.command_words.specs.declared.command.Command.{Command}
use Rattle.rsspp_main.specs.declared.fault.TopFault.{TopFault}
use Rattle.rsspp_main.specs.declared.trace.Trace.{Trace}
use Rattle.rsspp_main.specs.Demo.{packets_made}
use Rattle.rsspp_main.specs.Reports.{AreShown, WritesSerial, journal_part}
use Rattle.rsspp_main.specs.Run.{report_by, run_terms}

-- the trace is that of a run in threads over all these packets: its journal is lawful, its notes have the cores' streams by that journal, and its custodies are that journal's
abbrev pub IsTraceOf : Terms → List PacketInfo → Trace → Type 0
IsTraceOf t all run = IsThreadedRun t all run.journal run.custody.items run.worked.items run.notes.items (Some run.shelf)

-- the trace is that of this run, where it is told
abbrev pub Tells : Option Trace → Trace → Type 0
Tells None run = Unit {0}
Tells (Some told) run = told ≡ run

-- the text is the report of the packets that are shown of all (AreShown), and behind it, where it is asked for, the journal of a run in threads over all packets, which is the run that is told
pub record IsThreadedText (packets : Option (List PacketInfo)) (report_of : List PacketInfo → List ℕ) (asked : Bool) (t : Terms) (told : Option Trace) (all : List PacketInfo) (text : List ℕ) : Type 0 where
  pub shown : List PacketInfo
  pub are_shown : AreShown packets t all shown
  pub run : Trace
  pub is_told : Tells told run
  pub is_run : IsTraceOf t all run
  pub text_is : text ≡ report_of shown ++ journal_part asked run.journal run.custody.items

-- what a command writes of all packets: by the serial run under a number, where it names one, and else by a run in threads
abbrev pub WritesRun : Option (List PacketInfo) → Command → Option ℕ → Option Trace → List PacketInfo → List ℕ → Type 0
WritesRun packets c (Some number) told all text = WritesSerial packets c number all text
WritesRun packets c None told all text = IsThreadedText packets (report_by c.options.work) c.journal (run_terms c.options) told all text

-- a run is told exactly where it was in threads and was done
abbrev pub IsTold : Option ℕ → Option TopFault → Option Trace → Type 0
IsTold (Some number) fault told = told ≡ None
IsTold None None told = IsSome told
IsTold None (Some fault) told = told ≡ None

-- a run over generated traffic that is told is one over its packets
abbrev pub ToldOfDemo : Command → Option Trace → Type 0
ToldOfDemo c told = IfSome told (IsTraceOf (run_terms c.options) (packets_made c.count c.number))
