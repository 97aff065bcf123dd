-- From the answers of a run and of its report to what they explain.
use Rattle.std.proofs.Common.{◌≡◌, inl, inr, ℕ, List, sym, subst, Option, None, Some, Result}
use Rattle.std.specs.Prelude.{MatchResult}
use Rattle.rss_base.specs.Written.{GetsFront}
use Rattle.packet_fields.specs.declared.packet.PacketInfo.{PacketInfo}
use Rattle.flow_report.specs.Cause as writing
use Rattle.flow_report.specs.declared.fault.ReportFault.{ReportFault}
use Rattle.flow_report.specs.declared.fault.ReportFault.TheVariants as report
use Rattle.flow_work.specs.declared.work_name.WorkName.{WorkName}
use Rattle.flow_work.specs.Costs.{cost_by}
use Rattle.dispatch_loop.specs.Terms.{terms_of}
use Rattle.command_words.specs.declared.command.Command.{Command}
use Rattle.rsspp_main.specs.declared.fault.TopFault.{TopFault}
use Rattle.rsspp_main.specs.declared.fault.TopFault.TheVariants.{Words, Capture, Block, Line, ReadFault, Undrawn, WriteFault, NoMemory, TooMany}
use Rattle.rsspp_main.specs.Demo.{ExplainsDemo}
use Rattle.rsspp_main.specs.Reports.{IsSerialText, WritesSerial, report_fault}
use Rattle.rsspp_main.specs.Run.{Ends, Explains, HasRead, NoReadFailed, EndsBeforeText, Unwritten, report_by}

-- a run that ended before its text
pub unwritten : (limit : ℕ) (Writes : List PacketInfo → List ℕ → Type 0) (old new : Ends) (fault : TopFault) → EndsBeforeText limit old.left new.left old.read_faults new.read_faults fault → Unwritten old new → Explains limit Writes old new (Some fault)
unwritten limit Writes old new (Capture e) h silent = (h, silent)
unwritten limit Writes old new (Block e) h silent = (h, silent)
unwritten limit Writes old new (TooMany n) h silent = (h, silent)
unwritten limit Writes old new ReadFault h silent = (h, silent)
unwritten limit Writes old new NoMemory h silent = inl (h, silent)
unwritten limit Writes old new Undrawn h silent = absurd h
unwritten limit Writes old new WriteFault h silent = absurd h
unwritten limit Writes old new (Line k) h silent = absurd h
unwritten limit Writes old new (Words w) h silent = absurd h

-- a fault in the writing of a run's text
pub written : (limit : ℕ) (Writes : List PacketInfo → List ℕ → Type 0) (old new : Ends) (all : List PacketInfo) (text : List ℕ) (fault : ReportFault) → HasRead limit old.left new.left all → Writes all text → GetsFront old.may_hold new.may_hold text
    → writing.Blames fault old.write_faults new.write_faults → NoReadFailed old new → Explains limit Writes old new (Some (report_fault fault))
written limit Writes old new all text report.NoMemory read writes front blames quiet = inr ((all, text, read, writes, front), record { reads = quiet; writes = blames })
written limit Writes old new all text report.WriteFault read writes front blames quiet = ((all, text, read, writes, front), blames, quiet)

-- what is explained by the report of a work is explained by that of a command which asks for this work
pub serial_by : (packets : Option (List PacketInfo)) (c : Command) (number : ℕ) (old new : Ends) (w : WorkName) (r : Result (Unit {0}) TopFault) → c.options.work ≡ w
    → MatchResult r (λ _. Explains c.options.packets (IsSerialText packets (report_by w) c.journal (terms_of (cost_by w) c.options) c.options.pool number) old new None) (λ fault. Explains c.options.packets (IsSerialText packets (report_by w) c.journal (terms_of (cost_by w) c.options) c.options.pool number) old new (Some fault))
    → MatchResult r (λ _. Explains c.options.packets (WritesSerial packets c number) old new None) (λ fault. Explains c.options.packets (WritesSerial packets c number) old new (Some fault))
serial_by packets c number old new w r is h =
    subst (λ (v : WorkName). MatchResult r (λ _. Explains c.options.packets (IsSerialText packets (report_by v) c.journal (terms_of (cost_by v) c.options) c.options.pool number) old new None) (λ fault. Explains c.options.packets (IsSerialText packets (report_by v) c.journal (terms_of (cost_by v) c.options) c.options.pool number) old new (Some fault))) (sym is) h

pub demo_by : (packets : Option (List PacketInfo)) (c : Command) (old new : Ends) (w : WorkName) (r : Result (Unit {0}) TopFault) → c.options.work ≡ w
    → MatchResult r (λ _. ExplainsDemo packets (report_by w) c old new None) (λ fault. ExplainsDemo packets (report_by w) c old new (Some fault))
    → MatchResult r (λ _. ExplainsDemo packets (report_by c.options.work) c old new None) (λ fault. ExplainsDemo packets (report_by c.options.work) c old new (Some fault))
demo_by packets c old new w r is h =
    subst (λ (v : WorkName). MatchResult r (λ _. ExplainsDemo packets (report_by v) c old new None) (λ fault. ExplainsDemo packets (report_by v) c old new (Some fault))) (sym is) h

-- what holds of the report of a work holds of that of a command which asks for this work
pub by_work : (P : (List PacketInfo → List ℕ) → (PacketInfo → ℕ) → Type 0) (asked w : WorkName) → asked ≡ w → P (report_by w) (cost_by w) → P (report_by asked) (cost_by asked)
by_work P asked w is h = subst (λ (v : WorkName). P (report_by v) (cost_by v)) (sym is) h
