-- What a run does, and what each of its outcomes says of the bytes that were read and written.
use Rattle.std.specs.Prelude.{◌≡◌, ◌⊎◌, ℕ, List, Option, None, Some}
use Rattle.std.specs.Io.KnownBytes.{IsAtEnd}
use Rattle.rss_base.specs.Faults.{Rose}
use Rattle.rss_base.specs.Written.{Gets, GetsFront}
use Rattle.pcap_reader.specs.Capture.{Captured}
use Rattle.pcapng_reader.specs.declared.fault.NgBreak.{NgBreak}
use Rattle.packet_fields.specs.declared.packet.PacketInfo.{PacketInfo}
use Rattle.flow_work.specs.Count.{no_packets, counted, count_text}
use Rattle.flow_work.specs.TcpFlags.{no_flags, flags_after, flags_text}
use Rattle.flow_work.specs.Gaps.{no_gap, gap_after, gap_text}
use Rattle.flow_work.specs.OrderFold.{folded, order_text}
use Rattle.flow_work.specs.declared.work_name.WorkName.{WorkName}
use Rattle.flow_work.specs.declared.work_name.WorkName.TheVariants.{Count, TcpFlags, Gaps, OrderFold}
use Rattle.flow_work.specs.Costs.{cost_by}
use Rattle.dispatch_loop.specs.OptionsView.{OptionsView}
use Rattle.dispatch_loop.specs.Terms.{Terms, terms_of}
use Rattle.rsspp_main.specs.declared.fault.TopFault.{TopFault}
use Rattle.rsspp_main.specs.declared.fault.TopFault.TheVariants.{Words, Capture, Block, Line, ReadFault, Undrawn, WriteFault, NoMemory, TooMany}
use Rattle.rsspp_run.specs.OneTable.{AreAll}
use Rattle.pcapng_reader.specs.Lent.{TakesUpToFour, classic_known}
use Rattle.rsspp_main.specs.Input.{IsUnbroken, BreaksBy}
use Rattle.rsspp_main.specs.Stops.{StopsIn}
use Rattle.flow_report.specs.Report.{report}

-- what the ends of a run tell at one moment: the bytes left and the faults of the source, the faults of the output and what it may hold
pub record Ends : Type 1 where
  pub left : Option (List ℕ)
  pub read_faults : ℕ
  pub write_faults : ℕ
  pub may_hold : List ℕ → Type 0

abbrev pub ends : Option (List ℕ) → ℕ → ℕ → (List ℕ → Type 0) → Ends
ends left read_faults write_faults may_hold = record { left = left; read_faults = read_faults; write_faults = write_faults; may_hold = may_hold }

-- the same of a source and an output, by what each of them tells
abbrev pub ends_at : {S K : Type 0} → (S → Option (List ℕ)) → (S → ℕ) → (K → ℕ) → (K → List ℕ → Type 0) → S → K → Ends
ends_at left read_faults write_faults may_hold source out = ends (left source) (read_faults source) (write_faults out) (may_hold out)

-- nothing was written
abbrev pub Silent : Ends → Ends → Type 0
Silent old new = (bytes : List ℕ) → old.may_hold bytes → new.may_hold bytes

-- no read failed, and no write
abbrev pub NoReadFailed : Ends → Ends → Type 0
NoReadFailed old new = new.read_faults ≡ old.read_faults

abbrev pub NoWriteFailed : Ends → Ends → Type 0
NoWriteFailed old new = new.write_faults ≡ old.write_faults

pub record NoCallFailed (old new : Ends) : Type 0 where
  pub reads : NoReadFailed old new
  pub writes : NoWriteFailed old new

-- nothing was read or written, and nothing failed
pub record Untouched (old new : Ends) : Type 0 where
  pub left : new.left ≡ old.left
  pub reads : new.read_faults ≡ old.read_faults
  pub writes : new.write_faults ≡ old.write_faults
  pub silent : Silent old new

-- nothing was written, and no write failed
pub record Unwritten (old new : Ends) : Type 0 where
  pub silent : Silent old new
  pub writes : NoWriteFailed old new

-- at most four bytes were read, nothing was written, and nothing failed
pub record ReadsAtMostFour (old new : Ends) : Type 0 where
  pub few : TakesUpToFour old.left new.left
  pub reads : NoReadFailed old new
  pub unwritten : Unwritten old new

-- the capture that these bytes stand for was accepted and read to its end, and `all` are its packets
abbrev pub HasRead : ℕ → Option (List ℕ) → Option (List ℕ) → List PacketInfo → Type 0
HasRead limit left now all = AreAll limit (classic_known left) all × IsUnbroken left × IsAtEnd now

-- a block of the capture breaks behind its last record: `all` are the packets before it
abbrev pub HasBroken : ℕ → Option (List ℕ) → NgBreak → List PacketInfo → Type 0
HasBroken limit left e all = AreAll limit (classic_known left) all × BreaksBy left e

-- what a run that ended before its text says of its input: of the bytes before and now, and of the counts of failed reads
abbrev pub EndsBeforeText : ℕ → Option (List ℕ) → Option (List ℕ) → ℕ → ℕ → TopFault → Type 0
EndsBeforeText limit left now before after (Capture e) = ((records : List Captured) × StopsIn limit left now records (Capture e)) × (after ≡ before)
EndsBeforeText limit left now before after (Block e) = ((all : List PacketInfo) × HasBroken limit left e all) × (after ≡ before)
EndsBeforeText limit left now before after (TooMany n) = ((records : List Captured) × StopsIn limit left now records (TooMany n)) × (after ≡ before)
EndsBeforeText limit left now before after ReadFault = ((records : List Captured) × StopsIn limit left now records ReadFault) × Rose before after
-- before the first record, or behind the last one
EndsBeforeText limit left now before after NoMemory = (TakesUpToFour left now ⊎ ((all : List PacketInfo) × HasRead limit left now all)) × (after ≡ before)
EndsBeforeText limit left now before after Undrawn = ⊥
EndsBeforeText limit left now before after WriteFault = ⊥
EndsBeforeText limit left now before after (Line k) = ⊥
EndsBeforeText limit left now before after (Words w) = ⊥

-- a text that a run over these packets writes was written, and a front of it
abbrev pub Wrote : ℕ → (List PacketInfo → List ℕ → Type 0) → Ends → Ends → Type 0
Wrote limit Writes old new =
    (all : List PacketInfo) × (text : List ℕ) × HasRead limit old.left new.left all × Writes all text × Gets old.may_hold new.may_hold text

abbrev pub WroteFront : ℕ → (List PacketInfo → List ℕ → Type 0) → Ends → Ends → Type 0
WroteFront limit Writes old new =
    (all : List PacketInfo) × (text : List ℕ) × HasRead limit old.left new.left all × Writes all text × GetsFront old.may_hold new.may_hold text

-- what each outcome says of a run that reads a whole capture before it writes a text of its packets; None is the outcome of a run that was done
abbrev pub Explains : ℕ → (List PacketInfo → List ℕ → Type 0) → Ends → Ends → Option TopFault → Type 0
Explains limit Writes old new None = Wrote limit Writes old new × NoCallFailed old new
Explains limit Writes old new (Some WriteFault) = WroteFront limit Writes old new × Rose old.write_faults new.write_faults × NoReadFailed old new
-- before the text, or within it
Explains limit Writes old new (Some NoMemory) =
    (EndsBeforeText limit old.left new.left old.read_faults new.read_faults NoMemory × Unwritten old new) ⊎ (WroteFront limit Writes old new × NoCallFailed old new)
Explains limit Writes old new (Some fault) = EndsBeforeText limit old.left new.left old.read_faults new.read_faults fault × Unwritten old new

-- what each outcome says of a run that writes this text and reads nothing
abbrev pub ExplainsText : List ℕ → Ends → Ends → Option TopFault → Type 0
ExplainsText text old new None = Gets old.may_hold new.may_hold text × (new.left ≡ old.left) × NoReadFailed old new × NoWriteFailed old new
ExplainsText text old new (Some WriteFault) = GetsFront old.may_hold new.may_hold text × Rose old.write_faults new.write_faults × (new.left ≡ old.left) × NoReadFailed old new
ExplainsText text old new (Some (Capture e)) = ⊥
ExplainsText text old new (Some (Block e)) = ⊥
ExplainsText text old new (Some (TooMany n)) = ⊥
ExplainsText text old new (Some ReadFault) = ⊥
ExplainsText text old new (Some Undrawn) = ⊥
ExplainsText text old new (Some NoMemory) = ⊥
ExplainsText text old new (Some (Line k)) = ⊥
ExplainsText text old new (Some (Words w)) = ⊥

-- the report of a list of packets by a work
abbrev pub report_by : WorkName → List PacketInfo → List ℕ
report_by Count packets = report no_packets counted count_text packets
report_by TcpFlags packets = report no_flags flags_after flags_text packets
report_by Gaps packets = report no_gap gap_after gap_text packets
report_by OrderFold packets = report 0 folded order_text packets

-- the terms of a run by the options and the work that they name
abbrev pub run_terms : OptionsView → Terms
run_terms o = terms_of (cost_by o.work) o
