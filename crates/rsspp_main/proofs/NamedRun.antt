-- The program over a capture of one packet, which a type names.
use Rattle.std.proofs.Common.{◌≡◌, ℕ, ◌≤◌, List, [], ◌∷◌, map, take, refl, sym, ap, subst, ◌∙◌, arith, Option, None, Some, Ok, IsSome, false, inl, inr}
use Rattle.std.specs.Fmt.{digits}
use Rattle.std.proofs.lemmas.List.{append-nil, take_all}
use Rattle.rss_base.specs.Written.{Gets}
use Rattle.packet_fields.specs.KeyText.{address_text, ends_text}
use Rattle.packet_fields.specs.Wire.{u16_at, u32_at}
use Rattle.packet_fields.specs.declared.packet.PacketInfo.{PacketInfo}
use Rattle.pcap_reader.specs.Capture.{AtEnd, IsCapture}
use Rattle.flow_work.specs.declared.work_name.WorkName.TheVariants.{Count}
use Rattle.traffic_gen.specs.Capture.{captured_from}
use Rattle.traffic_gen.specs.Draw.{draw, flow_of}
use Rattle.traffic_gen.specs.Packet.{frame_of}
use Rattle.traffic_gen.specs.Traffic.{traffic, records_from, record_of}
use Rattle.pcapng_reader.specs.Lent.{classic_known}
use Rattle.pcapng_reader.specs.Numbers.{number_at}
use Rattle.dispatch_loop.specs.Defaults.{default_options}
use Rattle.dispatch_loop.specs.Packets.{ArePackets, packet_of}
use Rattle.dispatch_loop.specs.Past.{AreNamed}
use Rattle.dispatch_loop.specs.Terms.{Terms}
use Rattle.dispatch_loop.specs.declared.limits.TheConstants.{DEFAULT_PACKETS}
use Rattle.rsspp_run.specs.OneTable.{AreAll}
use Rattle.command_words.specs.Reading.{command_of}
use Rattle.command_words.specs.Words.{parts_after}
use Rattle.command_words.specs.declared.command.Command.{Command}
use Rattle.command_words.specs.declared.mode.Mode.TheVariants.{Report}
use Rattle.rsspp_main.specs.declared.fault.TopFault.{TopFault}
use Rattle.rsspp_main.specs.declared.fault.TopFault.TheVariants.{Words, Capture, Block, Line, ReadFault, Undrawn, WriteFault, NoMemory, TooMany}
use Rattle.bucket_table.specs.declared.flow_hash_key.FlowHashKey.{FlowHashKey}
use Rattle.rsspp_main.specs.declared.trace.Trace.{Trace}
use Rattle.rsspp_main.specs.Answers.{Answers, Does, NamesRun}
use Rattle.rsspp_main.specs.Named.{one_packet, one_packet_report, report_words}
use Rattle.rsspp_main.specs.Run.{Ends, report_by, run_terms}
use Rattle.rsspp_main.specs.Status.{status_of}
use Rattle.rsspp_main.specs.Threads.{IsThreadedText, IsTraceOf, Tells}
use Rattle.rsspp_main.proofs.Shown.{one_list}

-- the command of the words
abbrev asked : Command
asked = record { mode = Report; count = 0; number = 0; options = default_options Count; serial = None; journal = false }

asks : command_of report_words ≡ Ok asked
unfolding parts_after
asks = refl

-- the capture has the one packet
packets_are : map packet_of (captured_from 0 0 1) ≡ one_packet ∷ []
unfolding frame_of flow_of draw u16_at u32_at
packets_are = refl

has_one : IsCapture (traffic 1 0) (captured_from 0 0 1) → (limit : ℕ) → 1 ≤ limit → ArePackets limit (traffic 1 0) (one_packet ∷ [])
has_one whole limit some = (captured_from 0 0 1, AtEnd, whole, sym (ap (λ (ps : List PacketInfo). take limit ps) packets_are ∙ take_all limit (one_packet ∷ []) some))

-- the capture is no pcapng capture, so it stands for itself
classic_is : classic_known (Some (traffic 1 0)) ≡ Some (traffic 1 0)
unfolding traffic records_from record_of number_at frame_of flow_of draw u16_at u32_at
classic_is = refl

-- so the list may name the run
pub names : (words : List (List ℕ)) (left : List ℕ) → words ≡ report_words → left ≡ traffic 1 0 → IsCapture (traffic 1 0) (captured_from 0 0 1)
    → NamesRun (Some (one_packet ∷ [])) (command_of words) (Some left)
names words left ew el whole =
    rw (ew, el, asks) (subst (λ (o : Option (List ℕ)). AreNamed (Some (one_packet ∷ [])) DEFAULT_PACKETS o) (sym classic_is) (has_one whole DEFAULT_PACKETS (omega arith)))

-- the packet's report
report_is : report_by Count (one_packet ∷ []) ≡ one_packet_report
unfolding ends_text address_text digits
report_is = refl

-- no fault has status 0
not_done : (fault : TopFault) → status_of (Some fault) ≡ 0 → ⊥
not_done (Words w) e = cc
not_done (Capture b) e = cc
not_done (Block b) e = cc
not_done (Line k) e = cc
not_done ReadFault e = cc
not_done Undrawn e = cc
not_done WriteFault e = cc
not_done NoMemory e = cc
not_done (TooMany n) e = cc

-- the trace that is told
is_told : (t : Terms) (all : List PacketInfo) (told : Option Trace) (run : Trace) → IsSome told → Tells told run → IsTraceOf t all run → (x : Trace) × (told ≡ Some x) × IsTraceOf t all x
is_told t all (Some x) run some e is = (x, refl, subst (λ (r : Trace). IsTraceOf t all r) (sym e) is)
is_told t all None run some e is = absurd cc

-- what a run that was done wrote and told
done_by : (key : FlowHashKey) (told : Option Trace) (old new : Ends) → old.left ≡ Some (traffic 1 0) → IsCapture (traffic 1 0) (captured_from 0 0 1) → Does (Some key) (Some (one_packet ∷ [])) told Report asked old new None
    → Gets old.may_hold new.may_hold one_packet_report × ((run : Trace) × (told ≡ Some run) × IsTraceOf (run_terms (default_options Count)) (one_packet ∷ []) run)
done_by key told old new left whole d =
    let w = d.0.0 in
    let text : IsThreadedText (Some (one_packet ∷ [])) (report_by Count) false (run_terms (default_options Count)) told w.0 w.1 = w.3 in
    let read = subst (λ o. AreAll DEFAULT_PACKETS o w.0) (ap classic_known left ∙ classic_is) w.2.0 in
    let all_is : w.0 ≡ one_packet ∷ [] = one_list DEFAULT_PACKETS (traffic 1 0) w.0 (one_packet ∷ []) read.1 (has_one whole DEFAULT_PACKETS (omega arith)) in
    let wrote : w.1 ≡ one_packet_report = text.text_is ∙ (append-nil (report_by Count text.shown) ∙ (ap (report_by Count) (text.are_shown ∙ all_is) ∙ report_is)) in (
      subst (λ (bytes : List ℕ). Gets old.may_hold new.may_hold bytes) wrote w.4,
      is_told (run_terms (default_options Count)) (one_packet ∷ []) told text.run d.1 text.is_told (subst (λ (ps : List PacketInfo). IsTraceOf (run_terms (default_options Count)) ps text.run) all_is text.is_run),
    )

pub reported : (key : FlowHashKey) (told : Option Trace) (words : List (List ℕ)) (old new : Ends) (fault : Option TopFault) → words ≡ report_words → old.left ≡ Some (traffic 1 0) → IsCapture (traffic 1 0) (captured_from 0 0 1)
    → status_of fault ≡ 0 → Answers (Some key) (Some (one_packet ∷ [])) told (command_of words) old new fault
    → Gets old.may_hold new.may_hold one_packet_report × ((run : Trace) × (told ≡ Some run) × IsTraceOf (run_terms (default_options Count)) (one_packet ∷ []) run)
reported key told words old new (Some fault) ew left whole zero a = absurd (not_done fault zero)
reported key told words old new None ew left whole zero a = by_answer (rw (ew, asks) at a)
  where
    by_answer : Answers (Some key) (Some (one_packet ∷ [])) told (Ok asked) old new None → Gets old.may_hold new.may_hold one_packet_report × ((run : Trace) × (told ≡ Some run) × IsTraceOf (run_terms (default_options Count)) (one_packet ∷ []) run)
    by_answer (inl lack) = absurd (let none = lack.0 in cc)
    by_answer (inr d) = done_by key told old new left whole d
