-- The report of generated traffic in short.
use Rattle.std.specs.Prelude.{◌≡◌, ◌<◌, ◌≤◌, ℕ, List, [], ◌∷◌, ◌++◌, length, map, sum_by, codes, Option, None, Some}
use Rattle.std.specs.Fmt.{decimal}
use Rattle.rss_base.specs.Faults.{Rose}
use Rattle.rss_base.specs.Fold.{text_count, text_sum}
use Rattle.rss_base.specs.Hex.{hex_text}
use Rattle.rss_base.specs.Written.{Gets, GetsFront}
use Rattle.packet_fields.specs.declared.packet.PacketInfo.{PacketInfo}
use Rattle.flow_report.specs.Report.{keys_of, total_line}
use Rattle.traffic_gen.specs.Capture.{captured_from}
use Rattle.dispatch_loop.specs.Packets.{packet_of}
use Rattle.command_words.specs.declared.command.Command.{Command}
use Rattle.rsspp_main.specs.declared.fault.TopFault.{TopFault}
use Rattle.rsspp_main.specs.declared.fault.TopFault.TheVariants.{Words, Capture, Block, Line, ReadFault, Undrawn, WriteFault, NoMemory, TooMany}
use Rattle.rsspp_main.specs.Reports.{AreShown}
use Rattle.rsspp_main.specs.Run.{Ends, NoReadFailed, NoWriteFailed, Untouched, run_terms}

-- the packets of a generated capture
abbrev pub packets_made : ℕ → ℕ → List PacketInfo
packets_made count number = map packet_of (captured_from number 0 count)

-- what is asked for
abbrev pub demo_line : ℕ → ℕ → List ℕ
demo_line count number = codes "demo " ++ (decimal count ++ (codes " " ++ (decimal number ++ 10 ∷ [])))

-- the total line of the packets' report
abbrev pub totals_line : List PacketInfo → List ℕ
totals_line packets = total_line (length (keys_of packets)) (length packets) (sum_by (λ p. p.original) packets)

-- the length and the sum of a text
abbrev pub sum_line : ℕ → ℕ → List ℕ
sum_line long sum = codes "report " ++ (decimal long ++ (codes " " ++ (hex_text 8 sum ++ 10 ∷ [])))

-- the three lines
abbrev pub demo_text : ℕ → ℕ → (List PacketInfo → List ℕ) → List PacketInfo → List ℕ
demo_text count number report_of packets =
    demo_line count number ++ (totals_line packets ++ sum_line (text_count (report_of packets)) (text_sum (report_of packets)))

-- the text is that of the packets that are shown of the generated ones (AreShown)
abbrev pub IsDemo : Option (List PacketInfo) → (List PacketInfo → List ℕ) → Command → List ℕ → Type 0
IsDemo packets report_of c text =
    (shown : List PacketInfo) × AreShown packets (run_terms c.options) (packets_made c.count c.number) shown × (text ≡ demo_text c.count c.number report_of shown)

-- the source is as it was
pub record SourceStays (old new : Ends) : Type 0 where
  pub left : new.left ≡ old.left
  pub reads : NoReadFailed old new

-- what each outcome says of a run over generated traffic; None is the outcome of a run that was done
abbrev pub ExplainsDemo : Option (List PacketInfo) → (List PacketInfo → List ℕ) → Command → Ends → Ends → Option TopFault → Type 0
ExplainsDemo packets report_of c old new None =
    (c.count ≤ c.options.packets) × (text : List ℕ) × IsDemo packets report_of c text × Gets old.may_hold new.may_hold text × SourceStays old new × NoWriteFailed old new
ExplainsDemo packets report_of c old new (Some WriteFault) =
    (c.count ≤ c.options.packets) × (text : List ℕ) × IsDemo packets report_of c text × GetsFront old.may_hold new.may_hold text × SourceStays old new × Rose old.write_faults new.write_faults
ExplainsDemo packets report_of c old new (Some (TooMany n)) = (n ≡ c.options.packets) × (c.options.packets < c.count) × Untouched old new
ExplainsDemo packets report_of c old new (Some NoMemory) = Untouched old new
ExplainsDemo packets report_of c old new (Some (Capture e)) = ⊥
ExplainsDemo packets report_of c old new (Some (Block e)) = ⊥
ExplainsDemo packets report_of c old new (Some ReadFault) = ⊥
ExplainsDemo packets report_of c old new (Some Undrawn) = ⊥
ExplainsDemo packets report_of c old new (Some (Line k)) = ⊥
ExplainsDemo packets report_of c old new (Some (Words w)) = ⊥
