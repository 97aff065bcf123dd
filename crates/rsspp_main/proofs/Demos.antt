-- A run over generated traffic.
use Rattle.std.proofs.Common.{◌≡◌, ℕ, ◌<◌, ◌≤◌, List, [], ◌∷◌, ◌++◌, length, map, take, refl, ap, subst, ◌∙◌, arith, Option, None, Some, length-append}
use Rattle.std.specs.Prelude.{sum_by}
use Rattle.std.proofs.lemmas.List.{take_all, length-map}
use Rattle.std.proofs.lemmas.List.FromFn.{length-map-range_with_len}
use Rattle.rss_base.specs.Fold.{Folded, Sums}
use Rattle.rss_base.specs.Written.{Gets}
use Rattle.packet_fields.specs.declared.packet.PacketInfo.{PacketInfo}
use Rattle.pcap_reader.specs.Capture.{Captured, Ending, AtEnd, Breaks, IsCapture, Reads}
use Rattle.pcap_reader.specs.StreamEnd.{EndsStream}
use Rattle.pcap_reader.specs.StreamEnd as stream
use Rattle.pcap_reader.specs.declared.fault.Break.{Break}
use Rattle.pcap_reader.proofs.Records.{one_reading_only}
use Rattle.traffic_gen.specs.Capture.{captured_at, captured_from}
use Rattle.traffic_gen.specs.Traffic.{traffic}
use Rattle.dispatch_loop.specs.OptionsView.{OptionsView}
use Rattle.dispatch_loop.specs.Packets.{packet_of}
use Rattle.dispatch_loop.specs.Terms.{terms_of}
use Rattle.command_words.specs.declared.command.Command.{Command}
use Rattle.rsspp_run.specs.OneTable.{AreAll}
use Rattle.rsspp_run.specs.Refused.{Refuses, Blames}
use Rattle.rsspp_run.specs.declared.run_end.RunFault.{RunFault}
use Rattle.rsspp_run.specs.declared.run_end.RunFault.TheVariants.{Capture, ReadFault, TooMany, NoMemory}
use Rattle.flow_report.specs.Report.{keys_of, total_line}
use Rattle.flow_report.specs.declared.numbers.Totals.{Totals}
use Rattle.rsspp_main.specs.Demo.{ExplainsDemo, IsDemo, demo_line, packets_made, sum_line}
use Rattle.rsspp_main.specs.Reports.{AreShown, run_fault}
use Rattle.rsspp_main.specs.Run.{Ends, Untouched, run_terms}

module _ (count number limit : ℕ) (good : IsCapture (traffic count number) (captured_from number 0 count)) where
  records_are : (records : List Captured) (ending : Ending) → Reads (traffic count number) records ending → (records ≡ captured_from number 0 count) × (ending ≡ AtEnd)
  records_are records ending r = one_reading_only (traffic count number) records (captured_from number 0 count) ending AtEnd r good

  as_many : length (captured_from number 0 count) ≡ count
  as_many = length-map-range_with_len (captured_at number) 0 count

  never_broken : (e : Break) → EndsStream limit (traffic count number) (stream.Broken e) → ⊥
  never_broken e h = let same : Breaks e ≡ AtEnd = (records_are h.0 (Breaks e) h.1).1 in cc

  too_long : EndsStream limit (traffic count number) stream.TooMany → limit < count
  too_long h = let same : length h.0 ≡ length (captured_from number 0 count) = ap length (records_are h.0 h.1 h.2).0 in omega (arith, h.3, as_many)

  pub few : EndsStream limit (traffic count number) stream.Whole → count ≤ limit
  few h = let same : length h.0 ≡ length (captured_from number 0 count) = ap length (records_are h.0 AtEnd h.1).0 in omega (arith, h.2, as_many)

  -- all packets are those that were made
  pub all_made : (all : List PacketInfo) → AreAll limit (Some (traffic count number)) all → all ≡ packets_made count number
  all_made all a =
      a.1.3
      ∙ (ap (λ (z : List Captured). take limit (map packet_of z)) (records_are a.1.0 a.1.1 a.1.2).0
      ∙ take_all limit (packets_made count number) (omega (arith, few a.0, as_many, length-map (captured_from number 0 count) packet_of)))

-- a demo that was refused
pub demo_refused : (packets : Option (List PacketInfo)) (report_of : List PacketInfo → List ℕ) (c : Command) (old new : Ends) (fault : RunFault) → IsCapture (traffic c.count c.number) (captured_from c.number 0 c.count)
    → (now : Option (List ℕ)) → Refuses c.options.packets (Some (traffic c.count c.number)) now fault → Blames fault 0 0 → Untouched old new → ExplainsDemo packets report_of c old new (Some (run_fault fault))
demo_refused packets report_of c old new (Capture e) good now stops blames same = never_broken c.count c.number c.options.packets good e (stops.0, stops.1.1, stops.1.0)
demo_refused packets report_of c old new (TooMany n) good now stops blames same =
    let records = stops.0 ++ stops.1.2.0 ∷ [] in
    let begins = stops.1.2.1 in
    let long : c.options.packets < length (records ++ begins.0) = omega (arith, stops.1.1, length-append records begins.0, length-append stops.0 (stops.1.2.0 ∷ [])) in
    (stops.1.0, too_long c.count c.number c.options.packets good (records ++ begins.0, begins.1, begins.2, long), same)
demo_refused packets report_of c old new ReadFault good now stops blames same = absurd (omega (arith, blames))
demo_refused packets report_of c old new NoMemory good now stops blames same = same

-- what a sink that was empty tells of a text
pub folded : (text : List ℕ) (s : Folded) → Gets (Sums (record { count = 0; value = 0 })) (Sums s) text → Sums s text
folded text s gets = gets [] (record { count = refl; value = refl })

-- which packets are shown doesn't depend on what they cost
pub shown_by : (packets : Option (List PacketInfo)) (cost : PacketInfo → ℕ) (o : OptionsView) (all shown : List PacketInfo) → AreShown packets (terms_of cost o) all shown → AreShown packets (run_terms o) all shown
shown_by (Some named) cost o all shown h = h
shown_by None cost o all shown h = h

-- the three lines, by what was run, counted and folded
pub demo_shown : (packets : Option (List PacketInfo)) (report_of : List PacketInfo → List ℕ) (c : Command) (all shown : List PacketInfo) (totals : Totals) (s : Folded) → IsCapture (traffic c.count c.number) (captured_from c.number 0 c.count)
    → AreAll c.options.packets (Some (traffic c.count c.number)) all → AreShown packets (run_terms c.options) all shown → totals ≡ record { flows = length (keys_of shown); packets = length shown; bytes = sum_by (λ p. p.original) shown }
    → Sums s (report_of shown) → (c.count ≤ c.options.packets) × IsDemo packets report_of c (demo_line c.count c.number ++ (total_line totals.flows totals.packets totals.bytes ++ sum_line s.count s.value))
demo_shown packets report_of c all shown totals s good whole are counted sums = (
  few c.count c.number c.options.packets good whole.0,
  (
    shown,
    subst (λ (xs : List PacketInfo). AreShown packets (run_terms c.options) xs shown) (all_made c.count c.number c.options.packets good all whole) are,
    λ i. demo_line c.count c.number ++ (total_line (counted i).flows (counted i).packets (counted i).bytes ++ sum_line (sums.count i) (sums.value i)),
  ),
)
