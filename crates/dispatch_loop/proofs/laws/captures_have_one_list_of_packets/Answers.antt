use Rattle.std.proofs.Common.{List, map, take, ap, refl, sym, ◌∙◌}
use Rattle.pcap_reader.specs.Capture.{Captured}
use Rattle.pcap_reader.proofs.Records.{each_reading, one_reading_only}
use Rattle.dispatch_loop.specs.Packets.{packet_of}
use Rattle.dispatch_loop.proofs.laws.captures_have_one_list_of_packets.Goals as goal

pub returns-clause-each : goal.returns-clause-each
returns-clause-each c = λ limit bytes. let r = each_reading bytes in (take limit (map packet_of r.0), (r.0, r.1, r.2, refl))

pub returns-clause-one : goal.returns-clause-one
returns-clause-one c = λ limit bytes packets others a b.
    a.3 ∙ (ap (λ (z : List Captured). take limit (map packet_of z)) (one_reading_only bytes a.0 b.0 a.1 b.1 a.2 b.2).0 ∙ sym b.3)
