-- Generated traffic as a capture.
use Rattle.std.specs.Prelude.{ℕ, List, map}
use Rattle.std.specs.List.{range_with_len}
use Rattle.rss_base.specs.declared.link.Link.TheVariants.{Ethernet}
use Rattle.pcap_reader.specs.Capture.{Captured}
use Rattle.traffic_gen.specs.Packet.{length_of, frame_of}
use Rattle.traffic_gen.specs.Traffic.{nanos_of}

-- the record at an index, as a reader gives it
abbrev pub captured_at : ℕ → ℕ → Captured
captured_at number index = record { link = Ethernet; nanos = nanos_of index; original = length_of index; bytes = frame_of number index }

-- n records, from an index on
abbrev pub captured_from : ℕ → ℕ → ℕ → List Captured
captured_from number first n = map (captured_at number) (range_with_len first n)
