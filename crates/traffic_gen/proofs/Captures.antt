-- The traffic is a capture.
use Rattle.std.proofs.Common.{◌≡◌, ℕ, zero, suc, ◌+◌, ◌^◌, ◌<◌, ◌≤◌, List, [], ◌++◌, length, take, refl, sym, append_assoc, arith, Ok, inr}
use Rattle.std.specs.List.{flat_map, range_with_len}
use Rattle.byteorder.specs.Endian.{little_bytes}
use Rattle.byteorder.specs.Numbers.{little_number-reads_back}
use Rattle.rss_base.specs.declared.link.Link.TheVariants.{Ethernet}
use Rattle.pcap_reader.specs.declared.form.Form.{Form}
use Rattle.pcap_reader.specs.declared.form.Order.TheVariants.{Little}
use Rattle.pcap_reader.specs.declared.form.Fraction.TheVariants.{Micros}
use Rattle.pcap_reader.specs.Capture.{number_at, announced, IsHeaderOf, Begins, IsCapture}
use Rattle.traffic_gen.specs.Packet.{length_of, frame_of}
use Rattle.traffic_gen.specs.Traffic.{file_header, seconds_of, microseconds_of, record_header, record_of, records_from, traffic}
use Rattle.traffic_gen.specs.Capture.{captured_at, captured_from}
use Rattle.traffic_gen.proofs.Giving.{frame_of-short}

-- little-endian, with microseconds, of Ethernet
abbrev form : Form
form = record { order = Little; fraction = Micros; link = Ethernet }

header_of : (number index : ℕ) → index < 2 ^ 32 → IsHeaderOf form (captured_at number index) (record_header (length (frame_of number index)) index)
unfolding number_at
header_of number index fits =
    let short = frame_of-short number index in
    let captured = length (frame_of number index) in
    let seconds = little_number-reads_back 4 (seconds_of index) (little_bytes 4 (microseconds_of index) ++ (little_bytes 4 captured ++ little_bytes 4 (length_of index))) (omega arith) in
    let microseconds = little_number-reads_back 4 (microseconds_of index) (little_bytes 4 captured ++ little_bytes 4 (length_of index)) (omega arith) in
    let told = little_number-reads_back 4 captured (little_bytes 4 (length_of index)) (omega arith) in
    let original = little_number-reads_back 4 (length_of index) [] (omega arith) in
    record {
      whole = refl;
      link = refl;
      nanos = rw (seconds, microseconds) refl;
      captured = sym told;
      limit = omega arith;
      original = sym original;
    }

-- the records stand one behind the other
records_begin : (number first n : ℕ) → first + n ≤ 2 ^ 32 → Begins form (flat_map (record_of number) (range_with_len first n)) (captured_from number first n) []
unfolding record_of
records_begin number first zero fits = refl
records_begin number first (suc n) fits = (
  record_header (length (frame_of number first)) first,
  flat_map (record_of number) (range_with_len (first + 1) n),
  header_of number first (omega arith),
  append_assoc (record_header (length (frame_of number first)) first) (frame_of number first) (flat_map (record_of number) (range_with_len (first + 1) n)),
  records_begin number (first + 1) n (omega arith),
)

header_good : (rest : List ℕ) → announced (take 24 (file_header ++ rest)) ≡ Ok form
unfolding announced number_at
header_good rest = refl

pub traffic_capture : (count number : ℕ) → count ≤ 10000000 → IsCapture (traffic count number) (captured_from number 0 count)
unfolding traffic records_from
traffic_capture count number few =
    let rest = flat_map (record_of number) (range_with_len 0 count) in
    inr (
      form,
      [],
      record {
        header = omega arith;
        form_is = header_good rest;
        records_are = records_begin number 0 count (omega arith);
        ends = refl;
      },
    )
