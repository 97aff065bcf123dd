-- The classic bytes of a pcapng capture are a whole capture of its packets.
use Rattle.std.proofs.Common.{◌≡◌, ◌⊎◌, inl, inr, ℕ, ◌/◌, ◌%◌, ◌^◌, ◌<◌, true, List, [], ◌∷◌, ◌++◌, map, length, take, refl, sym, ap, subst, ◌∙◌, append_assoc, arith, Ok, None, Some}
use Rattle.std.specs.Prelude.{All, Option}
use Rattle.std.proofs.lemmas.List.Elements.{All-head, All-tail}
use Rattle.std.proofs.Math.Nat.{div-one, div-add-mod', mod-eq_of_lt}
use Rattle.byteorder.specs.Endian.{little_bytes}
use Rattle.byteorder.specs.Numbers.{little_number-reads_back, little_from-bytes}
use Rattle.pcap_reader.specs.declared.form.Form.{Form}
use Rattle.pcap_reader.specs.declared.form.Order.TheVariants.{Little}
use Rattle.pcap_reader.specs.declared.form.Fraction.TheVariants.{Nanos}
use Rattle.pcap_reader.specs.declared.fault.Break.{Break}
use Rattle.pcap_reader.specs.Capture.{number_at, announced, Captured, IsHeaderOf, Begins, AtEnd, Breaks, IsCapture}
use Rattle.pcap_reader.proofs.Records.{one_reading_only}
use Rattle.pcapng_reader.specs.Lent.{classic_known}
use Rattle.pcapng_reader.specs.Blocks.{Packet, story_of}
use Rattle.pcapng_reader.specs.Classic.{classic_header, record_header, records_text, classic, classic_of, is_pcapng}
use Rattle.rsspp_main.specs.Packets.{AreBytes, link_type, captured_of_packet, packets_of}
use Rattle.rsspp_main.specs.declared.fault.TopFault.TheVariants.{Capture}
use Rattle.rsspp_main.specs.Stops.{Accepts, StopsIn}
use Rattle.rsspp_main.proofs.PcapngPackets.{IsSound, AreSound, AreSoundBehind, packets_sound, Fits, packets_fit}

-- little-endian, with nanoseconds
abbrev form_of : ℕ → Form
form_of link = record { order = Little; fraction = Nanos; link = link_type link }

-- the record that is read of a packet: the length on the wire is told in four bytes
abbrev read_of : Packet → Captured
read_of p = record { link = link_type p.link; nanos = p.nanos; original = p.original % 256 ^ 4; bytes = p.bytes }

header_of : (link : ℕ) (p : Packet) → IsSound link p → IsHeaderOf (form_of link) (read_of p) (record_header p.nanos (length p.bytes) p.original)
unfolding number_at
header_of link p sound =
    let latest = sound.nanos in
    let limit = sound.captured in
    let captured = length p.bytes in
    let whole = div-add-mod' p.nanos 1_000_000_000 in
    let seconds = little_number-reads_back 4 (p.nanos / 1_000_000_000) (little_bytes 4 (p.nanos % 1_000_000_000) ++ (little_bytes 4 captured ++ little_bytes 4 p.original)) (omega arith) in
    let part = little_number-reads_back 4 (p.nanos % 1_000_000_000) (little_bytes 4 captured ++ little_bytes 4 p.original) (omega arith) in
    let told = little_number-reads_back 4 captured (little_bytes 4 p.original) (omega arith) in
    let original = little_from-bytes 4 0 p.original [] ∙ ap (λ n. n % 256 ^ 4) (div-one p.original) in
    record {
      whole = refl;
      link = ap link_type sound.link;
      nanos = rw (seconds, part) (omega (arith, whole));
      captured = sym told;
      limit = limit;
      original = sym original;
    }

-- the records stand one behind the other
records_begin : (link : ℕ) (packets : List Packet) → AreSound link packets → Begins (form_of link) (records_text packets) (map read_of packets) []
records_begin link [] sound = refl
records_begin link (p ∷ ps) sound = (
  record_header p.nanos (length p.bytes) p.original,
  records_text ps,
  header_of link p sound.0,
  append_assoc (record_header p.nanos (length p.bytes) p.original) p.bytes (records_text ps),
  records_begin link ps sound.1,
)

header_good : (link : ℕ) (rest : List ℕ) → (link ≡ 1) ⊎ (link ≡ 101) → announced (take 24 (classic_header link ++ rest)) ≡ Ok (form_of link)
unfolding announced number_at
header_good link rest (inl one) = rw one refl
header_good link rest (inr raw) = rw raw refl

capture_of : (link : ℕ) (packets : List Packet) → (link ≡ 1) ⊎ (link ≡ 101) → AreSound link packets → IsCapture (classic_header link ++ records_text packets) (map read_of packets)
capture_of link packets known sound =
    inr (
      form_of link,
      [],
      record {
        header = omega arith;
        form_is = header_good link (records_text packets) known;
        records_are = records_begin link packets sound;
        ends = refl;
      },
    )

classic_capture : (packets : List Packet) → AreSoundBehind None packets → IsCapture (classic packets) (map read_of packets)
classic_capture [] sound = capture_of 1 [] (inl refl) tt
classic_capture (p ∷ ps) sound = capture_of p.link (p ∷ ps) sound.0.known sound

read_capture : (bytes : List ℕ) → is_pcapng bytes ≡ true → IsCapture (classic_of bytes) (map read_of (story_of bytes).packets)
read_capture bytes h =
    let same : classic_of bytes ≡ classic (story_of bytes).packets = rw h refl in
    subst (λ (w : List ℕ). IsCapture w (map read_of (story_of bytes).packets)) (sym same) (classic_capture (story_of bytes).packets (packets_sound bytes))

read_whole : (packets : List Packet) → All Fits packets → map read_of packets ≡ map captured_of_packet packets
read_whole [] h = refl
read_whole (p ∷ ps) h =
    let fits : p.original < 256 ^ 4 = All-head Fits p ps h in
    let whole : p.original % 256 ^ 4 ≡ p.original = mod-eq_of_lt fits in
    let first : read_of p ≡ captured_of_packet p = ap (λ n. record { link = link_type p.link; nanos = p.nanos; original = n; bytes = p.bytes }) whole in
    ap (λ (r : Captured). r ∷ map read_of ps) first ∙ ap (λ (rs : List Captured). captured_of_packet p ∷ rs) (read_whole ps (All-tail Fits p ps h))

-- a pcapng input is a capture of its packets
pub pcapng_capture : (bytes : List ℕ) → AreBytes bytes → is_pcapng bytes ≡ true → IsCapture (classic_of bytes) (packets_of bytes)
pcapng_capture bytes b h = subst (λ (rs : List Captured). IsCapture (classic_of bytes) rs) (read_whole (story_of bytes).packets (packets_fit bytes b)) (read_capture bytes h)

-- which are the records that a run accepts of it
pub pcapng_accepted : (limit : ℕ) (bytes : List ℕ) (records : List Captured) → AreBytes bytes → is_pcapng bytes ≡ true → Accepts limit (classic_known (Some bytes)) records → records ≡ packets_of bytes
pcapng_accepted limit bytes records b h a = (one_reading_only (classic_of bytes) records (packets_of bytes) AtEnd AtEnd a.1 (pcapng_capture bytes b h)).0

-- and no run stops at a break of the classic form
pub pcapng_unbroken : (limit : ℕ) (bytes : List ℕ) (now : Option (List ℕ)) (records : List Captured) (e : Break) → is_pcapng bytes ≡ true → StopsIn limit (Some bytes) now records (Capture e) → ⊥
pcapng_unbroken limit bytes now records e h stops =
    let same = (one_reading_only (classic_of bytes) (map read_of (story_of bytes).packets) records AtEnd (Breaks e) (read_capture bytes h) stops.1.1).1 in
    cc
