-- The classic capture file, version 2.4: a header of 24 bytes, and records up to the end of the input.
use Rattle.std.specs.Prelude.{◌≡◌, ◌⊎◌, ◌==◌, ◌&&◌, not, Option, None, Some, ℕ, ◌+◌, ◌*◌, ◌<◌, ◌≤◌, List, [], ◌∷◌, ◌++◌, length, take, drop, if◌then◌else◌, Result, Ok, Err}
use Rattle.byteorder.specs.Endian.{little_number, big_number}
use Rattle.rss_base.specs.declared.link.Link.{Link}
use Rattle.rss_base.specs.declared.link.Link.TheVariants.{Ethernet, Raw}
use Rattle.pcap_reader.specs.declared.form.Order.{Order}
use Rattle.pcap_reader.specs.declared.form.Order.TheVariants.{Little, Big}
use Rattle.pcap_reader.specs.declared.form.Fraction.{Fraction}
use Rattle.pcap_reader.specs.declared.form.Fraction.TheVariants.{Micros, Nanos}
use Rattle.pcap_reader.specs.declared.form.Form.{Form}
use Rattle.pcap_reader.specs.declared.fault.Break.{Break}
use Rattle.pcap_reader.specs.declared.fault.Break.TheVariants.{ShortHeader, BadMagic, BadVersion, BadLink, TooLong, ShortRecord}

-- the number in the n bytes from place i (pcap file format, "General File Structure": numbers are in the writer's byte order)
unfoldable pub number_at : Order → ℕ → ℕ → List ℕ → ℕ
number_at Little n i bytes = little_number n (drop i bytes)
number_at Big n i bytes = big_number n (drop i bytes)

-- nanoseconds in a unit of the fraction (pcap file format, "File Header": the magic number tells the unit)
abbrev pub unit : Fraction → ℕ
unit Micros = 1_000
unit Nanos = 1

-- how the numbers of a capture are written that begins with these four bytes, read as a big-endian number (pcap file format, "File Header": Magic Number)
abbrev pub numbers_of : ℕ → Option (Order × Fraction)
numbers_of magic =
    if magic == 0xa1b2_c3d4 then Some (Big, Micros)
    else (if magic == 0xd4c3_b2a1 then Some (Little, Micros)
    else (if magic == 0xa1b2_3c4d then Some (Big, Nanos)
    else (if magic == 0x4d3c_b2a1 then Some (Little, Nanos)
    else None)))

-- what frames of a link type begin with, where it is one that is read: 1, Ethernet, or 101, raw IP (pcap file format, "File Header": LinkType)
abbrev pub link_of : ℕ → Option Link
link_of value = if value == 1 then Some Ethernet else (if value == 101 then Some Raw else None)

-- the form of a capture with this link type, whose numbers are written so
abbrev pub linked : Order → Fraction → ℕ → Option Link → Result Form Break
linked order fraction value None = Err (BadLink value)
linked order fraction value (Some link) = Ok (record { order = order; fraction = fraction; link = link })

-- what stands behind the magic number, in its byte order: version 2.4 and a link type (pcap file format, "File Header": versions, LinkType)
abbrev pub checked : Option (Order × Fraction) → List ℕ → Result Form Break
checked None header = Err (BadMagic (number_at Big 4 0 header))
checked (Some numbers) header =
    if not ((number_at numbers.0 2 4 header == 2) && (number_at numbers.0 2 6 header == 4))
    then Err (BadVersion (number_at numbers.0 2 4 header) (number_at numbers.0 2 6 header))
    else linked numbers.0 numbers.1 (number_at numbers.0 4 20 header) (link_of (number_at numbers.0 4 20 header))

-- what a whole header announces, or what is wrong with it first (pcap file format, "File Header")
unfoldable pub announced : List ℕ → Result Form Break
announced header = checked (numbers_of (number_at Big 4 0 header)) header

-- the input ends inside the header of 24 bytes, or the header is refused
abbrev pub HeaderBreaks : List ℕ → Break → Type 0
HeaderBreaks bytes e =
    ((length bytes < 24) × (e ≡ ShortHeader (length bytes))) ⊎ ((24 ≤ length bytes) × (announced (take 24 bytes) ≡ Err e))

-- a record: what its frame begins with, when it came, how long it was on the wire, and its captured bytes
pub record Captured : Type 0 where
  pub link : Link
  pub nanos : ℕ
  pub original : ℕ
  pub bytes : List ℕ

-- the 16 bytes in front of a record's captured bytes, of which there are at most 262,144, as many as libpcap writes (pcap file format, "Packet Record"); what its frame begins with stands in the header of the capture
pub record IsHeaderOf (form : Form) (r : Captured) (header : List ℕ) : Type 0 where
  pub whole : length header ≡ 16
  pub link : r.link ≡ form.link
  pub nanos : r.nanos ≡ number_at form.order 4 0 header * 1_000_000_000 + number_at form.order 4 4 header * unit form.fraction
  pub captured : length r.bytes ≡ number_at form.order 4 8 header
  pub limit : length r.bytes ≤ 262_144
  pub original : r.original ≡ number_at form.order 4 12 header

-- the bytes are these records, one behind the other, and then the tail
abbrev pub Begins : Form → List ℕ → List Captured → List ℕ → Type 0
Begins form bytes [] tail = bytes ≡ tail
Begins form bytes (r ∷ rs) tail =
    (header rest : List ℕ) × IsHeaderOf form r header × (bytes ≡ header ++ (r.bytes ++ rest)) × Begins form rest rs tail

-- the captured length that the header of a record tells
abbrev pub captured_length : Form → List ℕ → ℕ
captured_length form bytes = number_at form.order 4 8 bytes

-- the input ends inside a record
abbrev pub IsCut : Form → List ℕ → Type 0
IsCut form tail =
    ((0 < length tail) × (length tail < 16))
    ⊎ ((16 ≤ length tail) × (captured_length form tail ≤ 262_144) × (length tail < 16 + captured_length form tail))

-- the tail behind n whole records is broken so
abbrev pub TailBreaks : Form → ℕ → List ℕ → Break → Type 0
TailBreaks form n tail (ShortHeader have) = ⊥
TailBreaks form n tail (BadMagic value) = ⊥
TailBreaks form n tail (BadVersion major minor) = ⊥
TailBreaks form n tail (BadLink value) = ⊥
TailBreaks form n tail (TooLong at long) = (at ≡ n) × (long ≡ captured_length form tail) × (16 ≤ length tail) × (262_144 < captured_length form tail)
TailBreaks form n tail (ShortRecord at have) = (at ≡ n) × (have ≡ length tail) × IsCut form tail

-- how a capture ends
pub data Ending : Type 0 where
  AtEnd : Ending
  Breaks : (e : Break) → Ending

abbrev pub TailEnds : Form → ℕ → List ℕ → Ending → Type 0
TailEnds form n tail AtEnd = tail ≡ []
TailEnds form n tail (Breaks e) = TailBreaks form n tail e

-- the header is good, and behind it are these records and that end
pub record IsBody (bytes : List ℕ) (records : List Captured) (ending : Ending) (form : Form) (tail : List ℕ) : Type 0 where
  pub header : 24 ≤ length bytes
  pub form_is : announced (take 24 bytes) ≡ Ok form
  pub records_are : Begins form (drop 24 bytes) records tail
  pub ends : TailEnds form (length records) tail ending

-- the whole records of a list of bytes, and the end or the first break behind them
abbrev pub Reads : List ℕ → List Captured → Ending → Type 0
Reads bytes records ending =
    ((e : Break) × (records ≡ []) × (ending ≡ Breaks e) × HeaderBreaks bytes e)
    ⊎ ((form : Form) × (tail : List ℕ) × IsBody bytes records ending form tail)

-- the bytes are a whole capture of these records
abbrev pub IsCapture : List ℕ → List Captured → Type 0
IsCapture bytes records = Reads bytes records AtEnd

-- the bytes are these whole records of a capture and then its first break
abbrev pub BreaksBehind : List ℕ → List Captured → Break → Type 0
BreaksBehind bytes records e = Reads bytes records (Breaks e)
