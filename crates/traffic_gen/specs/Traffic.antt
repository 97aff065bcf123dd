-- The bytes of generated traffic: a capture file (libpcap's capture file format).
use Rattle.std.specs.Prelude.{ℕ, ◌+◌, ◌*◌, ◌/◌, ◌%◌, List, ◌++◌, length}
use Rattle.std.specs.List.{flat_map, range_with_len}
use Rattle.byteorder.specs.Endian.{little_bytes}
use Rattle.traffic_gen.specs.Packet.{length_of, frame_of}

-- the magic number of little-endian captures with microseconds, version 2.4, two fields that are read over, the greatest captured length, and the link type of Ethernet
abbrev pub file_header : List ℕ
file_header =
    little_bytes 4 0xa1b2_c3d4 ++ (little_bytes 2 2 ++ (little_bytes 2 4 ++ (little_bytes 4 0 ++ (little_bytes 4 0 ++ (little_bytes 4 262_144 ++ little_bytes 4 1)))))

-- when the packet at an index was captured: whole seconds, and microseconds; a thousand packets come in a second
abbrev pub seconds_of : ℕ → ℕ
seconds_of index = index / 1_000

abbrev pub microseconds_of : ℕ → ℕ
microseconds_of index = 1_000 * (index % 1_000)

-- the same in nanoseconds
abbrev pub nanos_of : ℕ → ℕ
nanos_of index = seconds_of index * 1_000_000_000 + microseconds_of index * 1_000

-- the header of a record with so many captured bytes
abbrev pub record_header : ℕ → ℕ → List ℕ
record_header captured index =
    little_bytes 4 (seconds_of index) ++ (little_bytes 4 (microseconds_of index) ++ (little_bytes 4 captured ++ little_bytes 4 (length_of index)))

-- the record at an index
unfoldable pub record_of : ℕ → ℕ → List ℕ
record_of number index = record_header (length (frame_of number index)) index ++ frame_of number index

-- n records, from an index on
unfoldable pub records_from : ℕ → ℕ → ℕ → List ℕ
records_from number first n = flat_map (record_of number) (range_with_len first n)

-- the traffic of a number: a capture of so many records
unfoldable pub traffic : ℕ → ℕ → List ℕ
traffic count number = file_header ++ records_from number 0 count
