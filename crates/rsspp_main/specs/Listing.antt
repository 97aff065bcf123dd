-- The listing of packets' hashes, and what each outcome of its run says.
use Rattle.std.specs.Prelude.{◌≡◌, ◌⊎◌, ◌<◌, ◌≤◌, ◌+◌, ◌%◌, ℕ, List, [], ◌∷◌, ◌++◌, length, map, codes, slice_index, Bool, true, false, Option, None, Some, Result, Ok, Err}
use Rattle.std.specs.Fmt.{decimal}
use Rattle.std.specs.Io.KnownBytes.{IsAtEnd}
use Rattle.rss_base.specs.Faults.{Rose, NoneFailed}
use Rattle.rss_base.specs.Hex.{hex_text}
use Rattle.rss_base.specs.Written.{Gets, GetsFront}
use Rattle.pcap_reader.specs.Capture.{Captured}
use Rattle.packet_fields.specs.declared.packet.PacketInfo.{PacketInfo}
use Rattle.packet_fields.specs.KeyText.{key_text_of}
use Rattle.toeplitz.specs.declared.key.Key.{Key}
use Rattle.toeplitz.specs.Packet.{packet_hash}
use Rattle.rsspp_main.specs.declared.fault.TopFault.{TopFault}
use Rattle.rsspp_main.specs.declared.fault.TopFault.TheVariants.{Words, Capture, Block, Line, ReadFault, Undrawn, WriteFault, NoMemory, TooMany}
use Rattle.rsspp_main.specs.Input.{IsUnbroken, BreaksBy}
use Rattle.rsspp_main.specs.Stops.{Accepts, GoesOnIn, StopsIn, StopsWith}
use Rattle.dispatch_loop.specs.Stops.{HasRecordMore}
use Rattle.pcapng_reader.specs.declared.fault.NgBreak.{NgBreak}
use Rattle.pcapng_reader.specs.Lent.{classic_known}
use Rattle.dispatch_loop.specs.Packets.{packet_of}
use Rattle.rsspp_main.specs.Run.{Ends, NoCallFailed, NoReadFailed, ReadsAtMostFour}

-- the bucket of a packet, and the core that owns it
abbrev pub bucket_in : Key → List ℕ → PacketInfo → ℕ
bucket_in key owners p = packet_hash key p % length owners

-- the line of a packet: its number in the capture, hash, bucket, core and key
abbrev pub hash_line : Key → List ℕ → ℕ → PacketInfo → List ℕ
hash_line key owners number p =
    decimal number ++ (codes " " ++ (hex_text 8 (packet_hash key p) ++ (codes " " ++ (decimal (bucket_in key owners p)
    ++ (codes " " ++ (decimal (slice_index owners (bucket_in key owners p)) ++ (codes " " ++ (key_text_of p.key ++ 10 ∷ []))))))))

-- the lines of packets, the first of which has this number
abbrev pub listing_from : Key → List ℕ → ℕ → List PacketInfo → List ℕ
listing_from key owners number [] = []
listing_from key owners number (p ∷ ps) = hash_line key owners number p ++ listing_from key owners (number + 1) ps

abbrev pub listing : Key → List ℕ → List PacketInfo → List ℕ
listing key owners packets = listing_from key owners 0 packets

-- the text was written, or a write failed and a front of it was
pub record IsListed (before now : ℕ) (old new : List ℕ → Type 0) (failed : Bool) (text : List ℕ) : Type 0 where
  pub later : before ≤ now
  pub front : GetsFront old new text
  pub whole : failed ≡ false → Gets old new text
  pub calm : failed ≡ false → now ≡ before
  pub rose : failed ≡ true → Rose before now

-- a front of the packets' lines was written, and all of them where no write failed
pub record Listed (old new : Ends) (text : List ℕ) : Type 0 where
  pub front : GetsFront old.may_hold new.may_hold text
  pub whole : NoneFailed old.write_faults new.write_faults → Gets old.may_hold new.may_hold text

-- what may come of the reading of a capture, by the records that were read
pub record ReadingOutcomes : Type 1 where
  pub begun : Type 0
  pub ended : List Captured → Type 0
  pub stopped : List Captured → TopFault → Type 0
  pub goes_on : List Captured → Type 0
  pub broken : List Captured → NgBreak → Type 0

-- what each outcome says of a run that lists the packets of a capture as they come; None is the outcome of a run that was done
abbrev pub Lists : ReadingOutcomes → (List PacketInfo → List ℕ) → Ends → Ends → Option TopFault → Type 0
Lists outcomes text old new None = (records : List Captured) × outcomes.ended records × Gets old.may_hold new.may_hold (text (map packet_of records)) × NoCallFailed old new
Lists outcomes text old new (Some (Capture e)) = (records : List Captured) × outcomes.stopped records (Capture e) × Listed old new (text (map packet_of records)) × NoReadFailed old new
Lists outcomes text old new (Some (Block e)) = (records : List Captured) × outcomes.broken records e × Listed old new (text (map packet_of records)) × NoReadFailed old new
Lists outcomes text old new (Some (TooMany n)) = (records : List Captured) × outcomes.stopped records (TooMany n) × Listed old new (text (map packet_of records)) × NoReadFailed old new
Lists outcomes text old new (Some ReadFault) =
    (records : List Captured) × outcomes.stopped records ReadFault × Listed old new (text (map packet_of records)) × Rose old.read_faults new.read_faults
Lists outcomes text old new (Some WriteFault) =
    (records : List Captured) × outcomes.ended records × GetsFront old.may_hold new.may_hold (text (map packet_of records)) × Rose old.write_faults new.write_faults × NoReadFailed old new
-- before the first record, or at one below the limit: the lines of those before it were written
Lists outcomes text old new (Some NoMemory) =
    outcomes.begun ⊎ ((records : List Captured) × outcomes.goes_on records × Gets old.may_hold new.may_hold (text (map packet_of records)) × NoCallFailed old new)
Lists outcomes text old new (Some Undrawn) = ⊥
Lists outcomes text old new (Some (Line k)) = ⊥
Lists outcomes text old new (Some (Words w)) = ⊥

-- the reading of a classic capture, which had these bytes left and has these now; memory may be refused where this holds
abbrev pub classic_outcomes : ℕ → Option (List ℕ) → Option (List ℕ) → Type 0 → ReadingOutcomes
classic_outcomes limit left now begun = record {
  begun = begun;
  ended = λ records. Accepts limit left records × IsAtEnd now;
  stopped = StopsWith limit left now;
  goes_on = λ records. (length records < limit) × HasRecordMore left now records;
  broken = λ records e. ⊥;
}

-- the reading of an input as the classic capture that it stands for
abbrev pub input_outcomes : ℕ → Ends → Ends → ReadingOutcomes
input_outcomes limit old new = record {
  begun = ReadsAtMostFour old new;
  ended = λ records. Accepts limit (classic_known old.left) records × IsUnbroken old.left × IsAtEnd new.left;
  stopped = StopsIn limit old.left new.left;
  goes_on = λ records. (length records < limit) × GoesOnIn old.left new.left records;
  broken = λ records e. Accepts limit (classic_known old.left) records × BreaksBy old.left e;
}

-- what each outcome says of a run that lists the packets of an input
abbrev pub ExplainsListing : ℕ → (List PacketInfo → List ℕ) → Ends → Ends → Option TopFault → Type 0
ExplainsListing limit text old new fault = Lists (input_outcomes limit old new) text old new fault

-- the answer to a listing over an input whose blocks break so, if they do: a break behind its last record comes before a failed write
abbrev pub with_break : Option NgBreak → Result Unit TopFault → Result Unit TopFault
with_break None listed = listed
with_break (Some e) (Ok u) = Err (Block e)
with_break (Some e) (Err WriteFault) = Err (Block e)
with_break (Some e) (Err fault) = Err fault
