-- The packets of a run that were read and sent so far.
use Rattle.std.specs.Prelude.{◌≡◌, ◌≢◌, ◌≤◌, ℕ, List, [], ◌∷◌, ◌++◌, map, length, Option, Some, None, IfSome}
use Rattle.std.specs.Io.KnownBytes.{IsAtEnd}
use Rattle.packet_fields.specs.declared.packet.PacketInfo.{PacketInfo}
use Rattle.toeplitz.specs.Bucket.{bucket_of}
use Rattle.pcap_reader.specs.declared.fault.ReadError.TheVariants.{NoMemory, ReadFault, Broken}
use Rattle.pcap_reader.specs.declared.reader.Progress.TheVariants.{Going}
use Rattle.pcap_reader.specs.Capture.{Captured}
use Rattle.pcap_reader.specs.Reading.{Reading, still}
use Rattle.pcap_reader.specs.Stream.{SoFar}
use Rattle.pcap_reader.specs.StreamEnd as stream
use Rattle.pcap_reader.specs.StreamEnd.{EndsStream}
use Rattle.indirection.specs.Story.{Parcel, Step, told}
use Rattle.dispatch_loop.specs.declared.dispatcher_end.DispatcherEnd.{DispatcherEnd}
use Rattle.dispatch_loop.specs.declared.dispatcher_end.DispatcherEnd.TheVariants.{AtEnd, Refused, TooMany}
use Rattle.dispatch_loop.specs.Terms.{Terms, buckets_of}
use Rattle.dispatch_loop.specs.DispatcherState.{DispatcherState}
use Rattle.dispatch_loop.specs.Packets.{packet_of, ArePackets}
use Rattle.dispatch_loop.specs.Stops.{StopsBy}

-- what the source had left as its reader was started, where it told it, and the packets that were sent since, in order
pub record Past : Type 0 where
  pub bytes : Option (List ℕ)
  pub packets : List PacketInfo

abbrev pub past : Option (List ℕ) → List PacketInfo → Past
past bytes packets = record { bytes = bytes; packets = packets }

-- where the packets of the run are named, the source told its bytes, and they are those of this capture
abbrev pub AreNamed : Option (List PacketInfo) → ℕ → Option (List ℕ) → Type 0
AreNamed None limit bytes = Unit {0}
AreNamed (Some all) limit None = ⊥
AreNamed (Some all) limit (Some bytes) = ArePackets limit bytes all

-- a packet as the journal sees it: its bucket, and what it costs
abbrev pub parcel_of : Terms → PacketInfo → Parcel
parcel_of t p = record { bucket = bucket_of t.key (buckets_of t) p; cost = t.cost p }

abbrev pub parcels : Terms → List PacketInfo → List Parcel
parcels t ps = map (parcel_of t) ps

-- the packets that were sent and the journal as one list of steps
abbrev pub story : DispatcherState → List PacketInfo → List Step
story f ps = told 0 (parcels f.terms ps) f.journal.entries

abbrev pub held_list : Option PacketInfo → List PacketInfo
held_list None = []
held_list (Some p) = p ∷ []

-- the stream ended so
abbrev pub EndsBy : ℕ → Option (List ℕ) → DispatcherEnd → Type 0
EndsBy limit bytes AtEnd = IfSome bytes (λ b. EndsStream limit b stream.Whole)
EndsBy limit bytes (Refused (Broken e)) = IfSome bytes (λ b. EndsStream limit b (stream.Broken e))
EndsBy limit bytes (Refused ReadFault) = Unit {0}
EndsBy limit bytes (Refused NoMemory) = ⊥
EndsBy limit bytes (TooMany n) = (n ≡ limit) × IfSome bytes (λ b. EndsStream limit b stream.TooMany)

-- at its end the source has nothing left
abbrev pub LeavesNone : DispatcherEnd → Option (List ℕ) → Type 0
LeavesNone AtEnd left = IsAtEnd left
LeavesNone (Refused e) left = Unit {0}
LeavesNone (TooMany n) left = Unit {0}

-- the packets that were sent are all packets of the capture, unless a read failed
abbrev pub HasAll : ℕ → Option (List ℕ) → List PacketInfo → DispatcherEnd → Type 0
HasAll limit bytes packets AtEnd = IfSome bytes (λ b. ArePackets limit b packets)
HasAll limit bytes packets (TooMany n) = IfSome bytes (λ b. ArePackets limit b packets)
HasAll limit bytes packets (Refused (Broken e)) = IfSome bytes (λ b. ArePackets limit b packets)
HasAll limit bytes packets (Refused e) = Unit {0}

-- while the stream goes on: the records that were read are the packets that were sent and the one that is held, and the reader goes on behind them
pub record IsReading (limit : ℕ) (p : Past) (held : Option PacketInfo) (reader : Reading) (left : Option (List ℕ)) : Type 0 where
  pub records : List Captured
  pub are : map packet_of records ≡ p.packets ++ held_list held
  pub given : reader.given ≡ length records
  pub few : length records ≤ limit
  pub going : reader.progress ≡ Going
  pub so_far : SoFar p.bytes reader.form records (still reader left)

-- once it has ended: nothing is held, the end is the stream's, and where that is no end of a capture the reading stopped behind some records
pub record IsOver (limit : ℕ) (p : Past) (held : Option PacketInfo) (end : DispatcherEnd) (left : Option (List ℕ)) : Type 0 where
  pub held_is : held ≡ None
  pub ends : EndsBy limit p.bytes end
  pub leaves : LeavesNone end left
  pub all : HasAll limit p.bytes p.packets end
  pub stops : end ≢ AtEnd → (records : List Captured) × StopsBy limit p.bytes left records end

abbrev pub IsFed : ℕ → Past → Option PacketInfo → Option DispatcherEnd → Reading → Option (List ℕ) → Type 0
IsFed limit p held None reader left = IsReading limit p held reader left
IsFed limit p held (Some end) reader left = IsOver limit p held end left
