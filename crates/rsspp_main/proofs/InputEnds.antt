-- How the input ends, by what an outcome says of it, and the status that comes of that.
use Rattle.std.proofs.Common.{◌≡◌, ◌⊎◌, inl, inr, ℕ, List, [], ◌∷◌, ◌++◌, length-append, arith, refl, ap, subst, Option, None, Some, IfSome}
use Rattle.rss_base.specs.Faults.{NoneFailed}
use Rattle.pcap_reader.specs.Capture.{Captured, Breaks, IsCapture, Reads}
use Rattle.pcap_reader.specs.StreamEnd.{StreamEnd, EndsStream}
use Rattle.pcap_reader.specs.StreamEnd as stream
use Rattle.pcap_reader.specs.Taken.{BeginsWith}
use Rattle.pcap_reader.specs.declared.fault.Break.{Break}
use Rattle.pcap_reader.proofs.StreamEnds.{one_stream_end}
use Rattle.pcapng_reader.specs.declared.fault.NgBreak.{NgBreak}
use Rattle.pcapng_reader.specs.Classic.{classic_of, break_of}
use Rattle.pcapng_reader.specs.Lent.{classic_known}
use Rattle.packet_fields.specs.declared.packet.PacketInfo.{PacketInfo}
use Rattle.rsspp_run.specs.OneTable.{AreAll}
use Rattle.rsspp_main.specs.declared.fault.TopFault.{TopFault}
use Rattle.rsspp_main.specs.declared.fault.TopFault.TheVariants.{Words, Capture, Block, Line, ReadFault, Undrawn, WriteFault, NoMemory, TooMany}
use Rattle.rsspp_main.specs.Input.{IsUnbroken}
use Rattle.rsspp_main.specs.Listing.{ExplainsListing}
use Rattle.rsspp_main.specs.Run.{Ends, Explains}
use Rattle.rsspp_main.specs.Status.{status_of}
use Rattle.rsspp_main.specs.Stops.{Accepts, StopsIn, StopsWith}

pub known : (left : Option (List ℕ)) (bytes : List ℕ) (P : List ℕ → Type 0) → left ≡ Some bytes → IfSome left P → P bytes
known left bytes P e h = subst (λ (o : Option (List ℕ)). IfSome o P) e h

-- an accepted capture ends behind its last record
accepted_ends : (limit : ℕ) (left : Option (List ℕ)) (bytes : List ℕ) → left ≡ Some bytes → (records : List Captured) → Accepts limit left records → EndsStream limit bytes stream.Whole
accepted_ends limit left bytes told records a = (records, known left bytes (λ b. IsCapture b records) told a.1, a.0)

-- the input is a whole capture, of which no block breaks
abbrev pub IsWhole : ℕ → List ℕ → Type 0
IsWhole limit bytes = EndsStream limit (classic_of bytes) stream.Whole × (break_of bytes ≡ None)

-- the end of the input that an outcome tells: of a read fault and of want of memory none is told
pub Tells : ℕ → List ℕ → Ends → Ends → Option TopFault → Type 0
Tells limit bytes old new None = IsWhole limit bytes
Tells limit bytes old new (Some (Words w)) = ⊥
Tells limit bytes old new (Some (Line k)) = ⊥
Tells limit bytes old new (Some (Capture e)) = EndsStream limit (classic_of bytes) (stream.Broken e)
Tells limit bytes old new (Some (Block e)) = EndsStream limit (classic_of bytes) stream.Whole × (break_of bytes ≡ Some e)
Tells limit bytes old new (Some ReadFault) = NoneFailed old.read_faults new.read_faults → ⊥
Tells limit bytes old new (Some Undrawn) = ⊥
Tells limit bytes old new (Some WriteFault) = IsWhole limit bytes × (NoneFailed old.write_faults new.write_faults → ⊥)
Tells limit bytes old new (Some NoMemory) = Unit {0}
Tells limit bytes old new (Some (TooMany n)) = EndsStream limit (classic_of bytes) stream.TooMany

-- the end of the stream where the reading stopped at a break, and at a record too many
broken_ends : (limit : ℕ) (left now : Option (List ℕ)) (bytes : List ℕ) (records : List Captured) (e : Break) → left ≡ Some bytes → StopsWith limit left now records (Capture e) → EndsStream limit bytes (stream.Broken e)
broken_ends limit left now bytes records e told s = (records, known left bytes (λ b. Reads b records (Breaks e)) told s.1, s.0)

many_end : (limit n : ℕ) (left now : Option (List ℕ)) (bytes : List ℕ) (records : List Captured) → left ≡ Some bytes → StopsWith limit left now records (TooMany n) → EndsStream limit bytes stream.TooMany
many_end limit n left now bytes records told s =
    let next = s.2.0 in
    let first = records ++ next ∷ [] in
    let whole = known left bytes (λ b. BeginsWith b first) told s.2.1 in (
      first ++ whole.0,
      whole.1,
      whole.2,
      omega (arith, s.1, length-append first whole.0, length-append records (next ∷ [])),
    )

-- the packets of a whole capture are all of it
all_ends : (limit : ℕ) (left : Option (List ℕ)) (bytes : List ℕ) → left ≡ Some bytes → (all : List PacketInfo) → AreAll limit left all → EndsStream limit bytes stream.Whole
all_ends limit left bytes told all a = (subst (λ (o : Option (List ℕ)). AreAll limit o all) told a).0

module _ (limit : ℕ) (old new : Ends) (bytes : List ℕ) (told : old.left ≡ Some bytes) where
  classic : classic_known old.left ≡ Some (classic_of bytes)
  classic = ap classic_known told

  -- the packets of the classic capture that the input stands for are all of it
  whole_by : (all : List PacketInfo) → AreAll limit (classic_known old.left) all → IsUnbroken old.left → IsWhole limit bytes
  whole_by all a u = (all_ends limit (classic_known old.left) (classic_of bytes) classic all a, known old.left bytes (λ b. break_of b ≡ None) told u)

  stops_broken : (records : List Captured) (e : Break) → StopsIn limit old.left new.left records (Capture e) → EndsStream limit (classic_of bytes) (stream.Broken e)
  stops_broken records e s = broken_ends limit (classic_known old.left) s.0 (classic_of bytes) records e classic s.1

  stops_many : (records : List Captured) (n : ℕ) → StopsIn limit old.left new.left records (TooMany n) → EndsStream limit (classic_of bytes) stream.TooMany
  stops_many records n s = many_end limit n (classic_known old.left) s.0 (classic_of bytes) records classic s.1

  pub tells : (Writes : List PacketInfo → List ℕ → Type 0) (fault : Option TopFault) → Explains limit Writes old new fault → Tells limit bytes old new fault
  unfolding Tells
  tells Writes None h = whole_by h.0.0 h.0.2.0 h.0.2.1
  tells Writes (Some (Words w)) h = h.0
  tells Writes (Some (Line k)) h = h.0
  tells Writes (Some (Capture e)) h = stops_broken h.0.0.0 e h.0.0.1
  tells Writes (Some (Block e)) h = (all_ends limit (classic_known old.left) (classic_of bytes) classic h.0.0.0 h.0.0.1.0, known old.left bytes (λ b. break_of b ≡ Some e) told h.0.0.1.1)
  tells Writes (Some ReadFault) h = λ quiet. quiet h.0.1
  tells Writes (Some Undrawn) h = h.0
  tells Writes (Some WriteFault) h = (whole_by h.0.0 h.0.2.0 h.0.2.1, λ calm. calm h.1)
  tells Writes (Some NoMemory) h = tt
  tells Writes (Some (TooMany n)) h = stops_many h.0.0.0 n h.0.0.1

  accepted_whole : (records : List Captured) → Accepts limit (classic_known old.left) records → IsUnbroken old.left → IsWhole limit bytes
  accepted_whole records a u = (accepted_ends limit (classic_known old.left) (classic_of bytes) classic records a, known old.left bytes (λ b. break_of b ≡ None) told u)

  -- the same of a listing
  pub tells_listing : (text : List PacketInfo → List ℕ) (fault : Option TopFault) → ExplainsListing limit text old new fault → Tells limit bytes old new fault
  unfolding Tells
  tells_listing text None h = accepted_whole h.0 h.1.0 h.1.1
  tells_listing text (Some (Words w)) h = h
  tells_listing text (Some (Line k)) h = h
  tells_listing text (Some (Capture e)) h = stops_broken h.0 e h.1
  tells_listing text (Some (Block e)) h = (accepted_ends limit (classic_known old.left) (classic_of bytes) classic h.0 h.1.0, known old.left bytes (λ b. break_of b ≡ Some e) told h.1.1)
  tells_listing text (Some ReadFault) h = λ quiet. quiet h.3
  tells_listing text (Some Undrawn) h = h
  tells_listing text (Some WriteFault) h = (accepted_whole h.0 h.1.0 h.1.1, λ calm. calm h.3)
  tells_listing text (Some NoMemory) h = tt
  tells_listing text (Some (TooMany n)) h = stops_many h.0 n h.1

module _ (limit : ℕ) (old new : Ends) (bytes : List ℕ) where
  one_end : (a b : StreamEnd) → EndsStream limit (classic_of bytes) a → EndsStream limit (classic_of bytes) b → a ≡ b
  one_end a b = one_stream_end limit (classic_of bytes) a b

  pub done_by : EndsStream limit (classic_of bytes) stream.Whole → break_of bytes ≡ None → NoneFailed old.read_faults new.read_faults → NoneFailed old.write_faults new.write_faults → (fault : Option TopFault) → Tells limit bytes old new fault → (status_of fault ≡ 0) ⊎ (status_of fault ≡ 6)
  unfolding Tells
  done_by end whole quiet calm None t = inl refl
  done_by end whole quiet calm (Some (Words w)) t = absurd t
  done_by end whole quiet calm (Some (Line k)) t = absurd t
  done_by end whole quiet calm (Some (Capture e)) t = let same = one_end stream.Whole (stream.Broken e) end t in cc
  done_by end whole quiet calm (Some (Block e)) t = let same = t.1 in cc
  done_by end whole quiet calm (Some ReadFault) t = absurd (t quiet)
  done_by end whole quiet calm (Some Undrawn) t = absurd t
  done_by end whole quiet calm (Some WriteFault) t = absurd (t.1 calm)
  done_by end whole quiet calm (Some NoMemory) t = inr refl
  done_by end whole quiet calm (Some (TooMany n)) t = let same = one_end stream.Whole stream.TooMany end t in cc

  pub broken_by : (e : Break) → EndsStream limit (classic_of bytes) (stream.Broken e) → NoneFailed old.read_faults new.read_faults → (fault : Option TopFault) → Tells limit bytes old new fault → (status_of fault ≡ 3) ⊎ (status_of fault ≡ 6)
  unfolding Tells
  broken_by e end quiet None t = let same = one_end (stream.Broken e) stream.Whole end t.0 in cc
  broken_by e end quiet (Some (Words w)) t = absurd t
  broken_by e end quiet (Some (Line k)) t = absurd t
  broken_by e end quiet (Some (Capture f)) t = inl refl
  broken_by e end quiet (Some (Block f)) t = inl refl
  broken_by e end quiet (Some ReadFault) t = absurd (t quiet)
  broken_by e end quiet (Some Undrawn) t = absurd t
  broken_by e end quiet (Some WriteFault) t = let same = one_end (stream.Broken e) stream.Whole end t.0.0 in cc
  broken_by e end quiet (Some NoMemory) t = inr refl
  broken_by e end quiet (Some (TooMany n)) t = let same = one_end (stream.Broken e) stream.TooMany end t in cc

  pub block_by : (e : NgBreak) → EndsStream limit (classic_of bytes) stream.Whole → break_of bytes ≡ Some e → NoneFailed old.read_faults new.read_faults → (fault : Option TopFault) → Tells limit bytes old new fault → (status_of fault ≡ 3) ⊎ (status_of fault ≡ 6)
  unfolding Tells
  block_by e end breaks quiet None t = let same = t.1 in cc
  block_by e end breaks quiet (Some (Words w)) t = absurd t
  block_by e end breaks quiet (Some (Line k)) t = absurd t
  block_by e end breaks quiet (Some (Capture f)) t = inl refl
  block_by e end breaks quiet (Some (Block f)) t = inl refl
  block_by e end breaks quiet (Some ReadFault) t = absurd (t quiet)
  block_by e end breaks quiet (Some Undrawn) t = absurd t
  block_by e end breaks quiet (Some WriteFault) t = let same = t.0.1 in cc
  block_by e end breaks quiet (Some NoMemory) t = inr refl
  block_by e end breaks quiet (Some (TooMany n)) t = let same = one_end stream.Whole stream.TooMany end t in cc

  pub too_many_by : EndsStream limit (classic_of bytes) stream.TooMany → NoneFailed old.read_faults new.read_faults → (fault : Option TopFault) → Tells limit bytes old new fault → (status_of fault ≡ 7) ⊎ (status_of fault ≡ 6)
  unfolding Tells
  too_many_by end quiet None t = let same = one_end stream.TooMany stream.Whole end t.0 in cc
  too_many_by end quiet (Some (Words w)) t = absurd t
  too_many_by end quiet (Some (Line k)) t = absurd t
  too_many_by end quiet (Some (Capture f)) t = let same = one_end stream.TooMany (stream.Broken f) end t in cc
  too_many_by end quiet (Some (Block f)) t = let same = one_end stream.TooMany stream.Whole end t.0 in cc
  too_many_by end quiet (Some ReadFault) t = absurd (t quiet)
  too_many_by end quiet (Some Undrawn) t = absurd t
  too_many_by end quiet (Some WriteFault) t = let same = one_end stream.TooMany stream.Whole end t.0.0 in cc
  too_many_by end quiet (Some NoMemory) t = inr refl
  too_many_by end quiet (Some (TooMany n)) t = inl refl
