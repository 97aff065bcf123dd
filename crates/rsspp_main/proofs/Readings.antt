-- From the clauses of the reader to those of the whole reading.
use Rattle.std.proofs.Common.{◌≡◌, ℕ, ◌+◌, ◌≤◌, List, [], ◌∷◌, ◌++◌, length, map, refl, sym, subst, arith, Option, None, Some, IfSome}
use Rattle.pcap_reader.specs.declared.fault.ReadError.{ReadError}
use Rattle.pcap_reader.specs.declared.fault.ReadError.TheVariants as reading
use Rattle.pcap_reader.specs.Capture.{Captured, AtEnd, Breaks, Reads, HeaderBreaks}
use Rattle.pcap_reader.specs.Stream.{HeaderRefused}
use Rattle.std.proofs.Common.{◌⊎◌, inl, inr}
use Rattle.std.specs.Io.KnownBytes.{IsAtEnd}
use Rattle.std.proofs.Common.{Result, Ok, Err}
use Rattle.pcap_reader.specs.declared.form.Form.{Form}
use Rattle.pcap_reader.specs.declared.reader.Progress.TheVariants.{Going}
use Rattle.pcap_reader.specs.Stream.{SoFar, Comes, Stops, StopsAtHeader, MOST_AHEAD}
use Rattle.pcap_reader.specs.Reading.{Reading, still, Proceeds, Advances}
use Rattle.pcap_reader.proofs.SoFar.{SoFar-end, SoFar-push, SoFar-break, SoFar-begins, left_at_end}
use Rattle.pcap_reader.proofs.Taken.{SoFar-no_more, SoFar-stopped, SoFar-failed, header_stopped, header_failed}
use Rattle.packet_fields.specs.declared.packet.PacketInfo.{PacketInfo}
use Rattle.std.proofs.lemmas.List.{map-append}
use Rattle.dispatch_loop.specs.Packets.{packet_of, packet_answer}
use Rattle.dispatch_loop.proofs.Readings.{if_known, packets_none, packets_some, packets_err, advanced}
use Rattle.rsspp_main.specs.declared.fault.TopFault.{TopFault}
use Rattle.rsspp_main.specs.declared.fault.TopFault.TheVariants.{NoMemory}
use Rattle.dispatch_loop.specs.Stops.{HasRecordMore}
use Rattle.rsspp_main.specs.Stops.{top_fault, StopsWith}

-- what is wrong before the first record, unless it is memory before the first read
pub stopped_at_start : (limit : ℕ) (left now : Option (List ℕ)) (error : ReadError) (Before : Type 0) → (error ≡ reading.NoMemory → Before) → HeaderRefused left error → StopsAtHeader error left now
    → ((top_fault error ≡ NoMemory) × Before) ⊎ StopsWith limit left now [] (top_fault error)
stopped_at_start limit left now reading.NoMemory Before before h stops = inl (refl, before refl)
stopped_at_start limit left now reading.ReadFault Before before h stops = inr (omega arith, header_failed left now stops)
stopped_at_start limit left now (reading.Broken e) Before before h stops = inr (
  omega arith,
  if_known left (λ bytes. HeaderBreaks bytes e) (λ bytes. Reads bytes [] (Breaks e)) (λ bytes b. inl (e, refl, refl, b)) h,
  header_stopped left now (reading.Broken e) stops,
)

pub at_start : (limit : ℕ) (left now : Option (List ℕ)) (fault : TopFault) (Before : Type 0) → ((fault ≡ NoMemory) × Before) ⊎ StopsWith limit left now [] fault → ((fault ≡ NoMemory) × Before) ⊎ ((records : List Captured) × StopsWith limit left now records fault)
at_start limit left now fault Before (inl lack) = inl lack
at_start limit left now fault Before (inr s) = inr ([], s)

-- the end of the capture
pub next_none : (left b n : Option (List ℕ)) (old new : Reading) (a : Result (Option Captured) ReadError) (rs : List Captured) → Ok None ≡ packet_answer a → old.progress ≡ Going → Proceeds old new b n a → SoFar left old.form rs (still old b) → IfSome left (λ bytes. Reads bytes rs AtEnd) × IsAtEnd n
next_none left b n old new a rs e going h s =
    let comes = subst (λ (x : Result (Option Captured) ReadError). Comes old.form old.given (still old b) (still new n) x) (packets_none a e) (advanced old new b n a going h).comes in
    (SoFar-end left (still old b) old.form rs s comes.0, left_at_end n new.ahead comes.1)

-- one packet more
pub record OneMore (left n : Option (List ℕ)) (old new : Reading) (rs : List Captured) (p : PacketInfo) (r : Captured) : Type 0 where
  pub packet : p ≡ packet_of r
  pub so_far : SoFar left new.form (rs ++ r ∷ []) (still new n)
  pub given : new.given ≡ old.given + 1
  pub going : new.progress ≡ Going
  pub ahead : length new.ahead ≤ MOST_AHEAD

pub next_some : (left b n : Option (List ℕ)) (old new : Reading) (a : Result (Option Captured) ReadError) (rs : List Captured) (p : PacketInfo) → Ok (Some p) ≡ packet_answer a → old.progress ≡ Going → Proceeds old new b n a → SoFar left old.form rs (still old b) → (r : Captured) × OneMore left n old new rs p r
next_some left b n old new a rs p e going h s =
    let is = packets_some a p e in
    let r = is.0 in
    let moved = subst (λ (x : Result (Option Captured) ReadError). Advances old new b n x) is.1 (advanced old new b n a going h) in (
      r,
      record {
        packet = is.2;
        so_far = subst (λ (f : Form). SoFar left f (rs ++ r ∷ []) (still new n)) (sym moved.form) (SoFar-push left (still old b) (still new n) old.form rs r s moved.comes);
        given = moved.given;
        going = moved.progress;
        ahead = moved.ahead;
      },
    )

-- the error of the reader
pub stopped_later : (limit : ℕ) (left b n : Option (List ℕ)) (old new : Reading) (a : Result (Option Captured) ReadError) (rs : List Captured) (error : ReadError) → Err error ≡ packet_answer a → old.progress ≡ Going → Proceeds old new b n a → SoFar left old.form rs (still old b) → old.given ≡ length rs → length rs ≤ limit → StopsWith limit left n rs (top_fault error)
stopped_later limit left b n old new a rs error e going h s given few =
    let moved = subst (λ (x : Result (Option Captured) ReadError). Advances old new b n x) (packets_err a error e) (advanced old new b n a going h) in
    by_error error moved.comes moved.ahead
  where
    by_error : (error : ReadError) → Comes old.form old.given (still old b) (still new n) (Err error) → Stops old.form error (still old b) n → StopsWith limit left n rs (top_fault error)
    by_error reading.NoMemory comes ahead = absurd comes
    by_error reading.ReadFault comes ahead = (few, SoFar-failed left (still old b) n old.form rs s ahead)
    by_error (reading.Broken x) comes ahead = (few, SoFar-break left (still old b) old.form rs old.given x s comes given, SoFar-stopped left (still old b) n old.form rs (reading.Broken x) s ahead)

-- a record more
pub goes_on : (left n : Option (List ℕ)) (old new : Reading) (rs : List Captured) (p : PacketInfo) (r : Captured) → OneMore left n old new rs p r → HasRecordMore left n rs
goes_on left n old new rs p r one =
    (r, SoFar-begins left (still new n) new.form (rs ++ r ∷ []) one.so_far, SoFar-no_more left n new.form (rs ++ r ∷ []) new.ahead one.so_far one.ahead)

-- the packets of records and one more
pub packets-push : (rs : List Captured) (r : Captured) → map packet_of (rs ++ r ∷ []) ≡ map packet_of rs ++ packet_of r ∷ []
packets-push rs r = map-append packet_of rs (r ∷ [])

pub same_length : (rs : List Captured) → length (map packet_of rs) ≡ length rs
same_length [] = refl
same_length (r ∷ rs) = let e = same_length rs in omega arith
