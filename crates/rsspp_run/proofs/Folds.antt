-- The packets of a capture, one by one, into one table.
use Rattle.std.proofs.Common.{◌≡◌, ℕ, ◌+◌, ◌≤◌, List, [], ◌∷◌, ◌++◌, length, map, refl, sym, ap, ◌∙◌, subst, arith, Bool, true, false, Option, None, Some, Ok, Err, IsTrue, length-append}
use Rattle.std.specs.Prelude.{IfSome}
use Rattle.std.proofs.Common.{inl}
use Rattle.std.proofs.lemmas.List.{append-nil}
use Rattle.packet_fields.specs.declared.packet.PacketInfo.{PacketInfo}
use Rattle.pcap_reader.specs.declared.fault.ReadError.{ReadError}
use Rattle.pcap_reader.specs.declared.fault.ReadError.TheVariants as reading
use Rattle.pcap_reader.specs.Capture.{Captured, Reads, Breaks, HeaderBreaks}
use Rattle.pcap_reader.proofs.Taken.{header_stopped, header_failed}
use Rattle.pcap_reader.specs.Reading.{Reading, still}
use Rattle.pcap_reader.specs.declared.reader.Progress.TheVariants.{Going}
use Rattle.pcap_reader.proofs.SoFar.{SoFar-start}
use Rattle.std.specs.Io.KnownBytes.{IsAtEnd}
use Rattle.dispatch_loop.specs.declared.dispatcher_end.DispatcherEnd.{DispatcherEnd}
use Rattle.dispatch_loop.specs.declared.dispatcher_end.DispatcherEnd.TheVariants as end
use Rattle.rsspp_run.specs.declared.run_end.RunFault.{RunFault}
use Rattle.rsspp_run.specs.declared.run_end.RunFault.TheVariants as faults
use Rattle.pcap_reader.specs.Stream.{HeaderRefused, StopsAtHeader, TakesHeader}
use Rattle.bucket_table.specs.Table.{TableOf, StandsFor}
use Rattle.dispatch_loop.specs.Packets.{packet_of}
use Rattle.dispatch_loop.specs.Past.{past, IsReading, IsOver}
use Rattle.dispatch_loop.proofs.Readings.{if_known}
use Rattle.rsspp_run.specs.OneTable.{AreAll, IsFilling, IsOneTable}
use Rattle.rsspp_run.specs.Refused.{Refuses, refusal, fault_of_error}

same_length : (rs : List Captured) → length (map packet_of rs) ≡ length rs
same_length [] = refl
same_length (r ∷ rs) = let e = same_length rs in omega arith

-- so many records were read as packets were worked
pub given_is : (limit : ℕ) (bytes : Option (List ℕ)) (all : List PacketInfo) (r : Reading) (left : Option (List ℕ)) → IsReading limit (past bytes all) None r left → r.given ≡ length all
given_is limit bytes all r left h =
    let e = ap length h.are in
    let g = h.given in
    omega (arith, same_length h.records, length-append all [])

-- the packet that was read is not one too many
pub few_then : (limit : ℕ) (bytes : Option (List ℕ)) (all : List PacketInfo) (q : PacketInfo) (r : Reading) (left : Option (List ℕ)) → IsReading limit (past bytes all) (Some q) r left → length all + 1 ≤ limit
few_then limit bytes all q r left h =
    let e = ap length h.are in
    let g = h.few in
    omega (arith, same_length h.records, length-append all (q ∷ []))

-- it was worked, and the reading goes on
pub after_one : (limit : ℕ) (bytes : Option (List ℕ)) (all : List PacketInfo) (q : PacketInfo) (r : Reading) (left : Option (List ℕ)) → IsReading limit (past bytes all) (Some q) r left → IsReading limit (past bytes (all ++ q ∷ [])) None r left
after_one limit bytes all q r left h = record { records = h.records; are = h.are ∙ sym (append-nil (all ++ q ∷ [])); given = h.given; few = h.few; going = h.going; so_far = h.so_far }

was_calm : (b c : Bool) → (IsTrue b → IsTrue c) → c ≡ false → b ≡ false
was_calm false c f e = refl
was_calm true c f e = let stays = f refl in cc

-- a table with a packet more
pub one_more : {S : Type 0} (opening : S) (after : S → PacketInfo → S) (all : List PacketInfo) (q : PacketInfo) (t u : TableOf S) → IsFilling opening after all t → u.done ≡ t.done + 1 → u.bucket ≡ t.bucket → u.custody ≡ t.custody → (IsTrue t.short → IsTrue u.short)
    → ((ps : List PacketInfo) → StandsFor opening after ps t → u.short ≡ false → StandsFor opening after (ps ++ q ∷ []) u) → IsFilling opening after (all ++ q ∷ []) u
one_more opening after all q t u h done bucket custody short stands =
    let d = h.done in
    record {
      bucket = bucket ∙ h.bucket;
      held = rw custody h.held;
      done = omega (arith, length-append all (q ∷ []));
      stands = λ calm. stands all (h.stands (was_calm t.short u.short short calm)) calm;
    }

-- a capture that breaks at its header has no record
pub refused_at_start : (limit : ℕ) (left now : Option (List ℕ)) (error : ReadError) → HeaderRefused left error → StopsAtHeader error left now → Refuses limit left now (fault_of_error error)
refused_at_start limit left now reading.NoMemory h stops = tt
refused_at_start limit left now reading.ReadFault h stops = ([], (omega arith, header_failed left now stops))
refused_at_start limit left now (reading.Broken e) h stops = (
  [],
  (
    omega arith,
    if_known left (λ bytes. HeaderBreaks bytes e) (λ bytes. Reads bytes [] (Breaks e)) (λ bytes b. inl (e, refl, refl, b)) h,
    header_stopped left now (reading.Broken e) stops,
  ),
)

-- the reading of a reader that was started
pub begun_reading : (limit : ℕ) (before now : Option (List ℕ)) (r : Reading) → TakesHeader before (still r now) r.form → (r.given ≡ 0) × (r.progress ≡ Going) → IsReading limit (past before []) None r now
begun_reading limit before now r header first = record { records = []; are = refl; given = first.0; few = omega arith; going = first.1; so_far = SoFar-start before (still r now) r.form header }

-- at the end of a capture the table stands for all its packets
pub both_known : (left : Option (List ℕ)) (P Q : List ℕ → Type 0) → IfSome left P → IfSome left Q → IfSome left (λ bytes. P bytes × Q bytes)
both_known None P Q p q = tt
both_known (Some bytes) P Q p q = (p, q)

pub whole_table : {S : Type 0} (opening : S) (after : S → PacketInfo → S) (limit : ℕ) (left now : Option (List ℕ)) (end : DispatcherEnd) (all : List PacketInfo) (t u : TableOf S) → refusal end ≡ Ok tt → IsFilling opening after all t → IsOver limit (past left all) None end now → u ≡ record t { custody = None } → u.short ≡ false
    → (x : List PacketInfo) × AreAll limit left x × IsOneTable opening after x u
whole_table opening after limit left now end.AtEnd all t u ok h o is calm =
    let stands = h.stands (sym (ap (λ (z : TableOf _). z.short) is) ∙ calm) in (
      all,
      both_known left _ _ o.ends o.all,
      record {
        bucket = ap (λ (z : TableOf _). z.bucket) is ∙ h.bucket;
        free = ap (λ (z : TableOf _). z.custody) is;
        whole = calm;
        stands = record { flows = ap (λ (z : TableOf _). z.flows) is ∙ stands.flows; done = ap (λ (z : TableOf _). z.done) is ∙ stands.done; bytes = ap (λ (z : TableOf _). z.bytes) is ∙ stands.bytes };
      },
    )
whole_table opening after limit left now (end.Refused e) all t u ok h o is calm = absurd (cc)
whole_table opening after limit left now (end.TooMany n) all t u ok h o is calm = absurd (cc)

pub read_to_end : (limit : ℕ) (left now : Option (List ℕ)) (end : DispatcherEnd) (all : List PacketInfo) → refusal end ≡ Ok tt → IsOver limit (past left all) None end now → IsAtEnd now
read_to_end limit left now end.AtEnd all ok o = o.leaves
read_to_end limit left now (end.Refused e) all ok o = absurd (cc)
read_to_end limit left now (end.TooMany n) all ok o = absurd (cc)

-- a stream that ended otherwise is refused so
pub refused_end : (limit : ℕ) (left now : Option (List ℕ)) (end : DispatcherEnd) (all : List PacketInfo) (fault : RunFault) → refusal end ≡ Err fault → IsOver limit (past left all) None end now → Refuses limit left now fault
refused_end limit left now end.AtEnd all fault err o = absurd (cc)
refused_end limit left now (end.Refused reading.NoMemory) all fault err o = absurd o.ends
refused_end limit left now (end.Refused reading.ReadFault) all fault err o = subst (Refuses limit left now) (let e : faults.ReadFault ≡ fault = cc in e) (o.stops (λ same. cc))
refused_end limit left now (end.Refused (reading.Broken e)) all fault err o = subst (Refuses limit left now) (let q : faults.Capture e ≡ fault = cc in q) (o.stops (λ same. cc))
refused_end limit left now (end.TooMany n) all fault err o = subst (Refuses limit left now) (let q : faults.TooMany n ≡ fault = cc in q) (o.stops (λ same. cc))
