-- The next record or the end, by the clauses of the reader.
use Rattle.std.proofs.Common.{◌≡◌, ℕ, ◌<◌, ◌≤◌, List, [], ◌∷◌, ◌++◌, length, map, take, refl, sym, ap, ◌∙◌, subst, arith, Option, None, Some, Result, Ok, Err, length-append, append_assoc}
use Rattle.std.specs.Prelude.{IfSome}
use Rattle.std.proofs.lemmas.List.{map-append, append-nil, take_all, take-append-le}
use Rattle.packet_fields.specs.declared.packet.PacketInfo.{PacketInfo}
use Rattle.pcap_reader.specs.declared.fault.ReadError.{ReadError}
use Rattle.pcap_reader.specs.declared.fault.ReadError.TheVariants.{NoMemory, ReadFault, Broken}
use Rattle.pcap_reader.specs.declared.form.Form.{Form}
use Rattle.pcap_reader.specs.declared.reader.Progress.{Progress}
use Rattle.pcap_reader.specs.declared.reader.Progress.TheVariants.{Going}
use Rattle.pcap_reader.specs.Capture.{Captured, Ending, AtEnd, Breaks, Reads}
use Rattle.pcap_reader.specs.Stream.{SoFar, Comes, Stops}
use Rattle.pcap_reader.specs.Reading.{Reading, still, Proceeds, ProceedsFrom, Advances}
use Rattle.pcap_reader.proofs.SoFar.{SoFar-end, SoFar-push, SoFar-break, SoFar-begins, left_at_end}
use Rattle.pcap_reader.proofs.Taken.{SoFar-no_more, SoFar-stopped, SoFar-failed}
use Rattle.dispatch_loop.specs.declared.dispatcher_end.DispatcherEnd.TheVariants as end
use Rattle.dispatch_loop.specs.Past.{Past, IsReading, IsOver}
use Rattle.dispatch_loop.specs.Packets.{packet_of, packet_answer, ArePackets}

-- a fact of known bytes that follows from another
pub if_known : (left : Option (List ℕ)) (P Q : List ℕ → Type 0) → ((bytes : List ℕ) → P bytes → Q bytes) → IfSome left P → IfSome left Q
if_known None P Q f h = tt
if_known (Some bytes) P Q f h = f bytes h

pub packets_none : (a : Result (Option Captured) ReadError) → Ok None ≡ packet_answer a → a ≡ Ok None
packets_none (Ok None) e = refl
packets_none (Ok (Some r)) e = cc
packets_none (Err x) e = cc

pub packets_some : (a : Result (Option Captured) ReadError) (p : PacketInfo) → Ok (Some p) ≡ packet_answer a → (r : Captured) × (a ≡ Ok (Some r)) × (p ≡ packet_of r)
packets_some (Ok None) p e = absurd (cc)
packets_some (Ok (Some r)) p e = (r, refl, cc)
packets_some (Err x) p e = absurd (cc)

pub packets_err : (a : Result (Option Captured) ReadError) (error : ReadError) → Err error ≡ packet_answer a → a ≡ Err error
packets_err (Ok None) error e = cc
packets_err (Ok (Some r)) error e = cc
packets_err (Err x) error e = cc

-- a reader that is going on advances
pub advanced : (old new : Reading) (b n : Option (List ℕ)) (a : Result (Option Captured) ReadError) → old.progress ≡ Going → Proceeds old new b n a → Advances old new b n a
advanced old new b n a going h = subst (λ (p : Progress). ProceedsFrom p old new b n a) going h

-- a call of a reader that goes on
pub record Calls (old new : Reading) (b n : Option (List ℕ)) (result : Result (Option PacketInfo) ReadError) : Type 0 where
  pub answer : Result (Option Captured) ReadError
  pub is : result ≡ packet_answer answer
  pub proceeds : Proceeds old new b n answer

pub same_length : (rs : List Captured) → length (map packet_of rs) ≡ length rs
same_length [] = refl
same_length (r ∷ rs) = let e = same_length rs in omega arith

-- the packets that were sent are those of the records that were read
are : (limit : ℕ) (p : Past) (old : Reading) (b : Option (List ℕ)) (h : IsReading limit p None old b) → map packet_of h.records ≡ p.packets
are limit p old b h = h.are ∙ append-nil p.packets

all_of : (limit : ℕ) (p : Past) (rs : List Captured) (ending : Ending) (bytes : List ℕ) → map packet_of rs ≡ p.packets → length rs ≤ limit → Reads bytes rs ending → ArePackets limit bytes p.packets
all_of limit p rs ending bytes e few r = (rs, ending, r, sym e ∙ sym (take_all limit (map packet_of rs) (let s = same_length rs in omega arith)))

-- a packet more
pub read_packet : (limit : ℕ) (p : Past) (old new : Reading) (b n : Option (List ℕ)) (q : PacketInfo) → IsReading limit p None old b → Calls old new b n (Ok (Some q)) → old.given < limit → IsReading limit p (Some q) new n
read_packet limit p old new b n q h c few =
    let is = packets_some c.answer q c.is in
    let r = is.0 in
    let moved = subst (λ (x : Result (Option Captured) ReadError). Advances old new b n x) is.1 (advanced old new b n c.answer h.going c.proceeds) in
    let given = h.given in let more = moved.given in
    record {
      records = h.records ++ r ∷ [];
      are = map-append packet_of h.records (r ∷ []) ∙ (ap (λ (z : List PacketInfo). z ++ packet_of r ∷ []) (are limit p old b h) ∙ ap (λ (z : PacketInfo). p.packets ++ z ∷ []) (sym is.2));
      given = omega (arith, length-append h.records (r ∷ []));
      few = omega (arith, length-append h.records (r ∷ []));
      going = moved.progress;
      so_far = subst (λ (f : Form). SoFar p.bytes f (h.records ++ r ∷ []) (still new n)) (sym moved.form) (SoFar-push p.bytes (still old b) (still new n) old.form h.records r h.so_far moved.comes);
    }

-- a packet too many
pub read_too_many : (limit : ℕ) (p : Past) (old new : Reading) (b n : Option (List ℕ)) (q : PacketInfo) → IsReading limit p None old b → Calls old new b n (Ok (Some q)) → limit ≤ old.given → IsOver limit p None (end.TooMany limit) n
read_too_many limit p old new b n q h c many =
    let is = packets_some c.answer q c.is in
    let r = is.0 in
    let moved = subst (λ (x : Result (Option Captured) ReadError). Advances old new b n x) is.1 (advanced old new b n c.answer h.going c.proceeds) in
    let given = h.given in let few = h.few in
    let full : length h.records ≡ limit = omega arith in
    let pushed : SoFar p.bytes new.form (h.records ++ r ∷ []) (still new n) = subst (λ (f : Form). SoFar p.bytes f (h.records ++ r ∷ []) (still new n)) (sym moved.form) (SoFar-push p.bytes (still old b) (still new n) old.form h.records r h.so_far moved.comes) in
    let begins = SoFar-begins p.bytes (still new n) new.form (h.records ++ r ∷ []) pushed in
    record {
      held_is = refl;
      ends = (refl, if_known p.bytes _ _ (λ bytes w. ((h.records ++ r ∷ []) ++ w.0, w.1, w.2, omega (arith, length-append (h.records ++ r ∷ []) w.0, length-append h.records (r ∷ [])))) begins);
      leaves = tt;
      all = if_known p.bytes _ _ (λ bytes w. ((h.records ++ r ∷ []) ++ w.0, w.1, w.2, too_many_packets limit p h.records r w.0 (are limit p old b h) full)) begins;
      stops = λ refused. (h.records, (refl, full, (r, begins, SoFar-no_more p.bytes n new.form (h.records ++ r ∷ []) new.ahead pushed moved.ahead)));
    }
  where
    too_many_packets : (limit : ℕ) (p : Past) (rs : List Captured) (r : Captured) (more : List Captured) → map packet_of rs ≡ p.packets → length rs ≡ limit → p.packets ≡ take limit (map packet_of ((rs ++ r ∷ []) ++ more))
    too_many_packets limit p rs r more e full = let l = same_length rs in sym (ap (λ (z : List PacketInfo). take limit z) (map-append packet_of (rs ++ r ∷ []) more ∙ (ap (λ (z : List PacketInfo). z ++ map packet_of more) (map-append packet_of rs (r ∷ [])) ∙ append_assoc (map packet_of rs) (packet_of r ∷ []) (map packet_of more))) ∙ (take-append-le limit (map packet_of rs) (packet_of r ∷ map packet_of more) (omega arith) ∙ (take_all limit (map packet_of rs) (omega arith) ∙ e)))

-- the end of the capture
pub read_end : (limit : ℕ) (p : Past) (old new : Reading) (b n : Option (List ℕ)) → IsReading limit p None old b → Calls old new b n (Ok None) → IsOver limit p None end.AtEnd n
read_end limit p old new b n h c =
    let comes = subst (λ (x : Result (Option Captured) ReadError). Comes old.form old.given (still old b) (still new n) x) (packets_none c.answer c.is) (advanced old new b n c.answer h.going c.proceeds).comes in
    let reads = SoFar-end p.bytes (still old b) old.form h.records h.so_far comes.0 in
    record {
      held_is = refl;
      ends = if_known p.bytes _ _ (λ bytes r. (h.records, r, h.few)) reads;
      leaves = left_at_end n new.ahead comes.1;
      all = if_known p.bytes _ _ (λ bytes r. all_of limit p h.records AtEnd bytes (are limit p old b h) h.few r) reads;
      stops = λ refused. absurd (refused refl);
    }

-- an error of the reader
pub read_error : (limit : ℕ) (p : Past) (old new : Reading) (b n : Option (List ℕ)) (e : ReadError) → IsReading limit p None old b → Calls old new b n (Err e) → IsOver limit p None (end.Refused e) n
read_error limit p old new b n e h c =
    let moved = subst (λ (x : Result (Option Captured) ReadError). Advances old new b n x) (packets_err c.answer e c.is) (advanced old new b n c.answer h.going c.proceeds) in
    by_error e moved.comes moved.ahead
  where
    by_error : (e : ReadError) → Comes old.form old.given (still old b) (still new n) (Err e) → Stops old.form e (still old b) n → IsOver limit p None (end.Refused e) n
    by_error NoMemory comes stopped = absurd comes
    by_error ReadFault comes stopped = record {
      held_is = refl;
      ends = tt;
      leaves = tt;
      all = tt;
      stops = λ refused. (h.records, (h.few, SoFar-failed p.bytes (still old b) n old.form h.records h.so_far stopped));
    }
    by_error (Broken x) comes stopped =
        let reads = SoFar-break p.bytes (still old b) old.form h.records old.given x h.so_far comes h.given in
        record {
          held_is = refl;
          ends = if_known p.bytes _ _ (λ bytes r. (h.records, r, h.few)) reads;
          leaves = tt;
          all = if_known p.bytes _ _ (λ bytes r. all_of limit p h.records (Breaks x) bytes (are limit p old b h) h.few r) reads;
          stops = λ refused. (h.records, (h.few, reads, SoFar-stopped p.bytes (still old b) n old.form h.records (Broken x) h.so_far stopped));
        }
