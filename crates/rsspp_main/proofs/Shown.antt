-- The tables that a run leaves stand together for the packets that its report shows.
use Rattle.std.proofs.Common.{◌≡◌, ◌≢◌, ℕ, zero, suc, ◌+◌, ◌<◌, ◌≤◌, ◌==◌, Bool, true, false, cond, if◌then◌else◌, List, [], ◌∷◌, ◌++◌, length, map, take, get_or, inl, inr, refl, sym, ap, subst, ◌∙◌, arith, Option, None, Some, Result, Ok, Err, All, slice_get}
use Rattle.std.specs.Prelude.{IfOk}
use Rattle.std.proofs.lemmas.Bool.{cases_eq, eq-eqb, ne_eqb}
use Rattle.std.proofs.lemmas.List.{append-nil, take_all}
use Rattle.std.proofs.lemmas.List.Elements.{All-head, All-tail, filter-append}
use Rattle.std.proofs.lemmas.List.Sums.{sum_by-cons}
use Rattle.std.proofs.lemmas.Option.{slice_get-get_or, slice_get_within}
use Rattle.packet_fields.specs.declared.key.FlowKey.{FlowKey}
use Rattle.packet_fields.specs.declared.packet.PacketInfo.{PacketInfo}
use Rattle.pcap_reader.specs.Capture.{Captured}
use Rattle.pcap_reader.proofs.Records.{one_reading_only}
use Rattle.toeplitz.specs.declared.key.Key.{Key}
use Rattle.toeplitz.specs.Bucket.{bucket_of, packets_in, total_in}
use Rattle.toeplitz.specs.Packet.{packet_hash}
use Rattle.indirection.specs.Story.{Parcel, count_in}
use Rattle.bucket_table.specs.Table.{TableOf, StandsFor, empty_table}
use Rattle.flow_report.specs.Tables.{packets_at, StandTogether}
use Rattle.handover_words.specs.Stands.{StandsIn}
use Rattle.dispatch_loop.specs.Packets.{ArePackets, packet_of}
use Rattle.dispatch_loop.specs.Past.{AreNamed, parcel_of, parcels}
use Rattle.dispatch_loop.specs.Terms.{Terms, buckets_of}
use Rattle.rsspp_run.specs.Ends.{AreTablesOf}
use Rattle.rsspp_run.specs.OneTable.{AreAll}
use Rattle.rsspp_main.specs.Reports.{AreShown, bucket_by}

-- the bucket of a packet is that of its flow
same_at : (key : Key) (n b : ℕ) (ps : List PacketInfo) → packets_in key n b ps ≡ packets_at (bucket_by key n) b ps
unfolding packet_hash
same_at key n b ps = refl

bucket_is : (key : Key) (n : ℕ) (p : PacketInfo) → bucket_of key n p ≡ bucket_by key n p.key
unfolding packet_hash
bucket_is key n p = refl

-- the journal counts as many packets of a bucket as there are
one_more : (u : Bool) (c : ℕ) (p : PacketInfo) (ps : List PacketInfo) → c ≡ length ps → (if u then 1 else 0) + c ≡ length (cond u (p ∷ ps) ps)
one_more true c p ps e = omega (arith, e)
one_more false c p ps e = omega (arith, e)

pub count_there : (t : Terms) (b : ℕ) (ps : List PacketInfo) → count_in b (parcels t ps) ≡ total_in t.key (buckets_of t) b ps
count_there t b [] = refl
count_there t b (p ∷ ps) =
    sum_by-cons (λ (q : Parcel). if q.bucket == b then 1 else 0) (parcel_of t p) (parcels t ps)
    ∙ one_more (bucket_of t.key (buckets_of t) p == b) (count_in b (parcels t ps)) p (packets_in t.key (buckets_of t) b ps) (count_there t b ps)

-- packets that are all of one bucket
own : (f : FlowKey → ℕ) (b : ℕ) (ps : List PacketInfo) → All (λ (p : PacketInfo). f p.key ≡ b) ps → packets_at f b ps ≡ ps
own f b [] all = refl
own f b (p ∷ ps) all =
    ap (λ (u : Bool). cond u (p ∷ packets_at f b ps) (packets_at f b ps)) (eq-eqb (f p.key) b (All-head (λ (q : PacketInfo). f q.key ≡ b) p ps all))
    ∙ ap (λ (qs : List PacketInfo). p ∷ qs) (own f b ps (All-tail (λ (q : PacketInfo). f q.key ≡ b) p ps all))

none : (f : FlowKey → ℕ) (b c : ℕ) (ps : List PacketInfo) → b ≢ c → All (λ (p : PacketInfo). f p.key ≡ b) ps → packets_at f c ps ≡ []
none f b c [] other all = refl
none f b c (p ∷ ps) other all =
    let here = All-head (λ (q : PacketInfo). f q.key ≡ b) p ps all in
    ap (λ (u : Bool). cond u (p ∷ packets_at f c ps) (packets_at f c ps)) (ne_eqb (f p.key) c (λ h. other (sym here ∙ h)))
    ∙ none f b c ps other (All-tail (λ (q : PacketInfo). f q.key ≡ b) p ps all)

-- the packets of a whole capture under a limit are one list
pub one_list : (limit : ℕ) (bytes : List ℕ) (packets others : List PacketInfo) → ArePackets limit bytes packets → ArePackets limit bytes others → packets ≡ others
one_list limit bytes packets others a b =
    a.3 ∙ (ap (λ (z : List Captured). take limit (map packet_of z)) (one_reading_only bytes a.0 b.0 a.1 b.1 a.2 b.2).0 ∙ sym b.3)

-- the packets that are named are all packets
named_all : (named : List PacketInfo) (limit : ℕ) (left : Option (List ℕ)) (all : List PacketInfo) → AreNamed (Some named) limit left → AreAll limit left all → named ≡ all
named_all named limit None all h a = absurd h
named_all named limit (Some bytes) all h a = one_list limit bytes named all h a.1

module _ {S : Type 0} (opening : S) (after : S → PacketInfo → S) (t : Terms) (all : List PacketInfo) (tables : List (TableOf S)) where
  below : (flow : FlowKey) → 0 < buckets_of t → bucket_by t.key (buckets_of t) flow < buckets_of t
  below flow some = omega arith

  -- what a table stands for
  stands : (packets : Option (List PacketInfo)) → AreTablesOf opening after packets t all tables → (b : ℕ) (table : TableOf S) → slice_get tables b ≡ Some table → StandsIn opening after packets t.key (buckets_of t) b table
  stands packets are b table e = let one = are.each b table e in one.0.stands.stands one.1

  -- a table has as many packets as its bucket
  as_many : (packets : Option (List PacketInfo)) (are : AreTablesOf opening after packets t all tables) (b : ℕ) (table : TableOf S) (ps : List PacketInfo) → slice_get tables b ≡ Some table → StandsFor opening after ps table → length ps ≡ total_in t.key (buckets_of t) b all
  as_many packets are b table ps e s = sym s.done ∙ ((are.each b table e).0.done_is ∙ count_there t b all)

  -- where the packets are named
  named_shown : (named : List PacketInfo) → named ≡ all → 0 < buckets_of t → AreTablesOf opening after (Some named) t all tables → StandTogether opening after (bucket_by t.key (buckets_of t)) all tables
  named_shown named same some are = record {
    buckets = λ flow. let low = below flow some in let c = are.count in omega arith;
    each = λ b table e.
        let s = stands (Some named) are b table e in
        let long = as_many (Some named) are b table s.packets e s.stands in
        let first : s.packets ≡ take (length s.packets) (packets_in t.key (buckets_of t) b all) = subst (λ (ps : List PacketInfo). s.packets ≡ take (length s.packets) (packets_in t.key (buckets_of t) b ps)) same s.first in
        let whole : take (length s.packets) (packets_in t.key (buckets_of t) b all) ≡ packets_in t.key (buckets_of t) b all = take_all (length s.packets) (packets_in t.key (buckets_of t) b all) (omega (arith, long)) in
        subst (λ (ps : List PacketInfo). StandsFor opening after ps table) (first ∙ (whole ∙ same_at t.key (buckets_of t) b all)) s.stands;
  }

  -- where they aren't, the packets of the first k tables, one behind the other
  record Gathered (k : ℕ) : Type 0 where
    pub shown : List PacketInfo
    pub each : (b : ℕ) (table : TableOf S) → b < k → slice_get tables b ≡ Some table → StandsFor opening after (packets_at (bucket_by t.key (buckets_of t)) b shown) table
    pub more : (b : ℕ) → k ≤ b → packets_at (bucket_by t.key (buckets_of t)) b shown ≡ []

  gathered : AreTablesOf opening after None t all tables → (k : ℕ) → k ≤ length tables → Gathered k
  gathered are zero low = record { shown = []; each = λ b table less e. absurd (omega arith); more = λ b less. refl }
  gathered are (suc k) low =
      let g = gathered are k (omega arith) in
      let here = slice_get-get_or tables k (empty_table k) (omega arith) in
      let s = stands None are k (get_or tables k (empty_table k)) here in
      let f = bucket_by t.key (buckets_of t) in
      let of_bucket : All (λ (p : PacketInfo). f p.key ≡ k) s.packets = subst (λ (P : PacketInfo → Type 0). All P s.packets) (λ i p. bucket_is t.key (buckets_of t) p i ≡ k) s.of_bucket in
      let parts : (b : ℕ) → packets_at f b (g.shown ++ s.packets) ≡ packets_at f b g.shown ++ packets_at f b s.packets = λ b. filter-append (λ (p : PacketInfo). f p.key == b) g.shown s.packets in
      let others : (b : ℕ) → k ≢ b → packets_at f b (g.shown ++ s.packets) ≡ packets_at f b g.shown =
      λ b ne. parts b ∙ (ap (λ (ps : List PacketInfo). packets_at f b g.shown ++ ps) (none f k b s.packets ne of_bucket) ∙ append-nil (packets_at f b g.shown)) in
      let mine : packets_at f k (g.shown ++ s.packets) ≡ s.packets =
      parts k ∙ (ap (λ (ps : List PacketInfo). ps ++ packets_at f k s.packets) (g.more k (omega arith)) ∙ own f k s.packets of_bucket) in
      record {
        shown = g.shown ++ s.packets;
        each = λ b table less e. elim (cases_eq b k) [
          | inl same ↦
              let is : Some (get_or tables k (empty_table k)) ≡ Some table = sym here ∙ (ap (slice_get tables) (sym same) ∙ e) in
              let table_is : get_or tables k (empty_table k) ≡ table = cc in
              let list_is : packets_at f b (g.shown ++ s.packets) ≡ s.packets = ap (λ (c : ℕ). packets_at f c (g.shown ++ s.packets)) same ∙ mine in
              subst (λ (ps : List PacketInfo). StandsFor opening after ps table) (sym list_is) (subst (λ (u : TableOf S). StandsFor opening after s.packets u) table_is s.stands)
          | inr ne ↦ subst (λ (ps : List PacketInfo). StandsFor opening after ps table) (sym (others b (λ h. ne (sym h)))) (g.each b table (omega arith) e)
        ];
        more = λ b less. others b (omega arith) ∙ g.more b (omega arith);
      }

  gathered_shown : 0 < buckets_of t → (are : AreTablesOf opening after None t all tables) → Gathered (length tables) → (shown : List PacketInfo) × AreShown None t all shown × StandTogether opening after (bucket_by t.key (buckets_of t)) shown tables
  gathered_shown some are g =
      let f = bucket_by t.key (buckets_of t) in
      let together : StandTogether opening after f g.shown tables = record {
        buckets = λ flow. let low = below flow some in let c = are.count in omega arith;
        each = λ b table e. g.each b table (slice_get_within tables b table e) e;
      } in (
        g.shown,
        λ b less.
            let here = slice_get-get_or tables b (empty_table b) (let c = are.count in omega arith) in
            ap length (same_at t.key (buckets_of t) b g.shown) ∙ as_many None are b (get_or tables b (empty_table b)) (packets_at f b g.shown) here (together.each b (get_or tables b (empty_table b)) here),
        together,
      )

  -- the tables of a run stand together for the packets that its report shows
  pub shown_by : (packets : Option (List PacketInfo)) (limit : ℕ) (left : Option (List ℕ)) → 0 < buckets_of t → AreNamed packets limit left → AreAll limit left all → AreTablesOf opening after packets t all tables
      → (shown : List PacketInfo) × AreShown packets t all shown × StandTogether opening after (bucket_by t.key (buckets_of t)) shown tables
  shown_by None limit left some names whole are = gathered_shown some are (gathered are (length tables) (omega arith))
  shown_by (Some named) limit left some names whole are = (all, refl, named_shown named (named_all named limit left all names whole) some are)

-- none of them is short
pub none_short : {S : Type 0} (opening : S) (after : S → PacketInfo → S) (packets : Option (List PacketInfo)) (t : Terms) (all : List PacketInfo) (tables : List (TableOf S)) → AreTablesOf opening after packets t all tables → All (λ (table : TableOf S). table.short ≡ false) tables
none_short opening after packets t all tables are = λ b d low. (are.each b (get_or tables b d) (slice_get-get_or tables b d low)).1

-- what follows of the value of an answer
pub if_ok : {X E : Type 0} (r : Result X E) (P Q : X → Type 0) → ((x : X) → P x → Q x) → IfOk r P → IfOk r Q
if_ok (Ok x) P Q f h = f x h
if_ok (Err e) P Q f h = tt
