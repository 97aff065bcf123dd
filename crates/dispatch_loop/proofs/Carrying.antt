-- The packet that is held is the one of its bucket at its place.
use Rattle.std.proofs.Common.{◌≡◌, ℕ, ◌+◌, ◌-◌, ◌<◌, ◌≤◌, List, [], ◌∷◌, ◌++◌, length, map, take, filter, append_assoc, refl, ap, ◌∙◌, arith, Bool, true, false, cond, if◌then◌else◌, ◌==◌, eq-eqb, Option, None, Some, slice_get}
use Rattle.std.proofs.Math.Nat.{mod-lt}
use Rattle.std.proofs.Math.Seq.{take-append-add}
use Rattle.std.proofs.lemmas.List.{map-append}
use Rattle.indirection.proofs.Tests.{by_test}
use Rattle.indirection.proofs.Steps.{count_in-total}
use Rattle.packet_fields.specs.declared.packet.PacketInfo.{PacketInfo}
use Rattle.toeplitz.specs.declared.key.Key.{Key}
use Rattle.toeplitz.specs.Packet.{packet_hash}
use Rattle.toeplitz.specs.Bucket.{bucket_of, packets_in, total_in}
use Rattle.toeplitz.proofs.Parts.{part-place}
use Rattle.pcap_reader.specs.declared.form.Form.{Form}
use Rattle.pcap_reader.specs.Capture.{Captured}
use Rattle.pcap_reader.specs.Stream.{SoFar}
use Rattle.pcap_reader.specs.Reading.{Reading, still}
use Rattle.pcap_reader.proofs.SoFar.{SoFar-begins}
use Rattle.pcap_reader.proofs.Records.{one_reading_only}
use Rattle.indirection.specs.Story.{Parcel, count_in}
use Rattle.packet_pool.specs.declared.cell.Facts.{Facts}
use Rattle.handover_core.specs.declared.item.Kind.{Kind}
use Rattle.handover_core.specs.declared.item.Kind.TheVariants.{First, Next}
use Rattle.handover_core.specs.Dispatch.{kind_at}
use Rattle.core_queue.specs.Cells.{IsAtPlace, CarriesBy}
use Rattle.dispatch_loop.specs.Terms.{Terms, buckets_of}
use Rattle.dispatch_loop.specs.Packets.{packet_of}
use Rattle.dispatch_loop.specs.Past.{Past, parcel_of, parcels, AreNamed, IsReading}

-- how many packets of a bucket there are, by the parcels
same_count : {A B : Type 0} (t : Bool) (x : A) (y : B) (xs : List A) (ys : List B) → length xs ≡ length ys → length (cond t (x ∷ xs) xs) ≡ length (cond t (y ∷ ys) ys)
same_count true x y xs ys e = omega arith
same_count false x y xs ys e = e

totals : (t : Terms) (b : ℕ) (ps : List PacketInfo) → length (filter (λ (q : Parcel). q.bucket == b) (parcels t ps)) ≡ total_in t.key (buckets_of t) b ps
totals t b [] = refl
totals t b (p ∷ ps) = same_count (bucket_of t.key (buckets_of t) p == b) (parcel_of t p) p (filter (λ (q : Parcel). q.bucket == b) (parcels t ps)) (packets_in t.key (buckets_of t) b ps) (totals t b ps)

pub count-parcels : (t : Terms) (b : ℕ) (ps : List PacketInfo) → count_in b (parcels t ps) ≡ total_in t.key (buckets_of t) b ps
count-parcels t b ps = count_in-total b (parcels t ps) ∙ totals t b ps

same_length : (rs : List Captured) → length (map packet_of rs) ≡ length rs
same_length [] = refl
same_length (r ∷ rs) = let e = same_length rs in omega arith

-- the records that were read are the first of all
front_of_all : (limit : ℕ) (rs more all_records : List Captured) (all ps : List PacketInfo) → all_records ≡ rs ++ more → length rs ≤ limit → all ≡ take limit (map packet_of all_records) → map packet_of rs ≡ ps → all ≡ ps ++ take (limit - length rs) (map packet_of more)
front_of_all limit rs more all_records all ps e few is are =
    is ∙ (ap (λ (z : List Captured). take limit (map packet_of z)) e ∙ (ap (λ (z : List PacketInfo). take limit z) (map-append packet_of rs more)
    ∙ (ap (λ (n : ℕ). take n (map packet_of rs ++ map packet_of more)) size ∙ (take-append-add (map packet_of rs) (map packet_of more) (limit - length rs)
    ∙ ap (λ (z : List PacketInfo). z ++ take (limit - length rs) (map packet_of more)) are)))) where
      size : limit ≡ length (map packet_of rs) + (limit - length rs)
      size = let l = same_length rs in omega arith

-- the packet behind those that were sent
pub next-is : (all : List PacketInfo) (limit : ℕ) (bytes : Option (List ℕ)) (ps : List PacketInfo) (info : PacketInfo) (form : Form) (records : List Captured) (rest : Option (List ℕ)) → AreNamed (Some all) limit bytes → map packet_of records ≡ ps ++ info ∷ [] → length records ≤ limit → SoFar bytes form records rest
    → (behind : List PacketInfo) × (all ≡ ps ++ info ∷ behind)
next-is all limit None ps info form records rest named are few so_far = absurd named
next-is all limit (Some bytes) ps info form records rest named are few so_far =
    let begins = SoFar-begins (Some bytes) rest form records so_far in
    let same = one_reading_only bytes named.0 (records ++ begins.0) named.1 begins.1 named.2 begins.2 in
    let e = front_of_all limit records begins.0 named.0 all (ps ++ info ∷ []) same.0 few named.3 are in
    (take (limit - length records) (map packet_of begins.0), e ∙ append_assoc ps (info ∷ []) (take (limit - length records) (map packet_of begins.0)))

pub at-place : (packets : Option (List PacketInfo)) (limit : ℕ) (p : Past) (info : PacketInfo) (reader : Reading) (left : Option (List ℕ)) (key : Key) (buckets place : ℕ) (kind : Kind) → AreNamed packets limit p.bytes → IsReading limit p (Some info) reader left
    → place ≡ total_in key buckets (bucket_of key buckets info) p.packets → IsAtPlace packets key buckets (record { info = info; bucket = bucket_of key buckets info; place = place; kind = kind })
at-place None limit p info reader left key buckets place kind named h e = tt
at-place (Some all) limit p info reader left key buckets place kind named h e =
    let next = next-is all limit p.bytes p.packets info reader.form h.records (still reader left) named h.are h.few h.so_far in
    ap (λ (z : List PacketInfo). slice_get (packets_in key buckets (bucket_of key buckets info) z) place) next.1
    ∙ (ap (λ (n : ℕ). slice_get (packets_in key buckets (bucket_of key buckets info) (p.packets ++ info ∷ next.0)) n) e
    ∙ part-place (λ (q : PacketInfo). bucket_of key buckets q == bucket_of key buckets info) p.packets next.0 info (eq-eqb _ _ refl))

pub carries : (packets : Option (List PacketInfo)) (key : Key) (buckets s k : ℕ) (f : Facts) → bucket_of key buckets f.info ≡ f.bucket → IsAtPlace packets key buckets f → CarriesBy packets key buckets (kind_at s k) f
carries packets key buckets s k f e at = by_test k s (λ t. CarriesBy packets key buckets (if t then First else Next) f) (λ _. (e, at)) (λ _. (e, at))

pub bucket-below : (key : Key) (buckets : ℕ) (info : PacketInfo) → 0 < buckets → bucket_of key buckets info < buckets
bucket-below key buckets info h = mod-lt (packet_hash key info) h
