-- Parties before their first turn.
use Rattle.std.proofs.Common.{◌≡◌, ℕ, zero, suc, List, [], ◌∷◌, map, length, Option, Some, sym, ap, ◌∙◌, subst, arith}
use Rattle.std.specs.Prelude.{slice_get}
use Rattle.packet_fields.specs.declared.packet.PacketInfo.{PacketInfo}
use Rattle.toeplitz.specs.Bucket.{bucket_hash}
use Rattle.toeplitz.specs.declared.key.Key.{Key}
use Rattle.pcap_reader.specs.Reading.{Reading, still}
use Rattle.pcap_reader.specs.Stream.{TakesHeader}
use Rattle.pcap_reader.specs.declared.reader.Progress.TheVariants.{Going}
use Rattle.pcap_reader.proofs.SoFar.{SoFar-start}
use Rattle.core_queue.specs.declared.history.LaneHistory.{LaneHistory}
use Rattle.core_queue.specs.RuledLane.{SharedLane, AtLane}
use Rattle.packet_pool.specs.RuledPool.{SharedPool, AtPool}
use Rattle.handover_words.specs.WordShelf.{SharedShelf, AtShelf}
use Rattle.load_meter.specs.Meter.{SharedMeter, AtMeter}
use Rattle.worker_loop.specs.Fresh as workers
use Rattle.dispatch_loop.specs.Accepted.{IsAccepted}
use Rattle.dispatch_loop.specs.OptionsView.{OptionsView}
use Rattle.dispatch_loop.specs.Fresh.{AreFresh, IsFreshLane}
use Rattle.dispatch_loop.specs.Past.{AreNamed}
use Rattle.dispatch_loop.specs.Terms.{Terms, terms_of}
use Rattle.sweep_tests.specs.Opening.{IsForDispatcher}

abbrev history_of : AtLane → LaneHistory
history_of a = a.history

-- ends that are made of fresh passes and seats are fresh
pub ends_fresh : (core : ℕ) (key k : Key) (buckets n : ℕ) → key ≡ k → buckets ≡ n → (lane l : AtLane) → lane ≡ l → (shelf s : AtShelf) → shelf ≡ s → (meter m : AtMeter) → meter ≡ m
    → workers.AreFresh core (bucket_hash k n) l.history s.history m.history → workers.AreFresh core (bucket_hash key buckets) lane.history shelf.history meter.history
ends_fresh core key k buckets n ki ni lane l li shelf s si meter m mi fresh =
    subst (λ (z : Key × ℕ × AtLane × AtShelf × AtMeter). workers.AreFresh core (bucket_hash z.0 z.1) z.2.history z.3.history z.4.history) (λ i. (sym ki i, sym ni i, sym li i, sym si i, sym mi i)) fresh

new_histories : (t : Terms) (l k : AtLane) → IsFreshLane t l.history → IsFreshLane t k.history → (c : ℕ) (e : LaneHistory) → slice_get (map history_of (l ∷ k ∷ [])) c ≡ Some e → IsFreshLane t e
new_histories t l k of_l of_k zero e at = let is : l.history ≡ e = cc in subst (IsFreshLane t) is of_l
new_histories t l k of_l of_k (suc zero) e at = let is : k.history ≡ e = cc in subst (IsFreshLane t) is of_k
new_histories t l k of_l of_k (suc (suc c)) e at = absurd (cc)

module _ (packets : Option (List PacketInfo)) (o : OptionsView) (cost : PacketInfo → ℕ) (accepted : IsAccepted o) (two : o.cores ≡ 2) (p q : SharedLane) (h : SharedShelf) (w : SharedPool) (n : SharedMeter) (l k : AtLane) (s : AtShelf) (c : AtPool) (m : AtMeter)
    (passes : IsForDispatcher (terms_of cost o) p q h w n l k s c m) where
  pub fresh_party : (lanes : List AtLane) → lanes ≡ l ∷ k ∷ [] → (shelf : AtShelf) → shelf ≡ s → (meter : AtMeter) → meter ≡ m → (r : Reading) (bytes left : Option (List ℕ)) → AreNamed packets o.packets bytes
      → TakesHeader bytes (still r left) r.form → (r.given ≡ 0) × (r.progress ≡ Going) → AreFresh packets bytes (terms_of cost o) (map history_of lanes) shelf.history meter.history r left
  fresh_party lanes li shelf si meter mi r bytes left named header first =
      subst (λ (z : List AtLane × AtShelf × AtMeter). AreFresh packets bytes (terms_of cost o) (map history_of z.0) z.1.history z.2.history r left) (λ i. (sym li i, sym si i, sym mi i)) (record {
        named = named;
        wide = sym (accepted.cores ∙ two);
        each = new_histories (terms_of cost o) l k passes.first_fresh passes.second_fresh;
        words = passes.words;
        numbers = passes.numbers;
        given = first.0;
        going = first.1;
        so_far = SoFar-start bytes (still r left) r.form header;
      })
