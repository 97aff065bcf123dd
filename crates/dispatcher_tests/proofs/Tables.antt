-- A table in which one packet more is worked.
use Rattle.std.proofs.Common.{◌≡◌, ℕ, Bool, true, false, List, [], ◌∷◌, ◌++◌, None, IsTrue, refl, ◌∙◌}
use Rattle.std.proofs.lemmas.List.Elements.{All-push}
use Rattle.packet_fields.specs.declared.packet.PacketInfo.{PacketInfo}
use Rattle.toeplitz.specs.declared.key.Key.{Key}
use Rattle.toeplitz.specs.Bucket.{bucket_of}
use Rattle.flow_work.specs.declared.count.Counted.{Counted}
use Rattle.flow_work.specs.Count.{no_packets, counted}
use Rattle.bucket_table.specs.Table.{TableOf, StandsFor}
use Rattle.handover_words.specs.Stands.{Stands}

was_not : (s s' : Bool) → (IsTrue s → IsTrue s') → s' ≡ false → s ≡ false
was_not false s' stays is = refl
was_not true s' stays is = let yes : s' ≡ true = stays refl in absurd (cc)

pub one_more : (key : Key) (buckets : ℕ) (x : PacketInfo) (t t' : TableOf Counted) → bucket_of key buckets x ≡ 0 → t'.bucket ≡ t.bucket → (IsTrue t.short → IsTrue t'.short)
    → ((packets : List PacketInfo) → StandsFor no_packets counted packets t → t'.short ≡ false → StandsFor no_packets counted (packets ++ x ∷ []) t')
    → Stands no_packets counted None key buckets 0 t → Stands no_packets counted None key buckets 0 t'
one_more key buckets x t t' of same stays more h = record {
  bucket = same ∙ h.bucket;
  stands = λ ample. let s = h.stands (was_not t.short t'.short stays ample) in record {
    packets = s.packets ++ x ∷ [];
    stands = more s.packets s.stands ample;
    of_bucket = All-push (λ p. bucket_of key buckets p ≡ 0) s.packets x s.of_bucket of;
    first = tt;
  };
}
