-- Each event keeps what is true of each bucket.
use Rattle.std.proofs.Common.{◌≡◌, ◌≢◌, ℕ, ◌+◌, ◌*◌, ◌-◌, ◌<◌, List, ◌∷◌, ◌++◌, length, Bool, true, false, refl, sym, ap, ◌∙◌, subst, ⊎_elim, Some, None, arith}
use Rattle.std.proofs.lemmas.Bool.{cases_eq}
use Rattle.std.proofs.lemmas.List.{length-set}
use Rattle.std.specs.Prelude.{slice_index, slice_set}
use Rattle.handover_core.specs.declared.item.Kind.TheVariants.{Mark}
use Rattle.handover_core.specs.declared.item.Item.{Item}
use Rattle.handover_core.specs.declared.item.Item.TheVariants.{Of, End}
use Rattle.handover_core.specs.declared.event.Event.TheVariants.{Send, Look, Move, Place, SendEnd, Take, Claim, Release}
use Rattle.handover_core.specs.Legal.{Legal}
use Rattle.handover_core.specs.State.{Leaving, MachineView, bucket_at, core_at, sent_of}
use Rattle.handover_core.specs.declared.bucket_state.BucketState.{BucketState}
use Rattle.handover_core.specs.Machine.{end_sent, step, post, took, claimed, released}
use Rattle.handover_core.proofs.Enabled.{IsEnabled}
use Rattle.handover_core.specs.Bucket.{piece, IsBucket}
use Rattle.handover_core.proofs.Turns.{after_send, after_move, after_place, after_take, after_end, after_claim, after_release}
use Rattle.handover_core.specs.Sound.{pieces, bucket_snapshot, IsShaped, IsStreamed, AreBuckets}
use Rattle.handover_core.proofs.Frames.{pieces-here, end_sent-end}
use Rattle.handover_core.proofs.Cases.{by_take, by_claim, by_release}
use Rattle.handover_core.proofs.Ends.{legal-end_last, ended-quiet, not-taken-end}
use Rattle.handover_core.proofs.Buckets.{is_bucket-same, take-keeps, end-keeps}
use Rattle.handover_core.proofs.Stages.{send-keeps, move-keeps, place-keeps, claim-keeps, claim-first, release-keeps, no-release}
use Rattle.handover_core.proofs.BucketSnapshots.{send-here, send-other, send_end-same, bucket-here, bucket-other, entry-other, look-here, place-here, move-here, move-other}
use Rattle.handover_core.proofs.WorkerSnapshots.{take-here, take-other, take_end-same, claim-here, claim-other, release-here, release-other}

-- the bucket of the event, and another
by_bucket : (P : ℕ → Type 0) (b k : ℕ) → P b → (b ≢ k → P k) → P k
by_bucket P b k here other = ⊎_elim (λ (e : b ≡ k). subst P e here) (λ (ne : b ≡ k → ⊥). other ne) (cases_eq b k)

-- what is asked of a seen word
IsSeen : MachineView → ℕ → Type 0
IsSeen m b = end_sent m ≡ false → (bucket_at m b).seen ≡ 2 * (bucket_at m b).start + 2 → (bucket_at m b).word ≡ 2 * (bucket_at m b).start + 2

seen-same : (m w : MachineView) (b : ℕ) → bucket_at w b ≡ bucket_at m b → (end_sent w ≡ false → end_sent m ≡ false) → IsSeen m b → IsSeen w b
unfolding IsSeen
seen-same m w b e o s n = let P : BucketState → Type 0 = λ x. x.seen ≡ 2 * x.start + 2 → x.word ≡ 2 * x.start + 2 in subst P (sym e) (s (o n))

pub send-buckets : (m : MachineView) → IsShaped m → IsStreamed m → IsEnabled m Send → end_sent m ≡ false → AreBuckets m → AreBuckets (step m Send)
unfolding IsSeen
send-buckets m h s e o a = record {
  buckets = λ b l. by_bucket (λ k. k < length m.buckets → IsBucket (bucket_snapshot (step m Send) k)) q b
      (λ lq. is_bucket-same (after_send (bucket_snapshot m q)) (bucket_snapshot (step m Send) q) (send-here m e.0 owner) (send-keeps (bucket_snapshot m q) (not-taken-end m (bucket_at m q).owner s o) (a.buckets q lq)))
      (λ ne lb. is_bucket-same (bucket_snapshot m b) (bucket_snapshot (step m Send) b) (send-other m b e.0 owner ne) (a.buckets b lb)) l;
  seen = λ b l. seen-same m (step m Send) b refl (λ _. o) (a.seen b l);
} where
  q : ℕ
  q = slice_index m.packets m.sent

  owner : (bucket_at m q).owner < length m.cores
  owner = h.owners q (h.packets m.sent e.0)

pub look-buckets : (m : MachineView) (b : ℕ) → IsEnabled m (Look b) → AreBuckets m → AreBuckets (step m (Look b))
unfolding IsSeen
look-buckets m b e a = record {
  buckets = λ k l. by_bucket (λ k. k < length m.buckets → IsBucket (bucket_snapshot (step m (Look b)) k)) b k
      (λ lb. is_bucket-same (bucket_snapshot m b) (bucket_snapshot (step m (Look b)) b) (look-here m b e) (a.buckets b lb))
      (λ ne lk. is_bucket-same (bucket_snapshot m k) (bucket_snapshot (step m (Look b)) k) (entry-other m b s1 k ne) (a.buckets k lk)) (within k l);
  seen = λ k l. by_bucket (λ k. k < length m.buckets → IsSeen (step m (Look b)) k) b k
      (λ lb n. let P : BucketState → Type 0 = λ x. x.seen ≡ 2 * x.start + 2 → x.word ≡ 2 * x.start + 2 in subst P (sym (bucket-here m b s1 e)) (λ x. x))
      (λ ne lk. seen-same m (step m (Look b)) k (bucket-other m b s1 k ne) (λ n. n) (a.seen k lk)) (within k l);
} where
  s1 : BucketState
  s1 = record (bucket_at m b) { seen = (bucket_at m b).word }

  within : (k : ℕ) → k < length (slice_set m.buckets b s1) → k < length m.buckets
  within k l = subst (λ (n : ℕ). k < n) (length-set m.buckets b s1) l

pub place-buckets : (m : MachineView) (b to : ℕ) → IsEnabled m (Place b to) → AreBuckets m → AreBuckets (step m (Place b to))
unfolding IsSeen
place-buckets m b to e a = record {
  buckets = λ k l. by_bucket (λ k. k < length m.buckets → IsBucket (bucket_snapshot (step m (Place b to)) k)) b k
      (λ lb. is_bucket-same (after_place (bucket_snapshot m b) to) (bucket_snapshot (step m (Place b to)) b) (place-here m b to e.0) (place-keeps (bucket_snapshot m b) to e.3 (a.buckets b lb)))
      (λ ne lk. is_bucket-same (bucket_snapshot m k) (bucket_snapshot (step m (Place b to)) k) (entry-other m b s1 k ne) (a.buckets k lk)) (within k l);
  seen = λ k l. by_bucket (λ k. k < length m.buckets → IsSeen (step m (Place b to)) k) b k
      (λ lb n. let P : BucketState → Type 0 = λ x. x.seen ≡ 2 * x.start + 2 → x.word ≡ 2 * x.start + 2 in subst P (sym (bucket-here m b s1 e.0)) (a.seen b lb n))
      (λ ne lk. seen-same m (step m (Place b to)) k (bucket-other m b s1 k ne) (λ n. n) (a.seen k lk)) (within k l);
} where
  s1 : BucketState
  s1 = record (bucket_at m b) { owner = to }

  within : (k : ℕ) → k < length (slice_set m.buckets b s1) → k < length m.buckets
  within k l = subst (λ (n : ℕ). k < n) (length-set m.buckets b s1) l

pub move-buckets : (m : MachineView) (b to : ℕ) → IsShaped m → IsStreamed m → IsEnabled m (Move b to) → AreBuckets m → AreBuckets (step m (Move b to))
unfolding IsSeen
move-buckets m b to h s e a = record {
  buckets = λ k l. by_bucket (λ k. k < length m.buckets → IsBucket (bucket_snapshot (step m (Move b to)) k)) b k
      (λ lb. is_bucket-same (after_move (bucket_snapshot m b) to) (bucket_snapshot (step m (Move b to)) b) (move-here m b to lb (h.owners b lb) (a.buckets b lb).joins)
      (move-keeps (bucket_snapshot m b) to (not-taken-end m (bucket_at m b).owner s e.7) (a.seen b lb e.7 e.4) e.2 (a.buckets b lb)))
      (λ ne lk. is_bucket-same (bucket_snapshot m k) (bucket_snapshot (step m (Move b to)) k) (move-other m b to k (h.owners b e.0) ne) (a.buckets k lk)) (within k l);
  seen = λ k l. by_bucket (λ k. k < length m.buckets → IsSeen (step m (Move b to)) k) b k
      (λ lb n. let P : BucketState → Type 0 = λ x. x.seen ≡ 2 * x.start + 2 → x.word ≡ 2 * x.start + 2 in subst P (sym (bucket-here m2 b s1 e.0)) (λ i. let f = e.4 in let g = e.3 in absurd (omega arith)))
      (λ ne lk. seen-same m (step m (Move b to)) k (bucket-other m2 b s1 k ne) (λ n. e.7) (a.seen k lk)) (within k l);
} where
  m2 : MachineView
  m2 = post (record m { free = m.free - 1; moves = m.moves - 1 }) (bucket_at m b).owner (Of Mark b (sent_of m b))

  s1 : BucketState
  s1 = record (bucket_at m b) { owner = to; start = sent_of m b }

  within : (k : ℕ) → k < length (slice_set m.buckets b s1) → k < length m.buckets
  within k l = subst (λ (n : ℕ). k < n) (length-set m.buckets b s1) l

false-true : (a : Bool) → a ≡ false → a ≡ true → ⊥
false-true a f t = cc

pub send_end-buckets : (m : MachineView) (c : ℕ) → IsEnabled m (SendEnd c) → AreBuckets m → AreBuckets (step m (SendEnd c))
unfolding IsSeen
send_end-buckets m c e a = record {
  buckets = λ k l. is_bucket-same (bucket_snapshot m k) (bucket_snapshot (step m (SendEnd c)) k) (send_end-same m c k e.0) (a.buckets k l);
  seen = λ k l n. absurd (false-true (end_sent (step m (SendEnd c))) n (end_sent-end m.dispatched c));
}

pub take-buckets : (m : MachineView) (c : ℕ) → IsShaped m → IsStreamed m → IsEnabled m (Take c) → AreBuckets m → AreBuckets (step m (Take c))
take-buckets m c h s e a = by_take AreBuckets m c e.1
    (λ kind b place q i. record {
      buckets = λ k l. by_bucket (λ k. k < length m.buckets → IsBucket (bucket_snapshot (took m c (Of kind b place ∷ q)) k)) b k
          (λ lb. is_bucket-same (after_take (bucket_snapshot m b) c (piece kind place) (pieces b q)) (bucket_snapshot (took m c (Of kind b place ∷ q)) b)
          (take-here m c kind b place q e.0 (subst (λ (n : ℕ). b < n) (sym (h.hands c e.0)) lb))
          (take-keeps (bucket_snapshot m b) c (piece kind place) (pieces b q) (ap (pieces b) i ∙ pieces-here b kind place q) (a.buckets b lb)))
          (λ ne lk. is_bucket-same (bucket_snapshot m k) (bucket_snapshot (took m c (Of kind b place ∷ q)) k) (take-other m c kind b place q k e.0 i ne) (a.buckets k lk)) l;
      seen = a.seen;
    })
    (λ q i. record {
      buckets = λ k l. is_bucket-same (after_end (bucket_snapshot m k) c) (bucket_snapshot (took m c (End ∷ q)) k) (take_end-same m c q k e.0 i)
          (end-keeps (bucket_snapshot m k) c (ap (pieces k) i ∙ ap (pieces k) (legal-end_last (core_at m c).taken q (subst (λ (z : List Item). Legal z) (sym (s.streams c) ∙ ap (λ (z : List Item). (core_at m c).taken ++ z) i) (s.legal c)))) (a.buckets k l));
      seen = a.seen;
    })

pub claim-buckets : (m : MachineView) (c b : ℕ) → IsShaped m → IsStreamed m → IsEnabled m (Claim c b) → AreBuckets m → AreBuckets (step m (Claim c b))
unfolding IsSeen
claim-buckets m c b h s e a = by_claim AreBuckets m c b e.2
    (λ first rest i w. record {
      buckets = λ k l. by_bucket (λ k. k < length m.buckets → IsBucket (bucket_snapshot (claimed m c b (first ∷ rest)) k)) b k
          (λ lb. is_bucket-same (after_claim (bucket_snapshot m b) c first (first ∷ rest)) (bucket_snapshot (claimed m c b (first ∷ rest)) b) (claim-here m c b first rest e.0 lb (subst (λ (n : ℕ). b < n) (sym (h.hands c e.0)) lb))
          (claim-keeps (bucket_snapshot m b) c first rest i w (λ t. ap (pieces b) (ended-quiet m c s t)) (a.buckets b lb)))
          (λ ne lk. is_bucket-same (bucket_snapshot m k) (bucket_snapshot (claimed m c b (first ∷ rest)) k) (claim-other m c b first rest k e.0 ne) (a.buckets k lk)) (within first k l);
      seen = λ k l. by_bucket (λ k. k < length m.buckets → IsSeen (claimed m c b (first ∷ rest)) k) b k
          (λ lb n. let P : BucketState → Type 0 = λ x. x.seen ≡ 2 * x.start + 2 → x.word ≡ 2 * x.start + 2 in
          subst P (sym (bucket-here m b (s1 first) e.1)) (λ _. ap (λ (x : ℕ). 2 * x + 2) (claim-first (bucket_snapshot m b) c first rest i w (a.buckets b lb))))
          (λ ne lk. seen-same m (claimed m c b (first ∷ rest)) k (bucket-other m b (s1 first) k ne) (λ n. n) (a.seen k lk)) (within first k l);
    }) where
      s1 : ℕ → BucketState
      s1 first = record (bucket_at m b) { word = 2 * first + 2; shelf = None }

      within : (first k : ℕ) → k < length (slice_set m.buckets b (s1 first)) → k < length m.buckets
      within first k l = subst (λ (n : ℕ). k < n) (length-set m.buckets b (s1 first)) l

pub release-buckets : (m : MachineView) (c b : ℕ) → IsShaped m → IsStreamed m → IsEnabled m (Release c b) → AreBuckets m → AreBuckets (step m (Release c b))
unfolding IsSeen
release-buckets m c b h s e a = by_release AreBuckets m c b e.2
    (λ start done i. record {
      buckets = λ k l. by_bucket (λ k. k < length m.buckets → IsBucket (bucket_snapshot (released m c b (Leaving start done)) k)) b k
          (λ lb. is_bucket-same (after_release (bucket_snapshot m b) c done) (bucket_snapshot (released m c b (Leaving start done)) b) (release-here m c b start done e.0 lb (subst (λ (n : ℕ). b < n) (sym (h.hands c e.0)) lb))
          (release-keeps (bucket_snapshot m b) c start done i (a.buckets b lb)))
          (λ ne lk. is_bucket-same (bucket_snapshot m k) (bucket_snapshot (released m c b (Leaving start done)) k) (release-other m c b start done k e.0 ne) (a.buckets k lk)) (within done k l);
      seen = λ k l. by_bucket (λ k. k < length m.buckets → IsSeen (released m c b (Leaving start done)) k) b k
          (λ lb n. let P : BucketState → Type 0 = λ x. x.seen ≡ 2 * x.start + 2 → x.word ≡ 2 * x.start + 2 in
          subst P (sym (bucket-here m b (s1 done) e.1)) (λ g. absurd (no-release (bucket_snapshot m b) c start done (not-taken-end m (bucket_at m b).owner s n) (a.seen b lb n g) i (a.buckets b lb))))
          (λ ne lk. seen-same m (released m c b (Leaving start done)) k (bucket-other m b (s1 done) k ne) (λ n. n) (a.seen k lk)) (within done k l);
    }) where
      s1 : ℕ → BucketState
      s1 done = record (bucket_at m b) { word = 2 * done + 1; shelf = Some done }

      within : (done k : ℕ) → k < length (slice_set m.buckets b (s1 done)) → k < length m.buckets
      within done k l = subst (λ (n : ℕ). k < n) (length-set m.buckets b (s1 done)) l
