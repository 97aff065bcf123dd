-- Each event adds the places that it works, and so does a run.
use Rattle.std.proofs.Common.{◌≡◌, ◌≢◌, ℕ, ◌+◌, ◌*◌, ◌<◌, List, [], ◌∷◌, ◌++◌, append_assoc, length, Bool, true, false, if◌then◌else◌, ◌==◌, refl, sym, ap, ◌∙◌, subst, ⊎_elim, Some, None, arith}
use Rattle.std.proofs.lemmas.Bool.{cases_eq}
use Rattle.std.proofs.lemmas.List.{append-nil, length-set}
use Rattle.std.specs.Prelude.{slice_index}
use Rattle.indirection.proofs.Tests.{by_test}
use Rattle.handover_core.specs.declared.item.Kind.{Kind}
use Rattle.handover_core.specs.declared.item.Item.{Item}
use Rattle.handover_core.specs.declared.item.Item.TheVariants.{Of, End}
use Rattle.handover_core.specs.declared.event.Event.{Event}
use Rattle.handover_core.specs.declared.event.Event.TheVariants.{Send, Look, Move, Place, SendEnd, Take, Claim, Release}
use Rattle.handover_core.specs.State.{Hand, Away, Waiting, Held, Leaving, MachineView, bucket_at, core_at, hand_at, sent_of}
use Rattle.handover_core.specs.Machine.{step, took, leave, waiting_places, has_end, claimed, claimed_hand, released, shelf_done}
use Rattle.handover_core.specs.Bucket.{places_from, BucketSnapshot}
use Rattle.handover_core.proofs.Turns.{after_send, after_move, after_place, after_end}
use Rattle.handover_core.specs.Runs.{Runs}
use Rattle.handover_core.specs.Sound.{bucket_snapshot, AreOf, IsSound}
use Rattle.handover_core.specs.Promises.{IsHeldOnce, worked_of, worked_at, worked_by, worked_in, worked}
use Rattle.handover_core.proofs.Enabled.{IsEnabled, is_enabled}
use Rattle.handover_core.proofs.Cases.{by_take, by_claim, by_release}
use Rattle.handover_core.proofs.Pieces.{length-places_from}
use Rattle.handover_core.proofs.Buckets.{upd-here}
use Rattle.handover_core.proofs.BucketSnapshots.{send-here, send-other, send_end-same, entry-other, look-here, place-here, move-here, move-other}
use Rattle.handover_core.proofs.WorkerSnapshots.{take-other, take_end-same, claim-here, claim-other, release-here, release-other}
use Rattle.handover_core.proofs.OneHand.{held-once, take-meets, claim-meets}
use Rattle.handover_core.proofs.Steps.{step-sound}
use Rattle.handover_core.proofs.Worked.{Has, has-leave, has-held, has-held-leaving, IsIdle, idle-same, idle-hand, worked-idle, worked-shelf, worked-has, adds-none, adds-some, take-worked}

idle-refl : (v : BucketSnapshot) → IsIdle v v
idle-refl v = record { shelf = refl; hands = λ c d f. f }

-- a state in which the bucket's table is as it was
idle-adds : (m w : MachineView) (b : ℕ) (more : List ℕ) → IsHeldOnce m → IsHeldOnce w → b < length m.buckets → length w.buckets ≡ length m.buckets → IsIdle (bucket_snapshot m b) (bucket_snapshot w b) → more ≡ [] → places_from 0 (worked m b) ++ more ≡ places_from 0 (worked w b)
idle-adds m w b more o p l e i f = adds-none (worked m b) (worked w b) more (worked-idle m w b o p l (subst (λ (n : ℕ). b < n) (sym e) l) i) f

here-or : (P : Type 0) (k b : ℕ) → (k ≡ b → P) → (k ≢ b → P) → P
here-or P k b f g = ⊎_elim (λ (e : k ≡ b). f e) (λ (ne : k ≡ b → ⊥). g ne) (cases_eq k b)

send-idle : (m : MachineView) (b : ℕ) → IsSound m → IsEnabled m Send → IsIdle (bucket_snapshot m b) (bucket_snapshot (step m Send) b)
send-idle m b s i = here-or (IsIdle (bucket_snapshot m b) (bucket_snapshot (step m Send) b)) q b
    (λ e. subst (λ (k : ℕ). IsIdle (bucket_snapshot m k) (bucket_snapshot (step m Send) k)) e (idle-same (bucket_snapshot m q) (after_send (bucket_snapshot m q)) (bucket_snapshot (step m Send) q) (send-here m i.0 owner) (record { shelf = refl; hands = λ c d f. f })))
    (λ ne. idle-same (bucket_snapshot m b) (bucket_snapshot m b) (bucket_snapshot (step m Send) b) (send-other m b i.0 owner ne) (idle-refl (bucket_snapshot m b))) where
      q : ℕ
      q = slice_index m.packets m.sent

      owner : (bucket_at m q).owner < length m.cores
      owner = s.shaped.owners q (s.shaped.packets m.sent i.0)

look-idle : (m : MachineView) (k b : ℕ) → IsEnabled m (Look k) → IsIdle (bucket_snapshot m b) (bucket_snapshot (step m (Look k)) b)
look-idle m k b i = here-or (IsIdle (bucket_snapshot m b) (bucket_snapshot (step m (Look k)) b)) k b
    (λ e. subst (λ (x : ℕ). IsIdle (bucket_snapshot m x) (bucket_snapshot (step m (Look k)) x)) e (idle-same (bucket_snapshot m k) (bucket_snapshot m k) (bucket_snapshot (step m (Look k)) k) (look-here m k i) (idle-refl (bucket_snapshot m k))))
    (λ ne. idle-same (bucket_snapshot m b) (bucket_snapshot m b) (bucket_snapshot (step m (Look k)) b) (entry-other m k (record (bucket_at m k) { seen = (bucket_at m k).word }) b ne) (idle-refl (bucket_snapshot m b)))

place-idle : (m : MachineView) (k to b : ℕ) → IsEnabled m (Place k to) → IsIdle (bucket_snapshot m b) (bucket_snapshot (step m (Place k to)) b)
place-idle m k to b i = here-or (IsIdle (bucket_snapshot m b) (bucket_snapshot (step m (Place k to)) b)) k b
    (λ e. subst (λ (x : ℕ). IsIdle (bucket_snapshot m x) (bucket_snapshot (step m (Place k to)) x)) e (idle-same (bucket_snapshot m k) (after_place (bucket_snapshot m k) to) (bucket_snapshot (step m (Place k to)) k) (place-here m k to i.0) (record { shelf = refl; hands = λ c d f. f })))
    (λ ne. idle-same (bucket_snapshot m b) (bucket_snapshot m b) (bucket_snapshot (step m (Place k to)) b) (entry-other m k (record (bucket_at m k) { owner = to }) b ne) (idle-refl (bucket_snapshot m b)))

move-idle : (m : MachineView) (k to b : ℕ) → IsSound m → IsEnabled m (Move k to) → IsIdle (bucket_snapshot m b) (bucket_snapshot (step m (Move k to)) b)
move-idle m k to b s i = here-or (IsIdle (bucket_snapshot m b) (bucket_snapshot (step m (Move k to)) b)) k b
    (λ e. subst (λ (x : ℕ). IsIdle (bucket_snapshot m x) (bucket_snapshot (step m (Move k to)) x)) e (idle-same (bucket_snapshot m k) (after_move (bucket_snapshot m k) to) (bucket_snapshot (step m (Move k to)) k)
    (move-here m k to i.0 (s.shaped.owners k i.0) (s.buckets.buckets k i.0).joins) (record { shelf = refl; hands = λ c d f. f })))
    (λ ne. idle-same (bucket_snapshot m b) (bucket_snapshot m b) (bucket_snapshot (step m (Move k to)) b) (move-other m k to b (s.shaped.owners k i.0) ne) (idle-refl (bucket_snapshot m b)))

-- what a worker's event adds

took-adds : (m : MachineView) (c : ℕ) (kind : Kind) (k place : ℕ) (q : List Item) (b : ℕ) → IsSound m → IsHeldOnce (took m c (Of kind k place ∷ q)) → c < length m.cores → b < length m.buckets → (core_at m c).queue ≡ Of kind k place ∷ q
    → places_from 0 (worked m b) ++ (if k == b then worked_of (hand_at m c b) (Of kind k place) else []) ≡ places_from 0 (worked (took m c (Of kind k place ∷ q)) b)
took-adds m c kind k place q b s p l lb i = by_test k b (λ t. places_from 0 (worked m b) ++ (if t then worked_of (hand_at m c b) (Of kind k place) else []) ≡ places_from 0 (worked (took m c (Of kind k place ∷ q)) b))
    (λ e. subst (λ (x : ℕ). places_from 0 (worked m x) ++ worked_of (hand_at m c x) (Of kind k place) ≡ places_from 0 (worked (took m c (Of kind k place ∷ q)) x)) e
    (take-worked m c kind k place q (held-once m s) p l lk (subst (λ (n : ℕ). k < n) (sym (s.shaped.hands c l)) lk) (take-meets m s c (Of kind k place) q i)))
    (λ ne. idle-adds m (took m c (Of kind k place ∷ q)) b [] (held-once m s) p lb refl (idle-same (bucket_snapshot m b) (bucket_snapshot m b) (bucket_snapshot (took m c (Of kind k place ∷ q)) b) (take-other m c kind k place q b l i ne) (idle-refl (bucket_snapshot m b))) refl) where
      lk : k < length m.buckets
      lk = (subst (λ (z : List Item). AreOf (length m.buckets) z) i (s.shaped.items c)).0

end-adds : (m : MachineView) (c : ℕ) (q : List Item) (b : ℕ) (t : Bool) → IsSound m → IsHeldOnce (took m c (End ∷ q)) → c < length m.cores → b < length m.buckets → (core_at m c).queue ≡ End ∷ q
    → places_from 0 (worked m b) ++ (if t then worked_of (hand_at m c b) End else []) ≡ places_from 0 (worked (took m c (End ∷ q)) b)
end-adds m c q b t s p l lb i = idle-adds m (took m c (End ∷ q)) b (if t then worked_of (hand_at m c b) End else []) (held-once m s) p lb refl
    (idle-same (bucket_snapshot m b) (after_end (bucket_snapshot m b) c) (bucket_snapshot (took m c (End ∷ q)) b) (take_end-same m c q b l i)
    (record { shelf = refl; hands = λ x d f. idle-hand (bucket_snapshot m b) c (leave (hand_at m c b)) (λ d g. has-leave (hand_at m c b) d g) x d f })) (none t (hand_at m c b)) where
      none : (t : Bool) (h : Hand) → (if t then worked_of h End else []) ≡ []
      none true Away = refl
      none true (Waiting ps) = refl
      none true (Held a d) = refl
      none true (Leaving a d) = refl
      none false h = refl

claim-adds : (m : MachineView) (c k first : ℕ) (rest : List ℕ) (b : ℕ) → IsSound m → IsHeldOnce (claimed m c k (first ∷ rest)) → c < length m.cores → k < length m.buckets → b < length m.buckets → hand_at m c k ≡ Waiting (first ∷ rest) → (bucket_at m k).word ≡ 2 * first + 1
    → places_from 0 (worked m b) ++ (if k == b then waiting_places (hand_at m c k) else []) ≡ places_from 0 (worked (claimed m c k (first ∷ rest)) b)
claim-adds m c k first rest b s p l lk lb i w = by_test k b (λ t. places_from 0 (worked m b) ++ (if t then waiting_places (hand_at m c k) else []) ≡ places_from 0 (worked (claimed m c k (first ∷ rest)) b))
    (λ e. subst (λ (x : ℕ). places_from 0 (worked m x) ++ waiting_places (hand_at m c k) ≡ places_from 0 (worked (claimed m c k (first ∷ rest)) x)) e
    (let before = worked-shelf m k f.0 f.2 in
    let z : waiting_places (hand_at m c k) ≡ places_from f.0 f.1 = ap waiting_places f.3 in
    let n : length (first ∷ rest) ≡ f.1 = ap (λ (h : Hand). length (waiting_places h)) (sym i ∙ f.3) ∙ length-places_from f.0 f.1 in
    let d : shelf_done (bucket_at m k).shelf ≡ f.0 = ap shelf_done f.2 in
    let after : worked (claimed m c k (first ∷ rest)) k ≡ shelf_done (bucket_at m k).shelf + length (first ∷ rest) =
    worked-has (claimed m c k (first ∷ rest)) k c (shelf_done (bucket_at m k).shelf + length (first ∷ rest)) p (subst (λ (n : ℕ). k < n) (sym (length-set m.buckets k (record (bucket_at m k) { word = 2 * first + 2; shelf = None }))) lk)
    (subst (Has (shelf_done (bucket_at m k).shelf + length (first ∷ rest))) (sym ((claim-here m c k first rest l lk (subst (λ (n : ℕ). k < n) (sym (s.shaped.hands c l)) lk)).hand c ∙ upd-here (λ j. hand_at m j k) c (claimed_hand m c k (first ∷ rest))))
    (has-held (has_end (core_at m c).taken) first (shelf_done (bucket_at m k).shelf + length (first ∷ rest)))) in
    adds-some (worked m k) (worked (claimed m c k (first ∷ rest)) k) f.1 (waiting_places (hand_at m c k)) (z ∙ ap (λ (x : ℕ). places_from x f.1) (sym before)) (omega arith)))
    (λ ne. idle-adds m (claimed m c k (first ∷ rest)) b [] (held-once m s) p lb (length-set m.buckets k (record (bucket_at m k) { word = 2 * first + 2; shelf = None }))
    (idle-same (bucket_snapshot m b) (bucket_snapshot m b) (bucket_snapshot (claimed m c k (first ∷ rest)) b) (claim-other m c k first rest b l ne) (idle-refl (bucket_snapshot m b))) refl) where
      f : (done n : ℕ) × ((bucket_at m k).shelf ≡ Some done) × (hand_at m c k ≡ Waiting (places_from done n))
      f = claim-meets (bucket_snapshot m k) c first rest i w (s.buckets.buckets k lk)

release-adds : (m : MachineView) (c k start done b : ℕ) → IsSound m → IsHeldOnce (released m c k (Leaving start done)) → c < length m.cores → k < length m.buckets → b < length m.buckets → hand_at m c k ≡ Leaving start done
    → places_from 0 (worked m b) ++ [] ≡ places_from 0 (worked (released m c k (Leaving start done)) b)
release-adds m c k start done b s p l lk lb i = here-or (places_from 0 (worked m b) ++ [] ≡ places_from 0 (worked (released m c k (Leaving start done)) b)) k b
    (λ e. subst (λ (x : ℕ). places_from 0 (worked m x) ++ [] ≡ places_from 0 (worked (released m c k (Leaving start done)) x)) e
    (adds-none (worked m k) (worked (released m c k (Leaving start done)) k) []
    (worked-shelf (released m c k (Leaving start done)) k done (release-here m c k start done l lk (subst (λ (n : ℕ). k < n) (sym (s.shaped.hands c l)) lk)).shelf
    ∙ sym (worked-has m k c done (held-once m s) lk (subst (Has done) (sym i) (has-held-leaving start done)))) refl))
    (λ ne. idle-adds m (released m c k (Leaving start done)) b [] (held-once m s) p lb (length-set m.buckets k (record (bucket_at m k) { word = 2 * done + 1; shelf = Some done }))
    (idle-same (bucket_snapshot m b) (bucket_snapshot m b) (bucket_snapshot (released m c k (Leaving start done)) b) (release-other m c k start done b l ne) (idle-refl (bucket_snapshot m b))) refl)

-- each event
event-adds : (m : MachineView) (e : Event) (b : ℕ) → IsSound m → IsEnabled m e → b < length m.buckets → places_from 0 (worked m b) ++ worked_by b m e ≡ places_from 0 (worked (step m e) b)
event-adds m Send b s i l = idle-adds m (step m Send) b [] (held-once m s) (held-once (step m Send) (step-sound m Send i s)) l refl (send-idle m b s i) refl
event-adds m (Look k) b s i l = idle-adds m (step m (Look k)) b [] (held-once m s) (held-once (step m (Look k)) (step-sound m (Look k) i s)) l (length-set m.buckets k (record (bucket_at m k) { seen = (bucket_at m k).word })) (look-idle m k b i) refl
event-adds m (Move k to) b s i l = idle-adds m (step m (Move k to)) b [] (held-once m s) (held-once (step m (Move k to)) (step-sound m (Move k to) i s)) l (length-set m.buckets k (record (bucket_at m k) { owner = to; start = sent_of m k })) (move-idle m k to b s i) refl
event-adds m (Place k to) b s i l = idle-adds m (step m (Place k to)) b [] (held-once m s) (held-once (step m (Place k to)) (step-sound m (Place k to) i s)) l (length-set m.buckets k (record (bucket_at m k) { owner = to })) (place-idle m k to b i) refl
event-adds m (SendEnd c) b s i l = idle-adds m (step m (SendEnd c)) b [] (held-once m s) (held-once (step m (SendEnd c)) (step-sound m (SendEnd c) i s)) l refl
    (idle-same (bucket_snapshot m b) (bucket_snapshot m b) (bucket_snapshot (step m (SendEnd c)) b) (send_end-same m c b i.0) (idle-refl (bucket_snapshot m b))) refl
event-adds m (Take c) b s i l = by_take (λ w. IsHeldOnce w → places_from 0 (worked m b) ++ worked_at b m c (core_at m c).queue ≡ places_from 0 (worked w b)) m c i.1
    (λ kind k place q e p. subst (λ (z : List Item). places_from 0 (worked m b) ++ worked_at b m c z ≡ places_from 0 (worked (took m c (Of kind k place ∷ q)) b)) (sym e) (took-adds m c kind k place q b s p i.0 l e))
    (λ q e p. subst (λ (z : List Item). places_from 0 (worked m b) ++ worked_at b m c z ≡ places_from 0 (worked (took m c (End ∷ q)) b)) (sym e) (end-adds m c q b (0 == b) s p i.0 l e))
    (held-once (step m (Take c)) (step-sound m (Take c) i s))
event-adds m (Claim c k) b s i l = by_claim (λ w. IsHeldOnce w → places_from 0 (worked m b) ++ (if k == b then waiting_places (hand_at m c k) else []) ≡ places_from 0 (worked w b)) m c k i.2
    (λ first rest e w p. claim-adds m c k first rest b s p i.0 i.1 l e w) (held-once (step m (Claim c k)) (step-sound m (Claim c k) i s))
event-adds m (Release c k) b s i l = by_release (λ w. IsHeldOnce w → places_from 0 (worked m b) ++ [] ≡ places_from 0 (worked w b)) m c k i.2
    (λ start done e p. release-adds m c k start done b s p i.0 i.1 l e) (held-once (step m (Release c k)) (step-sound m (Release c k) i s))

-- the number of buckets stays
pub step-buckets : (m : MachineView) (e : Event) → IsEnabled m e → length (step m e).buckets ≡ length m.buckets
step-buckets m Send i = refl
step-buckets m (Look k) i = length-set m.buckets k (record (bucket_at m k) { seen = (bucket_at m k).word })
step-buckets m (Move k to) i = length-set m.buckets k (record (bucket_at m k) { owner = to; start = sent_of m k })
step-buckets m (Place k to) i = length-set m.buckets k (record (bucket_at m k) { owner = to })
step-buckets m (SendEnd c) i = refl
step-buckets m (Take c) i = by_take (λ w. length w.buckets ≡ length m.buckets) m c i.1 (λ kind k place q e. refl) (λ q e. refl)
step-buckets m (Claim c k) i = by_claim (λ w. length w.buckets ≡ length m.buckets) m c k i.2 (λ first rest e w. length-set m.buckets k (record (bucket_at m k) { word = 2 * first + 2; shelf = None }))
step-buckets m (Release c k) i = by_release (λ w. length w.buckets ≡ length m.buckets) m c k i.2 (λ start done e. length-set m.buckets k (record (bucket_at m k) { word = 2 * done + 1; shelf = Some done }))

pub runs-add : (m : MachineView) (es : List Event) (last : MachineView) (b : ℕ) → IsSound m → Runs m es last → b < length m.buckets → places_from 0 (worked m b) ++ worked_in b m es ≡ places_from 0 (worked last b)
runs-add m [] last b s r l = append-nil (places_from 0 (worked m b)) ∙ ap (λ (w : MachineView). places_from 0 (worked w b)) (sym r)
runs-add m (e ∷ es) last b s r l =
    let i = is_enabled m e r.0 in
    sym (append_assoc (places_from 0 (worked m b)) (worked_by b m e) (worked_in b (step m e) es))
    ∙ (ap (λ (z : List ℕ). z ++ worked_in b (step m e) es) (event-adds m e b s i l)
    ∙ runs-add (step m e) es last b (step-sound m e i s) r.1 (subst (λ (n : ℕ). b < n) (sym (step-buckets m e i)) l))
