-- What a core took last of a bucket goes with what it does with it.
use Rattle.std.proofs.Common.{◌≡◌, ◌≢◌, inl, inr, ℕ, zero, suc, ◌+◌, ◌-◌, ◌*◌, ◌<◌, List, [], ◌∷◌, ◌++◌, length, map, get_or, set, Bool, true, false, if◌then◌else◌, refl, sym, ap, ◌∙◌, subst, ⊎_elim, Some, None, eq-eqb, ne_eqb, arith}
use Rattle.std.proofs.lemmas.Bool.{cases_eq}
use Rattle.std.proofs.lemmas.List.{get_or-set_same, get_or-set_other, length-set}
use Rattle.std.proofs.Math.ListN.{get_or-map}
use Rattle.std.specs.Prelude.{slice_index, slice_set}
use Rattle.handover_core.specs.declared.item.Kind.{Kind}
use Rattle.handover_core.specs.declared.item.Kind.TheVariants.{First, Next, Mark}
use Rattle.handover_core.specs.declared.item.Item.{Item}
use Rattle.handover_core.specs.declared.item.Item.TheVariants.{Of, End}
use Rattle.handover_core.specs.declared.event.Event.{Event}
use Rattle.handover_core.specs.declared.event.Event.TheVariants.{Send, Look, Move, Place, SendEnd, Take, Claim, Release}
use Rattle.handover_core.specs.declared.bucket_state.BucketState.{BucketState}
use Rattle.handover_core.specs.Dispatch.{kind_at}
use Rattle.handover_core.specs.Legal.{Stand, new, within, past, stand_by, stand_from}
use Rattle.handover_core.specs.State.{Hand, Away, Waiting, Held, Leaving, CoreState, MachineView, bucket_at, core_at, hand_at, hand_in, sent_of, set_core, set_bucket, set_hand}
use Rattle.handover_core.specs.Machine.{has_end, step, post, met, freed, leave, shelf_done, claimed_hand}
use Rattle.handover_core.specs.Bucket.{places_from}
use Rattle.handover_core.proofs.Enabled.{IsEnabled}
use Rattle.handover_core.specs.Sound.{bucket_snapshot, AreOf, IsSound}
use Rattle.handover_core.specs.Promises.{Meets}
use Rattle.handover_core.specs.Neighbours.{place_after, FitsTaken, AreTaken}
use Rattle.handover_core.proofs.Cases.{by_take, by_claim, by_release}
use Rattle.handover_core.proofs.Pieces.{length-places_from}
use Rattle.handover_core.proofs.Streams.{stand_from-push}
use Rattle.handover_core.proofs.Frames.{core-set, has_end-item, has_end-end}
use Rattle.handover_core.proofs.OneHand.{take-meets, claim-meets}

place_after-push : (ps : List ℕ) (p : ℕ) → place_after (ps ++ p ∷ []) ≡ p + 1
place_after-push [] p = refl
place_after-push (q ∷ []) p = refl
place_after-push (q ∷ r ∷ ps) p = place_after-push (r ∷ ps) p

place_after-run : (p n : ℕ) → place_after (places_from p (suc n)) ≡ p + suc n
place_after-run p zero = omega arith
place_after-run p (suc n) = let e = place_after-run (p + 1) n in omega arith

-- an item of the bucket is taken
met-taken : (h : Hand) (kind : Kind) (b place : ℕ) (e : Bool) → Meets h (Of kind b place) → FitsTaken (met h kind place) e (stand_by kind place)
met-taken h First b place e m = subst (λ (h : Hand). FitsTaken (met h First place) e (stand_by First place)) (sym m) refl
met-taken h Mark b place e m = subst (λ (h : Hand). FitsTaken (met h Mark place) e (stand_by Mark place)) (sym m.1) (inl refl)
met-taken h Next b place e m = ⊎_elim
    (λ (w : (places : List ℕ) × (h ≡ Waiting places)). subst (λ (h : Hand). FitsTaken (met h Next place) e (stand_by Next place)) (sym w.1) (ap within (sym (place_after-push w.0 place))))
    (λ (w : (start : ℕ) × (h ≡ Held start place)). subst (λ (h : Hand). FitsTaken (met h Next place) e (stand_by Next place)) (sym w.1) refl) m

-- End is taken
left-taken : (h : Hand) (e : Bool) (s : Stand) → FitsTaken h e s → FitsTaken (leave h) true s
left-taken Away e s f = inr (inr refl)
left-taken (Waiting ps) e s f = f
left-taken (Held a d) e s f = inr refl
left-taken (Leaving a d) e s f = inr refl

stand-here : (b : ℕ) (xs : List Item) (kind : Kind) (place : ℕ) → stand_from b new (xs ++ Of kind b place ∷ []) ≡ stand_by kind place
stand-here b xs kind place = stand_from-push b xs new (Of kind b place) ∙ ap (λ (t : Bool). if t then stand_by kind place else stand_from b new xs) (eq-eqb b b refl)

stand-other : (b q : ℕ) (xs : List Item) (kind : Kind) (place : ℕ) → q ≢ b → stand_from b new (xs ++ Of kind q place ∷ []) ≡ stand_from b new xs
stand-other b q xs kind place ne = stand_from-push b xs new (Of kind q place) ∙ ap (λ (t : Bool). if t then stand_by kind place else stand_from b new xs) (ne_eqb q b ne)

-- a core as it says for all buckets
CoreTaken : ℕ → CoreState → Type 0
CoreTaken n s = (b : ℕ) → b < n → FitsTaken (hand_in s b) (has_end s.taken) (stand_from b new s.taken)

-- one core changes
core-taken : (m : MachineView) (c : ℕ) (s : CoreState) → c < length m.cores → CoreTaken (length m.buckets) s → AreTaken m → AreTaken (set_core m c s)
unfolding CoreTaken
core-taken m c s l f t d b lb = ⊎_elim
    (λ (e : d ≡ c). subst (λ (x : CoreState). FitsTaken (hand_in x b) (has_end x.taken) (stand_from b new x.taken)) (sym (core-set m c s d l ∙ ap (λ (t : Bool). if t then s else core_at m d) (eq-eqb d c e))) (f b lb))
    (λ (ne : d ≡ c → ⊥). subst (λ (x : CoreState). FitsTaken (hand_in x b) (has_end x.taken) (stand_from b new x.taken)) (sym (core-set m c s d l ∙ ap (λ (t : Bool). if t then s else core_at m d) (ne_eqb d c ne))) (t d b lb))
    (cases_eq d c)

-- the buckets change, but not how many there are
bucket-taken : (m : MachineView) (b : ℕ) (s : BucketState) → AreTaken m → AreTaken (set_bucket m b s)
bucket-taken m b s t c k l = t c k (subst (λ (n : ℕ). k < n) (length-set m.buckets b s) l)

post-taken : (m : MachineView) (o : ℕ) (x : Item) → o < length m.cores → AreTaken m → AreTaken (post m o x)
unfolding CoreTaken
post-taken m o x l t = core-taken (record m { dispatched = m.dispatched ++ record { core = o; item = x } ∷ [] }) o (record (core_at m o) { queue = (core_at m o).queue ++ x ∷ [] }) l (λ b lb. t o b lb) t

-- a hand changes
hand-taken : (m : MachineView) (c b : ℕ) (h : Hand) → c < length m.cores → b < length (core_at m c).hands → FitsTaken h (has_end (core_at m c).taken) (stand_from b new (core_at m c).taken) → AreTaken m → AreTaken (set_core m c (set_hand (core_at m c) b h))
unfolding CoreTaken
hand-taken m c b h l lh f t = core-taken m c (set_hand (core_at m c) b h) l
    (λ k lk. ⊎_elim
    (λ (e : b ≡ k). subst (λ (k : ℕ). FitsTaken (get_or (set (core_at m c).hands b h) k Away) (has_end (core_at m c).taken) (stand_from k new (core_at m c).taken)) e
    (subst (λ (x : Hand). FitsTaken x (has_end (core_at m c).taken) (stand_from b new (core_at m c).taken)) (sym (get_or-set_same (core_at m c).hands b h Away lh)) f))
    (λ (ne : b ≡ k → ⊥). subst (λ (x : Hand). FitsTaken x (has_end (core_at m c).taken) (stand_from k new (core_at m c).taken)) (sym (get_or-set_other (core_at m c).hands b k h Away (λ e. ne (sym e)))) (t c k lk)) (cases_eq b k)) t

take-taken : (m : MachineView) (c : ℕ) → IsSound m → IsEnabled m (Take c) → AreTaken m → AreTaken (step m (Take c))
unfolding CoreTaken
take-taken m c s i t = by_take AreTaken m c i.1
    (λ kind q place xs e.
    let meets = take-meets m s c (Of kind q place) xs e in
    let lq = (subst (λ (z : List Item). AreOf (length m.buckets) z) e (s.shaped.items c)).0 in
    core-taken (record m { free = m.free + freed (hand_at m c q) kind }) c (record { queue = xs; taken = (core_at m c).taken ++ Of kind q place ∷ []; hands = slice_set (core_at m c).hands q (met (hand_at m c q) kind place) }) i.0
    (λ b lb. ⊎_elim
    (λ (f : q ≡ b). subst (λ (b : ℕ). FitsTaken (get_or (set (core_at m c).hands q (met (hand_at m c q) kind place)) b Away) (has_end ((core_at m c).taken ++ Of kind q place ∷ [])) (stand_from b new ((core_at m c).taken ++ Of kind q place ∷ []))) f
    (rw (get_or-set_same (core_at m c).hands q (met (hand_at m c q) kind place) Away (subst (λ (n : ℕ). q < n) (sym (s.shaped.hands c i.0)) lq), stand-here q (core_at m c).taken kind place)
    (met-taken (hand_at m c q) kind q place (has_end ((core_at m c).taken ++ Of kind q place ∷ [])) meets)))
    (λ (ne : q ≡ b → ⊥). rw (get_or-set_other (core_at m c).hands q b (met (hand_at m c q) kind place) Away (λ f. ne (sym f)), stand-other b q (core_at m c).taken kind place ne, has_end-item (core_at m c).taken kind q place) (t c b lb))
    (cases_eq q b)) t)
    (λ xs e. core-taken m c (record { queue = xs; taken = (core_at m c).taken ++ End ∷ []; hands = map leave (core_at m c).hands }) i.0
    (λ b lb. rw (get_or-map leave (core_at m c).hands b Away, has_end-end (core_at m c).taken, stand_from-push b (core_at m c).taken new End)
    (left-taken (hand_at m c b) (has_end (core_at m c).taken) (stand_from b new (core_at m c).taken) (t c b lb))) t)

claimed-taken : (e : Bool) (first d : ℕ) (s : Stand) → s ≡ within d → FitsTaken (if e then leave (Held first d) else Held first d) e s
claimed-taken true first d s f = inr refl
claimed-taken false first d s f = f

claim-run : (first done n d : ℕ) (rest : List ℕ) → first ∷ rest ≡ places_from done n → d ≡ done → place_after (first ∷ rest) ≡ d + length (first ∷ rest)
claim-run first done zero d rest e f = absurd (cc)
claim-run first done (suc n) d rest e f =
    let a = place_after-run done n in
    let b = ap place_after e in
    let k = ap (λ (z : List ℕ). length z) e ∙ length-places_from done (suc n) in omega arith

claim-taken : (m : MachineView) (c b : ℕ) → IsSound m → IsEnabled m (Claim c b) → AreTaken m → AreTaken (step m (Claim c b))
claim-taken m c b s i t = by_claim AreTaken m c b i.2
    (λ first rest e w.
    let f = claim-meets (bucket_snapshot m b) c first rest e w (s.buckets.buckets b i.1) in
    let g : first ∷ rest ≡ places_from f.0 f.1 = (let x = sym e ∙ f.3 in cc) in
    let st : stand_from b new (core_at m c).taken ≡ within (place_after (first ∷ rest)) = subst (λ (h : Hand). FitsTaken h (has_end (core_at m c).taken) (stand_from b new (core_at m c).taken)) e (t c b i.1) in
    let d : place_after (first ∷ rest) ≡ shelf_done (bucket_at m b).shelf + length (first ∷ rest) = claim-run first f.0 f.1 (shelf_done (bucket_at m b).shelf) rest g (ap shelf_done f.2) in
    let m1 : MachineView = record m { free = m.free + length (first ∷ rest); claims = m.claims + 1 } in
    bucket-taken (set_core m1 c (set_hand (core_at m c) b (claimed_hand m c b (first ∷ rest)))) b (record (bucket_at m b) { word = 2 * first + 2; shelf = None })
    (hand-taken m1 c b (claimed_hand m c b (first ∷ rest)) i.0 (subst (λ (n : ℕ). b < n) (sym (s.shaped.hands c i.0)) i.1)
    (claimed-taken (has_end (core_at m c).taken) first (shelf_done (bucket_at m b).shelf + length (first ∷ rest)) (stand_from b new (core_at m c).taken) (st ∙ ap within d)) t))

released-taken : (start done : ℕ) (e : Bool) (s : Stand) → FitsTaken (Leaving start done) e s → FitsTaken Away e s
released-taken start done e s f = ⊎_elim (λ (q : s ≡ past done). inr (inl (done, q))) (λ (q : e ≡ true). inr (inr q)) f

release-taken : (m : MachineView) (c b : ℕ) → IsSound m → IsEnabled m (Release c b) → AreTaken m → AreTaken (step m (Release c b))
release-taken m c b s i t = by_release AreTaken m c b i.2
    (λ start done e.
    let m1 : MachineView = record m { releases = m.releases + 1 } in
    bucket-taken (set_core m1 c (set_hand (core_at m c) b Away)) b (record (bucket_at m b) { word = 2 * done + 1; shelf = Some done })
    (hand-taken m1 c b Away i.0 (subst (λ (n : ℕ). b < n) (sym (s.shaped.hands c i.0)) i.1)
    (released-taken start done (has_end (core_at m c).taken) (stand_from b new (core_at m c).taken) (subst (λ (h : Hand). FitsTaken h (has_end (core_at m c).taken) (stand_from b new (core_at m c).taken)) e (t c b i.1))) t))

pub step-taken : (m : MachineView) (e : Event) → IsSound m → IsEnabled m e → AreTaken m → AreTaken (step m e)
step-taken m Send s i t = post-taken (record m { sent = m.sent + 1; free = m.free - 1 }) (bucket_at m q).owner (Of (kind_at (bucket_at m q).start (sent_of m q)) q (sent_of m q)) (s.shaped.owners q (s.shaped.packets m.sent i.0)) t where
  q : ℕ
  q = slice_index m.packets m.sent
step-taken m (Look b) s i t = bucket-taken m b (record (bucket_at m b) { seen = (bucket_at m b).word }) t
step-taken m (Move b to) s i t =
    bucket-taken (post (record m { free = m.free - 1; moves = m.moves - 1 }) (bucket_at m b).owner (Of Mark b (sent_of m b))) b (record (bucket_at m b) { owner = to; start = sent_of m b })
    (post-taken (record m { free = m.free - 1; moves = m.moves - 1 }) (bucket_at m b).owner (Of Mark b (sent_of m b)) (s.shaped.owners b i.0) t)
step-taken m (Place b to) s i t = bucket-taken m b (record (bucket_at m b) { owner = to }) t
step-taken m (SendEnd c) s i t = post-taken m c End i.0 t
step-taken m (Take c) s i t = take-taken m c s i t
step-taken m (Claim c b) s i t = claim-taken m c b s i t
step-taken m (Release c b) s i t = release-taken m c b s i t
