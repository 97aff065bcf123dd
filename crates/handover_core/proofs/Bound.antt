-- Each counted event lowers the number of steps that are left by one.
use Rattle.std.proofs.Common.{◌≡◌, ℕ, ◌+◌, ◌*◌, ◌-◌, ◌<◌, List, [], ◌∷◌, ◌++◌, length, map, set, true, refl, ap, ◌∙◌, arith, Some, None}
use Rattle.std.proofs.lemmas.List.{length-set, length-map, length-replicate}
use Rattle.std.proofs.lemmas.List.Sums.{sum_by-set}
use Rattle.std.proofs.lemmas.List.Folds.{sum_by-replicate}
use Rattle.std.proofs.Common.{length-append}
use Rattle.std.specs.Prelude.{slice_index, slice_set, count_by, sum_by, replicate}
use Rattle.indirection.specs.Tries.{upto}
use Rattle.handover_core.specs.declared.item.Kind.TheVariants.{Mark}
use Rattle.handover_core.specs.declared.item.Item.{Item}
use Rattle.handover_core.specs.declared.item.Item.TheVariants.{Of, End}
use Rattle.handover_core.specs.declared.event.Event.{Event}
use Rattle.handover_core.specs.declared.event.Event.TheVariants.{Send, Look, Move, Place, SendEnd, Take, Claim, Release}
use Rattle.handover_core.specs.Dispatch.{kind_at}
use Rattle.handover_core.specs.State.{Hand, Away, CoreState, MachineView, blank_core, bucket_at, core_at, hand_at, sent_of, set_core, set_hand, first_state}
use Rattle.handover_core.specs.declared.bucket_state.BucketState.{BucketState}
use Rattle.handover_core.specs.Machine.{step, post, met, freed, leave, claimed_hand, steps_left}
use Rattle.handover_core.proofs.Enabled.{IsEnabled}
use Rattle.handover_core.specs.Sound.{IsSound}
use Rattle.handover_core.specs.Promises.{counts}
use Rattle.handover_core.proofs.Cases.{by_take, by_claim, by_release}
use Rattle.handover_core.proofs.EndsLeft.{ends_left, ends-item, ends-end, ends-core, ends-free, ends-sent, ends-entry, ends-buckets, count-all}
use Rattle.handover_core.proofs.Steps.{step-sound}

-- the items on all queues
pub queued_items : List CoreState → ℕ
queued_items cores = sum_by (λ (c : CoreState). length c.queue) cores

-- the steps that are left, and those that were made
pub budget : MachineView → ℕ
budget m = 2 * ((length m.packets - m.sent) + m.moves + ends_left m) + queued_items m.cores + 2 * (m.first_moves + length m.buckets)

pub budget-is : (m : MachineView) → IsSound m → steps_left m + (m.claims + m.releases) ≡ budget m
unfolding budget ends_left queued_items
budget-is m s = let t = s.counted.turns in let v = s.counted.moves in omega arith

-- queues after a change
queued-set : (m : MachineView) (c : ℕ) (x : CoreState) → c < length m.cores → queued_items (set m.cores c x) + length (core_at m c).queue ≡ queued_items m.cores + length x.queue
unfolding queued_items
queued-set m c x l = sum_by-set (λ (c : CoreState). length c.queue) m.cores c x blank_core l

queued-post : (m : MachineView) (o : ℕ) (x : Item) → o < length m.cores → queued_items (post m o x).cores ≡ queued_items m.cores + 1
queued-post m o x l = let e = queued-set m o (record (core_at m o) { queue = (core_at m o).queue ++ x ∷ [] }) l in let n = length-append (core_at m o).queue (x ∷ []) in omega arith

queued-same : (m : MachineView) (c : ℕ) (x : CoreState) → c < length m.cores → length x.queue ≡ length (core_at m c).queue → queued_items (set m.cores c x) ≡ queued_items m.cores
queued-same m c x l e = let f = queued-set m c x l in omega arith

-- each event pays what it counts
Pays : MachineView → MachineView → ℕ → Type 0
Pays m w n = budget w + n + (m.claims + m.releases) ≡ budget m + (w.claims + w.releases)

took-pays : (m : MachineView) (c : ℕ) (x : Item) (q : List Item) (free : ℕ) (hands : List Hand) → c < length m.cores → (core_at m c).queue ≡ x ∷ q
    → Pays m (set_core (record m { free = free }) c (record { queue = q; taken = (core_at m c).taken ++ x ∷ []; hands = hands })) 1
unfolding Pays budget
took-pays m c x q free hands l i =
    let new : CoreState = record { queue = q; taken = (core_at m c).taken ++ x ∷ []; hands = hands } in
    let e = queued-set m c new l in
    let f = ap (λ (z : List Item). length z) i in
    let g = ends-core (record m { free = free }) c new in
    let h : ends_left (record m { free = free }) ≡ ends_left m = ends-free m free m.claims m.releases in
    omega arith

hand-pays : (m : MachineView) (c b : ℕ) (x : Hand) (s : BucketState) (free claims releases n : ℕ) → c < length m.cores → claims + releases ≡ m.claims + m.releases + n
    → Pays m (record m { free = free; claims = claims; releases = releases; cores = set m.cores c (set_hand (core_at m c) b x); buckets = set m.buckets b s }) n
unfolding Pays budget
hand-pays m c b x s free claims releases n l i =
    let e = queued-same m c (set_hand (core_at m c) b x) l refl in
    let g = ends-core m c (set_hand (core_at m c) b x) in
    let h = ends-buckets m c (set_hand (core_at m c) b x) b s free claims releases in
    let k = length-set m.buckets b s in
    omega arith

pays : (m : MachineView) (e : Event) → IsSound m → IsEnabled m e → Pays m (step m e) (counts e)
unfolding Pays budget
pays m Send s i =
    let q : ℕ = slice_index m.packets m.sent in
    let o : ℕ = (bucket_at m q).owner in
    let m1 : MachineView = record m { sent = m.sent + 1; free = m.free - 1 } in
    let e = queued-post m1 o (Of (kind_at (bucket_at m q).start (sent_of m q)) q (sent_of m q)) (s.shaped.owners q (s.shaped.packets m.sent i.0)) in
    let f = ends-item m1 o (kind_at (bucket_at m q).start (sent_of m q)) q (sent_of m q) in
    let g = ends-sent m (m.sent + 1) (m.free - 1) m.moves in
    let l = i.0 in omega arith
pays m (Look b) s i = let k = length-set m.buckets b (record (bucket_at m b) { seen = (bucket_at m b).word }) in let h = ends-entry m b (record (bucket_at m b) { seen = (bucket_at m b).word }) in omega arith
pays m (Move b to) s i =
    let o : ℕ = (bucket_at m b).owner in
    let m1 : MachineView = record m { free = m.free - 1; moves = m.moves - 1 } in
    let e = queued-post m1 o (Of Mark b (sent_of m b)) (s.shaped.owners b i.0) in
    let f = ends-item m1 o Mark b (sent_of m b) in
    let g = ends-sent m m.sent (m.free - 1) (m.moves - 1) in
    let h = ends-entry (post m1 o (Of Mark b (sent_of m b))) b (record (bucket_at m b) { owner = to; start = sent_of m b }) in
    let k = length-set m.buckets b (record (bucket_at m b) { owner = to; start = sent_of m b }) in
    let l = i.6 in omega arith
pays m (Place b to) s i = let k = length-set m.buckets b (record (bucket_at m b) { owner = to }) in let h = ends-entry m b (record (bucket_at m b) { owner = to }) in omega arith
pays m (SendEnd c) s i = let e = queued-post m c End i.0 in let f = ends-end m c i.0 i.2 in omega arith
pays m (Take c) s i = by_take (λ w. Pays m w 1) m c i.1
    (λ kind b place q e. took-pays m c (Of kind b place) q (m.free + freed (hand_at m c b) kind) (slice_set (core_at m c).hands b (met (hand_at m c b) kind place)) i.0 e)
    (λ q e. took-pays m c End q m.free (map leave (core_at m c).hands) i.0 e)
pays m (Claim c b) s i = by_claim (λ w. Pays m w 1) m c b i.2
    (λ first rest e w. hand-pays m c b (claimed_hand m c b (first ∷ rest)) (record (bucket_at m b) { word = 2 * first + 2; shelf = None }) (m.free + length (first ∷ rest)) (m.claims + 1) m.releases 1 i.0 (omega arith))
pays m (Release c b) s i = by_release (λ w. Pays m w 1) m c b i.2
    (λ start done e. hand-pays m c b Away (record (bucket_at m b) { word = 2 * done + 1; shelf = Some done }) m.free m.claims (m.releases + 1) 1 i.0 (omega arith))

-- the steps that are left fall by what an event counts
pub falls : (m : MachineView) (e : Event) → IsSound m → IsEnabled m e → steps_left (step m e) + counts e ≡ steps_left m
unfolding Pays
falls m e s i =
    let a = budget-is m s in
    let b = budget-is (step m e) (step-sound m e i s) in
    let p = pays m e s i in omega arith

-- how many there are at first
pub steps-first : (owners : List ℕ) (cores : ℕ) (packets : List ℕ) (pool moves : ℕ) → steps_left (first_state owners cores packets pool moves) ≡ 2 * (length packets + moves + cores) + 2 * (moves + length owners)
steps-first owners cores packets pool moves =
    let m : MachineView = first_state owners cores packets pool moves in
    let fresh : CoreState = record { queue = []; taken = []; hands = replicate (length owners) Away } in
    let q : sum_by (λ (c : CoreState). length c.queue) (replicate cores fresh) ≡ cores * 0 = sum_by-replicate (λ (c : CoreState). length c.queue) cores fresh in
    let n = length-replicate cores fresh in
    let e : count_by (λ c. true) (upto (length m.cores)) ≡ cores = ap (λ (k : ℕ). count_by (λ c. true) (upto k)) n ∙ count-all cores in
    let z : cores * 0 ≡ 0 = omega arith in
    let k = length-map owners (λ (o : ℕ). let b : BucketState = record { owner = o; start = 0; seen = 0; word = 1; shelf = Some 0 } in b) in
    omega arith
