-- Each event keeps the counts.
use Rattle.std.proofs.Common.{◌≡◌, ℕ, ◌+◌, ◌*◌, ◌-◌, ◌<◌, List, [], ◌∷◌, ◌++◌, length, map, set, Bool, true, false, if◌then◌else◌, refl, sym, ap, ◌∙◌, subst, Some, None, ⊎_elim, arith}
use Rattle.std.proofs.lemmas.List.{length-set}
use Rattle.std.specs.Prelude.{slice_index, slice_set, sum_by}
use Rattle.handover_core.specs.declared.item.Kind.{Kind}
use Rattle.handover_core.specs.declared.item.Kind.TheVariants.{Mark}
use Rattle.handover_core.specs.declared.item.Item.{Item}
use Rattle.handover_core.specs.declared.item.Item.TheVariants.{Of, End}
use Rattle.handover_core.specs.declared.event.Event.TheVariants.{Send, Look, Move, Place, SendEnd, Take, Claim, Release}
use Rattle.handover_core.specs.Dispatch.{kind_at}
use Rattle.handover_core.specs.State.{Hand, Away, Held, Leaving, CoreState, MachineView, bucket_at, core_at, hand_at, sent_of, set_bucket, set_hand}
use Rattle.handover_core.specs.declared.bucket_state.BucketState.{BucketState}
use Rattle.handover_core.specs.Machine.{has_end, step, post, met, freed, leave, waiting_places, claimed_hand}
use Rattle.handover_core.proofs.Enabled.{IsEnabled}
use Rattle.handover_core.specs.Bucket.{BucketSnapshot, IsBucket}
use Rattle.handover_core.specs.Sound.{bucket_snapshot, AreOf, cells_in, due, IsShaped, AreBuckets, IsCounted}
use Rattle.handover_core.proofs.Cases.{by_take, by_claim, by_release}
use Rattle.handover_core.proofs.Stages.{claim-first, leaving-is}
use Rattle.handover_core.proofs.Counted.{cells_of, cells-split, cells-push_item, cells-push_end, cells-item, cells-end, cells-set, waiting-set, waiting-leave, met-cells, marks_of, marks-packet, marks-mark, marks-end, due_of, due-is, due-before, due-home, due-held, due-over, due-set}

post-cells : (m : MachineView) (o : ℕ) (kind : Kind) (b place : ℕ) → o < length m.cores → sum_by cells_in (post m o (Of kind b place)).cores ≡ sum_by cells_in m.cores + 1
post-cells m o kind b place l =
    let new : CoreState = record (core_at m o) { queue = (core_at m o).queue ++ Of kind b place ∷ [] } in
    let e = cells-set m o new l in
    let f = cells-split (core_at m o) in
    let g = cells-split new in
    let h = cells-push_item (core_at m o).queue kind b place in
    omega arith

post-cells_end : (m : MachineView) (o : ℕ) → o < length m.cores → sum_by cells_in (post m o End).cores ≡ sum_by cells_in m.cores
post-cells_end m o l =
    let new : CoreState = record (core_at m o) { queue = (core_at m o).queue ++ End ∷ [] } in
    let e = cells-set m o new l in
    let f = cells-split (core_at m o) in
    let g = cells-split new in
    let h = cells-push_end (core_at m o).queue in
    omega arith

pub send-counted : (m : MachineView) → IsShaped m → IsEnabled m Send → IsCounted m → IsCounted (step m Send)
unfolding marks_of
send-counted m h e t = record {
  cells = let c = t.cells in let l = e.1 in let p = post-cells (record m { sent = m.sent + 1; free = m.free - 1 }) o (kind_at s k) q k (h.owners q (h.packets m.sent e.0)) in omega arith;
  moves = ap (λ (n : ℕ). m.moves + n) (marks-packet m.dispatched o s k q k) ∙ t.moves;
  turns = t.turns ∙ ap (λ (n : ℕ). 2 * (n + length m.buckets)) (sym (marks-packet m.dispatched o s k q k));
} where
  q : ℕ
  q = slice_index m.packets m.sent

  o : ℕ
  o = (bucket_at m q).owner

  s : ℕ
  s = (bucket_at m q).start

  k : ℕ
  k = sent_of m q

pub send_end-counted : (m : MachineView) (c : ℕ) → IsEnabled m (SendEnd c) → IsCounted m → IsCounted (step m (SendEnd c))
unfolding marks_of
send_end-counted m c e t = record {
  cells = ap (λ (n : ℕ). m.free + n) (post-cells_end m c e.0) ∙ t.cells;
  moves = ap (λ (n : ℕ). m.moves + n) (marks-end m.dispatched c) ∙ t.moves;
  turns = t.turns ∙ ap (λ (n : ℕ). 2 * (n + length m.buckets)) (sym (marks-end m.dispatched c));
}

-- an entry with the same claims and releases before it
entry-turns : (m : MachineView) (b : ℕ) (s : BucketState) → b < length m.buckets → due s ≡ due (bucket_at m b) → sum_by due (set m.buckets b s) ≡ sum_by due m.buckets
entry-turns m b s l e = let d = due-set m b s l in omega arith

entry-counted : (m : MachineView) (b : ℕ) (s : BucketState) → b < length m.buckets → due s ≡ due (bucket_at m b) → IsCounted m → IsCounted (set_bucket m b s)
entry-counted m b s l e t = record {
  cells = t.cells;
  moves = t.moves;
  turns = let d = entry-turns m b s l e in let n = length-set m.buckets b s in let u = t.turns in omega arith;
}

pub look-counted : (m : MachineView) (b : ℕ) → IsEnabled m (Look b) → IsCounted m → IsCounted (step m (Look b))
look-counted m b e t = entry-counted m b (record (bucket_at m b) { seen = (bucket_at m b).word }) e refl t

pub place-counted : (m : MachineView) (b to : ℕ) → IsEnabled m (Place b to) → IsCounted m → IsCounted (step m (Place b to))
place-counted m b to e t = entry-counted m b (record (bucket_at m b) { owner = to }) e.0 refl t

pub move-counted : (m : MachineView) (b to : ℕ) → IsShaped m → AreBuckets m → IsEnabled m (Move b to) → IsCounted m → IsCounted (step m (Move b to))
unfolding marks_of
move-counted m b to h a e t = record {
  cells = let c = t.cells in let l = e.5 in let p = post-cells (record m { free = m.free - 1; moves = m.moves - 1 }) (bucket_at m b).owner Mark b (sent_of m b) (h.owners b e.0) in omega arith;
  moves = let n = marks-mark m.dispatched (bucket_at m b).owner b (sent_of m b) in let l = e.6 in let u = t.moves in omega arith;
  turns =
      let n = marks-mark m.dispatched (bucket_at m b).owner b (sent_of m b) in
      let d = due-set m b new e.0 in
      let i = due-is (bucket_at m b) ∙ due-held (bucket_at m b).word (bucket_at m b).start held in
      let j = due-is new ∙ due-before (bucket_at m b).word (sent_of m b) (let g = e.3 in let x = held in omega arith) in
      let k = length-set m.buckets b new in
      let u = t.turns in omega arith;
} where
  new : BucketState
  new = record (bucket_at m b) { owner = to; start = sent_of m b }

  held : (bucket_at m b).word ≡ 2 * (bucket_at m b).start + 2
  held = a.seen b e.0 e.7 e.4

-- a core whose cells are fewer by those that are freed
core-cells : (m : MachineView) (c : ℕ) (s : CoreState) (more : ℕ) → c < length m.cores → cells_in s + more ≡ cells_in (core_at m c) → m.free + sum_by cells_in m.cores ≡ m.pool → m.free + more + sum_by cells_in (set m.cores c s) ≡ m.pool
core-cells m c s more l e t = let d = cells-set m c s l in omega arith

pub take-counted : (m : MachineView) (c : ℕ) → IsShaped m → IsEnabled m (Take c) → IsCounted m → IsCounted (step m (Take c))
take-counted m c h e t = by_take IsCounted m c e.1
    (λ kind b place q i. record {
      cells = core-cells m c (new kind b place q) (freed (hand_at m c b) kind) e.0
          (let f = cells-split (core_at m c) in
          let g = cells-split (new kind b place q) in
          let j = ap cells_of i ∙ cells-item kind b place q in
          let w = waiting-set (core_at m c).hands b (met (hand_at m c b) kind place) (subst (λ (n : ℕ). b < n) (sym (h.hands c e.0)) (subst (λ (z : List Item). AreOf (length m.buckets) z) i (h.items c)).0) in
          let x = met-cells (hand_at m c b) kind place in
          omega arith) t.cells;
      moves = t.moves;
      turns = t.turns;
    })
    (λ q i. record {
      cells = let d = cells-set m c (new_end q) e.0 in
          let f = cells-split (core_at m c) in
          let g = cells-split (new_end q) in
          let j = ap cells_of i ∙ cells-end q in
          let w = waiting-leave (core_at m c).hands in
          let u = t.cells in
          omega arith;
      moves = t.moves;
      turns = t.turns;
    }) where
      new : Kind → ℕ → ℕ → List Item → CoreState
      new kind b place q = record { queue = q; taken = (core_at m c).taken ++ Of kind b place ∷ []; hands = slice_set (core_at m c).hands b (met (hand_at m c b) kind place) }

      new_end : List Item → CoreState
      new_end q = record { queue = q; taken = (core_at m c).taken ++ End ∷ []; hands = map leave (core_at m c).hands }

claimed-waiting_places : (t : Bool) (first d : ℕ) → length (waiting_places (if t then leave (Held first d) else Held first d)) ≡ 0
claimed-waiting_places true first d = refl
claimed-waiting_places false first d = refl

-- a hand set to one that waits for nothing
hand-cells : (m : MachineView) (c b : ℕ) (x : Hand) → c < length m.cores → b < length (core_at m c).hands → length (waiting_places x) ≡ 0 → m.free + sum_by cells_in m.cores ≡ m.pool
    → m.free + length (waiting_places (hand_at m c b)) + sum_by cells_in (set m.cores c (set_hand (core_at m c) b x)) ≡ m.pool
hand-cells m c b x l lb z t = core-cells m c (set_hand (core_at m c) b x) (length (waiting_places (hand_at m c b))) l
    (let f = cells-split (core_at m c) in let g = cells-split (set_hand (core_at m c) b x) in let w = waiting-set (core_at m c).hands b x lb in omega arith) t

pub claim-counted : (m : MachineView) (c b : ℕ) → IsShaped m → AreBuckets m → IsEnabled m (Claim c b) → IsCounted m → IsCounted (step m (Claim c b))
claim-counted m c b h a e t = by_claim IsCounted m c b e.2
    (λ first rest i w. record {
      cells = subst (λ (x : Hand). m.free + length (waiting_places x) + sum_by cells_in (set m.cores c (set_hand (core_at m c) b (claimed_hand m c b (first ∷ rest)))) ≡ m.pool) i
          (hand-cells m c b (claimed_hand m c b (first ∷ rest)) e.0 (subst (λ (n : ℕ). b < n) (sym (h.hands c e.0)) e.1)
          (claimed-waiting_places (has_end (core_at m c).taken) first _) t.cells);
      moves = t.moves;
      turns =
          let s = claim-first (bucket_snapshot m b) c first rest i w (a.buckets b e.1) in
          let d = due-set m b (new first) e.1 in
          let j = due-is (bucket_at m b) ∙ due-home (bucket_at m b).word (bucket_at m b).start (w ∙ ap (λ (x : ℕ). 2 * x + 1) s) in
          let k = due-is (new first) ∙ due-held (2 * first + 2) (bucket_at m b).start (ap (λ (x : ℕ). 2 * x + 2) s) in
          let n = length-set m.buckets b (new first) in
          let u = t.turns in omega arith;
    }) where
      new : ℕ → BucketState
      new first = record (bucket_at m b) { word = 2 * first + 2; shelf = None }

-- a release is the last that is due of its stint
release-due : (v : BucketSnapshot) (c a d : ℕ) → v.hand c ≡ Leaving a d → IsBucket v → due_of (2 * d + 1) v.start + 1 ≡ due_of v.word v.start
release-due v c a d h b = ⊎_elim
    (λ (x : (v.word ≡ 2 * v.start + 2) × (d ≡ v.sent) × (v.start < v.sent)).
    let e = due-held v.word v.start x.0 in let l = x.2 in let i = x.1 in let f = due-over (2 * d + 1) v.start (omega arith) in omega arith)
    (λ (x : (v.word < 2 * v.start + 1) × (d ≡ v.start)).
    let e = due-before v.word v.start x.0 in let i = x.1 in let f = due-home (2 * d + 1) v.start (omega arith) in omega arith)
    (leaving-is v c a d h b)

pub release-counted : (m : MachineView) (c b : ℕ) → IsShaped m → AreBuckets m → IsEnabled m (Release c b) → IsCounted m → IsCounted (step m (Release c b))
release-counted m c b h a e t = by_release IsCounted m c b e.2
    (λ start done i. record {
      cells = let x = hand-cells m c b Away e.0 (subst (λ (n : ℕ). b < n) (sym (h.hands c e.0)) e.1) refl t.cells in let y = ap (λ (z : Hand). length (waiting_places z)) i in omega arith;
      moves = t.moves;
      turns =
          let r = release-due (bucket_snapshot m b) c start done i (a.buckets b e.1) in
          let d = due-set m b (new done) e.1 in
          let j = due-is (bucket_at m b) in
          let k = due-is (new done) in
          let n = length-set m.buckets b (new done) in
          let u = t.turns in omega arith;
    }) where
      new : ℕ → BucketState
      new done = record (bucket_at m b) { word = 2 * done + 1; shelf = Some done }
