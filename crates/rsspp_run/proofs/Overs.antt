-- Where the machine is finished, each worker is over, and the dispatcher has finished.
use Rattle.std.proofs.Common.{◌≡◌, ℕ, ◌<◌, ◌≤◌, ◌==◌, Bool, true, false, ◌&&◌, ◌||◌, if◌then◌else◌, List, [], ◌∷◌, ◌++◌, length, refl, sym, ap, ◌∙◌, subst, ⊎_elim, arith, eq-eqb}
use Rattle.std.specs.List.{list_any}
use Rattle.std.proofs.lemmas.Bool.{cases_lt}
use Rattle.std.proofs.lemmas.List.{get_or_past, append-nil}
use Rattle.bucket_table.specs.Table.{TableOf}
use Rattle.packet_pool.specs.declared.cell.Facts.{Facts}
use Rattle.indirection.proofs.Tests.{by_test}
use Rattle.handover_core.specs.declared.item.Item.{Item}
use Rattle.handover_core.specs.declared.post.Post.{Post}
use Rattle.handover_core.specs.Dispatch.{stream}
use Rattle.handover_core.specs.State as machine
use Rattle.handover_core.specs.State.{Hand, MachineView, bucket_at, core_at, hand_at}
use Rattle.handover_core.specs.Machine.{is_end, has_end}
use Rattle.handover_core.specs.Promises.{IsFinished}
use Rattle.parked_queue.specs.Parked.{cells_at}
use Rattle.parked_queue.specs.Lined as lined
use Rattle.parked_queue.specs.Lined.{times_of, one_if_some}
use Rattle.worker_loop.specs.declared.slot.Slot.{Slot}
use Rattle.worker_loop.specs.declared.slot.Slot.TheVariants.{Away, Held, Leaving}
use Rattle.worker_loop.specs.Workload.{Workload}
use Rattle.worker_loop.specs.Promises.{IsOver}
use Rattle.worker_loop.specs.WorkerSnapshot.{IsHeld, IsLeaving}
use Rattle.worker_loop.specs.Shows.{hand_of}
use Rattle.worker_loop.specs.Tied.{slot_at}
use Rattle.worker_loop.proofs.Dues.{has_end-is}
use Rattle.rsspp_run.specs.Serial.{RunState}
use Rattle.rsspp_run.specs.LocalRun.{LocalRunView, worker_at, AreWorkersAt, IsWorkerAt}

or_either : (a b c : Bool) → (a || b) ≡ true → (b ≡ true → c ≡ true) → (a || c) ≡ true
or_either true b c e f = refl
or_either false b c e f = f e

-- a core's items have the End that it was sent
pub end_in : (c : ℕ) (ds : List Post) → list_any (λ (p : Post). (p.core == c) && is_end p.item) ds ≡ true → has_end (stream c ds) ≡ true
end_in c [] e = absurd (cc)
end_in c (p ∷ ds) e =
    by_test p.core c (λ t. ((t && is_end p.item) || list_any (λ (q : Post). (q.core == c) && is_end q.item) ds) ≡ true → has_end ((if t then p.item ∷ [] else []) ++ stream c ds) ≡ true)
    (λ _ h. or_either (is_end p.item) (list_any (λ (q : Post). (q.core == c) && is_end q.item) ds) (has_end (stream c ds)) h (λ g. end_in c ds g))
    (λ _ h. end_in c ds h) e

away_slot : {S : Type 0} (o : Slot (TableOf S)) (fs : List Facts) → hand_of o fs ≡ machine.Away → (o ≡ Away) × (fs ≡ [])
away_slot Away [] e = (refl, refl)
away_slot Away (f ∷ fs) e = absurd (cc)
away_slot (Held t) fs e = absurd (cc)
away_slot (Leaving t) fs e = absurd (cc)

none_in_line : (line : List ℕ) → ((b : ℕ) → times_of b line ≡ 0) → line ≡ []
none_in_line [] h = refl
none_in_line (b ∷ bs) h = let z = h b in let t = ap lined.one_if (eq-eqb b b refl) in absurd (omega arith)

module _ {S : Type 0} (x : Workload S) (r : RunState) (f : LocalRunView (TableOf S)) (are : AreWorkersAt x r f) (over : IsFinished r.machine) where
  module _ (c : ℕ) (near : c < length r.machine.cores) where
    u : IsWorkerAt x r f c
    u = are.each c near

    took : (worker_at f c).state.took_end ≡ true
    took =
        let taken = (core_at r.machine c).taken in
        let all : has_end taken ≡ true = subst (λ (z : List Item). has_end z ≡ true) (append-nil taken)
        (subst (λ (q : List Item). has_end (taken ++ q) ≡ true) (over.queues c near) (subst (λ (z : List Item). has_end z ≡ true) (sym (are.sound.streamed.streams c)) (end_in c r.machine.dispatched (over.ends c near)))) in
        sym (has_end-is taken (worker_at f c).state.took_end (ap Rattle.handover_core.specs.Legal.is_open u.shows.taken ∙ u.tied.end_is)) ∙ all

    away : (b : ℕ) → (slot_at b (worker_at f c).state ≡ Away) × (cells_at b (worker_at f c).state.lot ≡ [])
    away b = ⊎_elim
        (λ (lt : b < length r.machine.buckets). away_slot (slot_at b (worker_at f c).state) (cells_at b (worker_at f c).state.lot) (sym (u.shows.hands b lt) ∙ over.hands c b near lt))
        (λ (far : length r.machine.buckets ≤ b).
        let n = u.shows.buckets in let s = u.tied.slots in let k = u.tied.chains in
        (get_or_past (worker_at f c).state.slots b Away (omega arith), get_or_past (worker_at f c).state.lot.cells b [] (omega arith)))
        (cases_lt b (length r.machine.buckets))

    pub worker_over : IsOver (worker_at f c).state
    worker_over = record {
      took_end = took;
      none_waits = none_in_line (worker_at f c).state.lot.waiting (λ b. u.tied.line b ∙ ap one_if_some (away b).1);
      none_held = λ b h. subst (λ (o : Slot (TableOf S)). IsHeld o) (away b).0 h;
      none_leaves = λ b h. subst (λ (o : Slot (TableOf S)). IsLeaving o) (away b).0 h;
    }
