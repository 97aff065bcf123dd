-- What a lane was sent stays what was taken and then what it holds, in a worker's turn.
use Rattle.std.proofs.Common.{◌≡◌, ◌++◌, ◌∷◌, [], List, Option, None, Some, sym, ap, ◌∙◌, subst, ⊎_elim, append_assoc}
use Rattle.bucket_table.specs.Table.{TableOf}
use Rattle.core_queue.specs.declared.item.Seen.{Seen}
use Rattle.core_queue.specs.declared.history.LaneHistory.{LaneHistory}
use Rattle.core_queue.specs.LaneHistory.{Lane, took, met_empty, InOrder}
use Rattle.worker_loop.specs.declared.worker_turn.WorkerTurn.{WorkerTurn}
use Rattle.worker_loop.specs.declared.worker_turn.WorkerTurn.TheVariants.{Released, Claimed, Worked, Parked, Marked, EndTaken, Idle, Ended}
use Rattle.worker_loop.specs.Workload.{Workload}
use Rattle.worker_loop.specs.WorkerSnapshot.{WorkerSnapshot}
use Rattle.worker_loop.specs.Rules.{IsTurn, Takes, SameLane, Idles, TakesSeen, IsEmptyLane}

taken_in_order : (e : LaneHistory) (now now' : Option Lane) (x : Seen) → TakesSeen now x now' → InOrder e now → InOrder (took x e) now'
taken_in_order e None now' x h w = subst (InOrder (took x e)) (sym h) tt
taken_in_order e (Some old) now' x h w = subst (InOrder (took x e)) (sym h.2) (w ∙ (ap (λ (z : List Seen). e.taken ++ z) h.1 ∙ sym (append_assoc e.taken (x ∷ []) h.0)))

empty_in_order : (e : LaneHistory) (now now' : Option Lane) → IsEmptyLane now now' → InOrder e now → InOrder (met_empty e) now'
empty_in_order e None now' h w = subst (InOrder (met_empty e)) (sym h) tt
empty_in_order e (Some old) now' h w = subst (InOrder (met_empty e)) (sym h.1) w

module _ {S : Type 0} (x : Workload S) (s t : WorkerSnapshot (TableOf S)) where
  same_in_order : SameLane s t → InOrder s.lane s.lane_now → InOrder t.lane t.lane_now
  same_in_order h w = subst (λ (y : LaneHistory × Option Lane). InOrder y.0 y.1) (λ i. (sym h.0 i, sym h.1 i)) w

  takes_in_order : (turn : WorkerTurn) → Takes x turn s t → InOrder s.lane s.lane_now → InOrder t.lane t.lane_now
  takes_in_order turn h w = subst (λ (e : LaneHistory). InOrder e t.lane_now) (sym h.lane) (taken_in_order s.lane s.lane_now t.lane_now h.item h.lane_now w)

  pub turn_in_order : (turn : WorkerTurn) → IsTurn x s turn t → InOrder s.lane s.lane_now → InOrder t.lane t.lane_now
  turn_in_order (Released b) h w = same_in_order h.lane w
  turn_in_order (Claimed b) h w = same_in_order h.lane w
  turn_in_order Ended h w = same_in_order h.lane w
  turn_in_order Parked h w = takes_in_order Parked h w
  turn_in_order Worked h w = takes_in_order Worked h w
  turn_in_order Marked h w = takes_in_order Marked h w
  turn_in_order EndTaken h w = takes_in_order EndTaken h w
  turn_in_order Idle h w = ⊎_elim (λ k. same_in_order k.2 w)
      (λ k. subst (λ (e : LaneHistory). InOrder e t.lane_now) (sym k.1) (empty_in_order s.lane s.lane_now t.lane_now k.2 w)) h.idles
