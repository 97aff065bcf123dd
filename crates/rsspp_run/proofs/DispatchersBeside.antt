-- An event of a worker leaves what the dispatcher keeps of the machine.
use Rattle.std.proofs.Common.{zero, suc, ◌≡◌, ℕ, ◌==◌, List, [], ◌∷◌, length, take, count_by, get_or, set, Option, Some, None, refl, sym, ap, ◌∙◌, subst, ⊎_elim, ◌⊎◌, inl, inr, Bool, true, false, if◌then◌else◌, ◌&&◌, find, arith, length-set}
use Rattle.std.specs.List.{list_any}
use Rattle.handover_core.specs.declared.event.Event.{Event}
use Rattle.handover_core.specs.declared.event.Event.TheVariants.{Send, Look, Move, Place, SendEnd, Take, Claim, Release}
use Rattle.handover_core.specs.declared.item.Item.{Item}
use Rattle.handover_core.specs.declared.item.Item.TheVariants.{Of, End}
use Rattle.handover_core.specs.declared.post.Post.{Post}
use Rattle.handover_core.specs.State.{Hand, Away, Waiting, Held, Leaving, MachineView, bucket_at, core_at, hand_at}
use Rattle.handover_core.specs.declared.bucket_state.BucketState.{BucketState}
use Rattle.handover_core.specs.Machine.{step, took, claimed, released, waiting_places, is_end, has_end, is_empty, is_leaving, waits_for}
use Rattle.handover_core.specs.Promises.{IsOfWorker, counts}
use Rattle.indirection.specs.Tries.{upto}
use Rattle.worker_loop.specs.declared.worker_turn.WorkerTurn.{WorkerTurn}
use Rattle.worker_loop.specs.declared.worker_turn.WorkerTurn.TheVariants.{Released, Claimed, Worked, Parked, Marked, EndTaken, Idle, Ended}
use Rattle.worker_loop.specs.Schedule.{event_due, release_due, claim_due, after}
use Rattle.worker_loop.specs.Shows.{event_of}
use Rattle.dispatch_loop.specs.DispatcherState.{DispatcherState}
use Rattle.rsspp_run.specs.Serial.{RunState, worker_turn, side_at}
use Rattle.rsspp_run.specs.DispatcherOf.{IsDispatcherOf}

-- what of a list's items is the same at the item that is set is the same at all
set_keeps : {A B : Type 0} (p : A → B) (xs : List A) (b k : ℕ) (v z : A) → p v ≡ p (get_or xs b z) → p (get_or (set xs b v) k z) ≡ p (get_or xs k z)
set_keeps p [] b k v z e = refl
set_keeps p (x ∷ xs) zero zero v z e = e
set_keeps p (x ∷ xs) zero (suc k) v z e = refl
set_keeps p (x ∷ xs) (suc b) zero v z e = refl
set_keeps p (x ∷ xs) (suc b) (suc k) v z e = set_keeps p xs b k v z e

-- what the dispatcher keeps of the machine is the same
pub record IsSameDesk (m n : MachineView) : Type 0 where
  pub cores : length n.cores ≡ length m.cores
  pub buckets : length n.buckets ≡ length m.buckets
  pub packets : n.packets ≡ m.packets
  pub sent : n.sent ≡ m.sent
  pub dispatched : n.dispatched ≡ m.dispatched
  pub moves : n.moves ≡ m.moves
  pub owners : (b : ℕ) → (bucket_at n b).owner ≡ (bucket_at m b).owner
  pub starts : (b : ℕ) → (bucket_at n b).start ≡ (bucket_at m b).start

same_self : (m : MachineView) → IsSameDesk m m
same_self m = record { cores = refl; buckets = refl; packets = refl; sent = refl; dispatched = refl; moves = refl; owners = λ b. refl; starts = λ b. refl }

took_same : (m : MachineView) (c : ℕ) (q : List Item) → IsSameDesk m (took m c q)
took_same m c [] = same_self m
took_same m c (Of kind b place ∷ q) = record { cores = length-set m.cores c _; buckets = refl; packets = refl; sent = refl; dispatched = refl; moves = refl; owners = λ b. refl; starts = λ b. refl }
took_same m c (End ∷ q) = record { cores = length-set m.cores c _; buckets = refl; packets = refl; sent = refl; dispatched = refl; moves = refl; owners = λ b. refl; starts = λ b. refl }

claimed_same : (m : MachineView) (c b : ℕ) (places : List ℕ) → IsSameDesk m (claimed m c b places)
claimed_same m c b places = record {
  cores = length-set m.cores c _;
  buckets = length-set m.buckets b _;
  packets = refl;
  sent = refl;
  dispatched = refl;
  moves = refl;
  owners = λ k. set_keeps (λ (s : BucketState). s.owner) m.buckets b k _ _ refl;
  starts = λ k. set_keeps (λ (s : BucketState). s.start) m.buckets b k _ _ refl;
}

released_same : (m : MachineView) (c b : ℕ) (h : Hand) → IsSameDesk m (released m c b h)
released_same m c b Away = same_self m
released_same m c b (Waiting places) = same_self m
released_same m c b (Held start done) = same_self m
released_same m c b (Leaving start done) = record {
  cores = length-set m.cores c _;
  buckets = length-set m.buckets b _;
  packets = refl;
  sent = refl;
  dispatched = refl;
  moves = refl;
  owners = λ k. set_keeps (λ (s : BucketState). s.owner) m.buckets b k _ _ refl;
  starts = λ k. set_keeps (λ (s : BucketState). s.start) m.buckets b k _ _ refl;
}

pub step_same : (m : MachineView) (e : Event) → IsOfWorker e → IsSameDesk m (step m e)
step_same m (Take c) w = took_same m c (core_at m c).queue
step_same m (Claim c b) w = claimed_same m c b (waiting_places (hand_at m c b))
step_same m (Release c b) w = released_same m c b (hand_at m c b)
step_same m Send w = absurd w
step_same m (Look b) w = absurd w
step_same m (Move b to) w = absurd w
step_same m (Place b to) w = absurd w
step_same m (SendEnd c) w = absurd w

-- a worker's turn sends nothing
pub sends_none : (m : MachineView) (c : ℕ) (turn : WorkerTurn) → (after m (event_of c turn)).dispatched ≡ m.dispatched
sends_none m c (Released b) = (step_same m (Release c b) tt).dispatched
sends_none m c (Claimed b) = (step_same m (Claim c b) tt).dispatched
sends_none m c Worked = (step_same m (Take c) tt).dispatched
sends_none m c Parked = (step_same m (Take c) tt).dispatched
sends_none m c Marked = (step_same m (Take c) tt).dispatched
sends_none m c EndTaken = (step_same m (Take c) tt).dispatched
sends_none m c Idle = refl
sends_none m c Ended = refl

pub dispatcher_beside : (m n : MachineView) (d : DispatcherState) → IsSameDesk m n → IsDispatcherOf m d → IsDispatcherOf n d
dispatcher_beside m n d same h =
    let cores = same.cores in let buckets = same.buckets in
    record {
      cores = same.cores ∙ h.cores;
      buckets = same.buckets ∙ h.buckets;
      wide_owners = h.wide_owners ∙ sym same.buckets;
      wide_starts = h.wide_starts ∙ sym same.buckets;
      wide_counts = h.wide_counts ∙ sym same.buckets;
      sent = same.sent ∙ h.sent;
      owners = λ b lt. same.owners b ∙ h.owners b (omega arith);
      starts = λ b lt. same.starts b ∙ h.starts b (omega arith);
      counts = λ b lt. (λ i. count_by (λ (x : ℕ). x == b) (take (same.sent i) (same.packets i))) ∙ h.counts b (omega arith);
      ends = λ c lt. ap (λ (ds : List Post). list_any (λ (p : Post). (p.core == c) && is_end p.item) ds) same.dispatched ∙ h.ends c (omega arith);
      ending = ap (λ (ds : List Post). list_any (λ (p : Post). is_end p.item) ds) same.dispatched ∙ h.ending;
      spare = h.spare;
      moves = let k = h.moves in let s = same.sent in let v = same.moves in let l = ap (λ (z : List ℕ). length z) same.packets in omega arith;
    }

-- the event that is due for a core is one of its worker
WorksIfAny : MachineView → Option Event → Type 0
WorksIfAny m o = (o ≡ None) ⊎ ((e : Event) × (o ≡ Some e) × IsOfWorker e × (counts e ≡ 1))

take_works : (m : MachineView) (c : ℕ) (s t : Bool) → WorksIfAny m (if s then None else (if t then None else Some (Take c)))
unfolding WorksIfAny
take_works m c true t = inl refl
take_works m c false true = inl refl
take_works m c false false = inr (Take c, refl, tt, refl)

claim_works : (m : MachineView) (c : ℕ) (o : Option ℕ) → WorksIfAny m (claim_due m c o)
unfolding WorksIfAny
claim_works m c (Some b) = inr (Claim c b, refl, tt, refl)
claim_works m c None = take_works m c (has_end (core_at m c).taken) (is_empty (core_at m c).queue)

release_works : (m : MachineView) (c : ℕ) (line : List ℕ) (o : Option ℕ) → WorksIfAny m (release_due m c line o)
unfolding WorksIfAny
release_works m c line (Some b) = inr (Release c b, refl, tt, refl)
release_works m c line None = claim_works m c (find (λ b. waits_for (hand_at m c b) (bucket_at m b).word) line)

pub due_works : (m : MachineView) (c : ℕ) (line : List ℕ) → (event_due m c line ≡ None) ⊎ ((e : Event) × (event_due m c line ≡ Some e) × IsOfWorker e × (counts e ≡ 1))
unfolding WorksIfAny
due_works m c line = release_works m c line (find (λ b. is_leaving (hand_at m c b)) (upto (length m.buckets)))

-- the dispatcher stands to the machine behind a worker's turn as before it
pub dispatcher_stays : (r : RunState) (c : ℕ) (d : DispatcherState) → IsDispatcherOf r.machine d → IsDispatcherOf (worker_turn r c).machine d
dispatcher_stays r c d h = ⊎_elim
    (λ (k : event_due r.machine c (side_at r c).line ≡ None). subst (λ (o : Option Event). IsDispatcherOf (after r.machine o) d) (sym k) h)
    (λ (k : (e : Event) × (event_due r.machine c (side_at r c).line ≡ Some e) × IsOfWorker e × (counts e ≡ 1)). subst (λ (o : Option Event). IsDispatcherOf (after r.machine o) d) (sym k.1) (dispatcher_beside r.machine (step r.machine k.0) d (step_same r.machine k.0 k.2) h))
    (due_works r.machine c (side_at r c).line)
