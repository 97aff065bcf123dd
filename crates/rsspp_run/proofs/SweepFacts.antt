-- What the turns of a sweep stand on: numbers, the packets of a run, and looks.
use Rattle.std.proofs.Common.{zero, suc, ◌≡◌, ℕ, ◌+◌, ◌<◌, ◌≤◌, ◌&&◌, Bool, true, false, List, [], ◌∷◌, ◌++◌, map, length, get_or, Option, Some, None, refl, sym, ap, ◌∙◌, subst, ◌⊎◌, inl, inr, ⊎_elim, arith, length-set}
use Rattle.std.proofs.lemmas.Bool.{cases_lt}
use Rattle.std.proofs.lemmas.List.{append-nil}
use Rattle.bucket_table.specs.Table.{TableOf}
use Rattle.packet_fields.specs.declared.packet.PacketInfo.{PacketInfo}
use Rattle.pcap_reader.specs.Capture.{Captured}
use Rattle.pcap_reader.specs.Reading.{Reading}
use Rattle.handover_core.specs.declared.event.Event.TheVariants.{Look}
use Rattle.handover_core.specs.State.{MachineView, bucket_at}
use Rattle.handover_core.specs.Machine.{step}
use Rattle.handover_core.specs.Promises.{IsFinished}
use Rattle.worker_loop.specs.declared.worker_turn.WorkerTurn.{WorkerTurn}
use Rattle.worker_loop.specs.declared.worker_turn.WorkerTurn.TheVariants.{Released, Claimed, Worked, Parked, Marked, EndTaken, Idle, Ended}
use Rattle.worker_loop.specs.declared.slot.Slot.{Slot}
use Rattle.worker_loop.specs.declared.slot.Slot.TheVariants.{Away}
use Rattle.parked_queue.specs.Parked as lots
use Rattle.worker_loop.specs.Promises.{IsOver}
use Rattle.worker_loop.specs.Rules as work
use Rattle.worker_loop.specs.WorkerSnapshot as workers_as
use Rattle.worker_loop.specs.Schedule.{event_due}
use Rattle.dispatch_loop.specs.declared.dispatcher_end.DispatcherEnd.{DispatcherEnd}
use Rattle.dispatch_loop.specs.declared.dispatcher_turn.DispatcherTurn.{DispatcherTurn}
use Rattle.dispatch_loop.specs.declared.dispatcher_turn.DispatcherTurn.TheVariants.{Sent, Round, Ordered, EndSent, NoCell, LaneFull, Finished}
use Rattle.dispatch_loop.specs.DispatcherState.{DispatcherState}
use Rattle.dispatch_loop.specs.Packets.{packet_of}
use Rattle.dispatch_loop.specs.Past.{Past, past, held_list, IsFed}
use Rattle.dispatch_loop.specs.Rules as turns
use Rattle.dispatch_loop.specs.Terms.{Terms}
use Rattle.dispatch_loop.proofs.Ties.{sent-is}
use Rattle.rsspp_run.specs.Serial.{RunState, side_at, turn}
use Rattle.rsspp_run.specs.LocalRun.{LocalRunView, over}
use Rattle.rsspp_run.specs.Goes.{HasPacketsLeft}
use Rattle.rsspp_run.specs.Sweeps.{finish_of, is_ended, IsTiedTo}
use Rattle.rsspp_run.proofs.Finals.{rests}
use Rattle.rsspp_run.proofs.Finishes.{none_held}
use Rattle.rsspp_run.proofs.Rests.{due_same}

-- numbers
pub not_more : (a u b w v : ℕ) → a + u ≡ b → b + w ≤ v → a + w ≤ v
not_more a u b w v e h = omega arith

pub less_yet : (a u b w v : ℕ) → a + u ≡ b → b + w + 1 ≤ v → a + w + 1 ≤ v
less_yet a u b w v e h = omega arith

pub less_now : (a u b w v : ℕ) → a + u ≡ b → u ≡ 1 → b + w ≤ v → a + w + 1 ≤ v
less_now a u b w v e one h = omega arith

pub down : (a w b v : ℕ) → a + w ≤ b → b ≤ v → a ≤ v
down a w b v h k = omega arith

pub down_yet : (a w b v : ℕ) → a + w ≤ b → b + 1 ≤ v → a + 1 ≤ v
down_yet a w b v h k = omega arith

pub down_now : (a w b v : ℕ) → a + w ≤ b → 1 ≤ w → b ≤ v → a + 1 ≤ v
down_now a w b v h one k = omega arith

pub paid : (k a b most : ℕ) → a + 1 ≤ b → k + b < most → (k + 1) + a < most
paid k a b most h f = omega arith

pub some_or_none : (w : ℕ) → (w ≡ 0) ⊎ (1 ≤ w)
some_or_none zero = inl refl
some_or_none (suc w) = inr (omega arith)

pub earlier : (n i : ℕ) → n < i + 1 → (n < i) ⊎ (n ≡ i)
earlier n i lt = ⊎_elim (λ (l : n < i). inl l) (λ (ge : i ≤ n). inr (omega arith)) (cases_lt n i)

-- steps of arithmetic, with their numbers written out
pub never_below : {A : Type 0} (n : ℕ) → n < 0 → A
never_below n lt = absurd (omega arith)

pub at_most_itself : (n : ℕ) → n ≤ n
at_most_itself n = omega arith

pub below_by : (c n m : ℕ) → c < n → m ≡ n → c < m
below_by c n m lt e = omega arith

pub before_next : (n i : ℕ) → n < i → n < i + 1
before_next n i lt = omega arith

pub itself_next : (i : ℕ) → i < i + 1
itself_next i = omega arith

pub next_same : (a b c : ℕ) → a ≡ b + 1 → a ≡ c + 1 → b ≡ c
next_same a b c e f = omega arith

pub no_next : {A : Type 0} (a c : ℕ) → a ≡ 0 → a ≡ c + 1 → A
no_next a c e f = absurd (omega arith)

pub next_most : (c n m : ℕ) → c < n → n ≡ m → c + 1 ≤ m
next_most c n m lt e = omega arith

pub none_most : (n : ℕ) → 0 ≤ n
none_most n = omega arith

pub one_zero : (w : ℕ) → w ≡ 0 → 1 ≤ w → ⊥
one_zero w e h = omega arith

-- packets that a run may go on with: those that were sent and the one that is held
pub same_length : (rs : List Captured) → length (map packet_of rs) ≡ length rs
same_length [] = refl
same_length (r ∷ rs) = let e = same_length rs in omega arith

pub fed_few : (limit : ℕ) (p : Past) (held : Option PacketInfo) (end : Option DispatcherEnd) (r : Reading) (left : Option (List ℕ)) → IsFed limit p held end r left → length p.packets ≤ limit → length (p.packets ++ held_list held) ≤ limit
fed_few limit p held None r left h few = let e = ap (λ (z : List PacketInfo). length z) h.are in let s = same_length h.records in let n = h.few in omega arith
fed_few limit p held (Some e) r left h few = let z = ap (λ (o : Option PacketInfo). length (p.packets ++ held_list o)) h.held_is in let a = ap (λ (z : List PacketInfo). length z) (append-nil p.packets) in omega arith

pub held_goes_on : (sent : List PacketInfo) (d : DispatcherState) → HasPacketsLeft (sent ++ held_list d.held) sent d
held_goes_on sent d = record { rest = []; is = ap (λ (z : List PacketInfo). sent ++ z) (sym (append-nil (held_list d.held))); whole = λ ne. refl }

pub held_few : {T : Type 0} (packets : Option (List PacketInfo)) (t : Terms) (bytes : Option (List ℕ)) (sent : List PacketInfo) (d : DispatcherState) (f : LocalRunView T) (reader : Reading) (left : Option (List ℕ)) → IsTiedTo packets t bytes sent d f reader left → length (sent ++ held_list d.held) ≤ t.packets
held_few packets t bytes sent d f reader left h = subst (λ (z : Terms). length (sent ++ held_list d.held) ≤ z.packets) h.terms (fed_few d.terms.packets (past bytes sent) d.held d.end reader left h.tied.fed h.tied.few)

pub sent_few : {T : Type 0} (packets : Option (List PacketInfo)) (t : Terms) (bytes : Option (List ℕ)) (sent : List PacketInfo) (d : DispatcherState) (f : LocalRunView T) (reader : Reading) (left : Option (List ℕ)) → IsTiedTo packets t bytes sent d f reader left → d.sent ≤ d.terms.packets
sent_few packets t bytes sent d f reader left h = let e = sent-is d sent h.tied.dealt in let n = h.tied.few in omega arith

-- a look changes nothing that matters here
pub looked_finished : (m : MachineView) (b : ℕ) → IsFinished m → IsFinished (step m (Look b))
looked_finished m b h = record { sent = h.sent; ends = h.ends; queues = h.queues; hands = λ c k near lt. h.hands c k near (let e = length-set m.buckets b (record (bucket_at m b) { seen = (bucket_at m b).word }) in omega arith) }

abbrev pub looked_at : RunState → ℕ → RunState
looked_at r b = record { machine = step r.machine (Look b); sides = r.sides; steps = r.steps }

abbrev pub Looked : RunState → RunState → Type 0
Looked r q = (q ≡ r) ⊎ ((b : ℕ) × (q ≡ looked_at r b))

pub still_finished : (r q : RunState) → Looked r q → IsFinished r.machine → IsFinished q.machine
still_finished r q (inl e) h = subst (λ (z : RunState). IsFinished z.machine) (sym e) h
still_finished r q (inr k) h = subst (λ (z : RunState). IsFinished z.machine) (sym k.1) (looked_finished r.machine k.0 h)

pub same_due : (r q : RunState) → Looked r q → (c : ℕ) → event_due q.machine c (side_at q c).line ≡ event_due r.machine c (side_at r c).line
same_due r q (inl e) c = ap (λ (z : RunState). event_due z.machine c (side_at z c).line) e
same_due r q (inr k) c = ap (λ (z : RunState). event_due z.machine c (side_at z c).line) k.1 ∙ due_same r.machine k.0 c (side_at r c).line

pub looked_on : (r q p : RunState) → p ≡ q → Looked r q → Looked r p
looked_on r q p same (inl e) = inl (same ∙ e)
looked_on r q p same (inr k) = inr (k.0, same ∙ k.1)

-- a worker that is over stays so through its last turn, and through those of others
pub over_after : {S : Type 0} (s t : workers_as.WorkerSnapshot (TableOf S)) → work.IsEnded s t → IsOver t.worker
over_after {S} s t h = record {
  took_end = h.rests.took_end ∙ h.took_end;
  none_waits = ap (λ (l : lots.Parked). l.waiting) h.rests.lot ∙ h.none_waits;
  none_held = λ b k. h.none_held b (subst (λ (l : List (Slot (TableOf S))). workers_as.IsHeld (get_or l b Away)) h.rests.slots k);
  none_leaves = λ b k. h.none_leaves b (subst (λ (l : List (Slot (TableOf S))). workers_as.IsLeaving (get_or l b Away)) h.rests.slots k);
}

pub ended_is : (turn : WorkerTurn) → is_ended turn ≡ true → turn ≡ Ended
ended_is Ended e = refl
ended_is (Released b) e = absurd (cc)
ended_is (Claimed b) e = absurd (cc)
ended_is Parked e = absurd (cc)
ended_is Worked e = absurd (cc)
ended_is Marked e = absurd (cc)
ended_is EndTaken e = absurd (cc)
ended_is Idle e = absurd (cc)

pub both_of : (a b : Bool) → (a && b) ≡ true → (a ≡ true) × (b ≡ true)
both_of true b e = (refl, e)
both_of false b e = absurd (cc)

pub finishes_some : (turn : DispatcherTurn) (e : DispatcherEnd) → finish_of turn ≡ Some e → turn ≡ Finished e
finishes_some (Finished q) e h = ap Finished (let z : q ≡ e = cc in z)
finishes_some Sent e h = absurd (cc)
finishes_some Round e h = absurd (cc)
finishes_some Ordered e h = absurd (cc)
finishes_some EndSent e h = absurd (cc)
finishes_some NoCell e h = absurd (cc)
finishes_some (LaneFull c) e h = absurd (cc)
