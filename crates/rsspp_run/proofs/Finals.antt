-- A finished state is left as it is by each turn, and what a run is of stays.
use Rattle.std.proofs.Common.{zero, suc, ◌≡◌, ℕ, ◌+◌, ◌<◌, ◌≤◌, ◌/◌, Bool, true, false, not, if◌then◌else◌, List, [], ◌∷◌, length, set, Some, None, refl, sym, ap, ◌∙◌, subst, ⊎_elim, arith}
use Rattle.std.specs.Prelude.{slice_get}
use Rattle.std.proofs.lemmas.Bool.{cases_lt}
use Rattle.std.proofs.lemmas.List.{append-nil, get_or_past, set-get_or}
use Rattle.std.proofs.Math.Nat.{mod-lt}
use Rattle.packet_fields.specs.declared.packet.PacketInfo.{PacketInfo}
use Rattle.indirection.specs.Tries.{upto}
use Rattle.indirection.specs.Due.{Due, PacketDue, due}
use Rattle.handover_core.specs.declared.item.Item.{Item}
use Rattle.handover_core.specs.declared.event.Event.{Event}
use Rattle.handover_core.specs.declared.event.Event.TheVariants.{Take}
use Rattle.handover_core.specs.State as machine
use Rattle.handover_core.specs.State.{Hand, MachineView, bucket_at, core_at, hand_at}
use Rattle.handover_core.specs.Machine.{step, is_empty, has_end, is_leaving, waits_for, end_sent_to}
use Rattle.handover_core.specs.Promises.{IsFinished}
use Rattle.handover_core.specs.Sound.{IsSound}
use Rattle.handover_core.proofs.Found.{NoneOf, find-none}
use Rattle.worker_loop.specs.Schedule.{event_due, release_due, claim_due}
use Rattle.worker_loop.proofs.Dues.{found-nowhere}
use Rattle.dispatch_loop.specs.Terms.{Terms}
use Rattle.rsspp_run.specs.Serial.{Setting, RunState, new_side, side_at, deed, deed_due, after_all, does, sent, ended, happens, dispatcher_turn, worker_turn, turn, turns, party, sweep, sweeps, number_after}
use Rattle.rsspp_run.specs.Goes.{IsRunOf}
use Rattle.rsspp_run.proofs.Ready.{past_end}
use Rattle.rsspp_run.proofs.WorkerTurns.{same_step, same_after}

-- a worker that has nothing to do changes nothing
pub rests : (r : RunState) (c : ℕ) → event_due r.machine c (side_at r c).line ≡ None → worker_turn r c ≡ r
rests r c e =
    ap (happens r c) e
    ∙ (λ i. record {
      machine = r.machine;
      sides = (ap (λ l. set r.sides c (record { line = (side_at r c).line; log = l })) (append-nil (side_at r c).log) ∙ set-get_or r.sides c new_side) i;
      steps = r.steps;
    })

none_of : (p : ℕ → Bool) → ((b : ℕ) → p b ≡ false) → (xs : List ℕ) → NoneOf p xs
none_of p e [] = tt
none_of p e (x ∷ xs) = (e x, none_of p e xs)

module _ (m : MachineView) (sound : IsSound m) (over : IsFinished m) where
  away : (c b : ℕ) → c < length m.cores → hand_at m c b ≡ machine.Away
  away c b near = ⊎_elim (λ (lt : b < length m.buckets). over.hands c b near lt)
      (λ (far : length m.buckets ≤ b). get_or_past (core_at m c).hands b machine.Away (let n = sound.shaped.hands c near in omega arith)) (cases_lt b (length m.buckets))

  none_taken : (e : Bool) (q : List Item) (v : Event) → q ≡ [] → (if e then None else (if is_empty q then None else Some v)) ≡ None
  none_taken true q v h = refl
  none_taken false q v h = ap (λ (z : List Item). if is_empty z then None else Some v) h

  -- no event of a worker is due
  pub none_due : (c : ℕ) (line : List ℕ) → c < length m.cores → event_due m c line ≡ None
  none_due c line near =
      ap (release_due m c line) (find-none (λ b. is_leaving (hand_at m c b)) (upto (length m.buckets)) (none_of (λ b. is_leaving (hand_at m c b)) (λ b. ap is_leaving (away c b near)) (upto (length m.buckets))))
      ∙ (ap (claim_due m c) (find-none (λ b. waits_for (hand_at m c b) (bucket_at m b).word) line (none_of (λ b. waits_for (hand_at m c b) (bucket_at m b).word) (λ b. ap (λ (h : Hand). waits_for h (bucket_at m b).word) (away c b near)) line))
      ∙ none_taken (has_end (core_at m c).taken) (core_at m c).queue (Take c) (over.queues c near))

-- nothing is done
pub does_nothing : (r : RunState) → does r (deed [] []) ≡ r
does_nothing r = λ i. record { machine = r.machine; sides = r.sides; steps = append-nil r.steps i }

module _ (j : Setting) (r : RunState) (sound : IsSound r.machine) (over : IsFinished r.machine) (packets : length r.machine.packets ≡ length j.parcels) (next : due j.rules r.steps ≡ PacketDue) where
  -- the dispatcher has nothing to do, where a packet is due
  pub dispatcher_rests : dispatcher_turn j r ≡ r
  dispatcher_rests =
      let all : slice_get j.parcels r.machine.sent ≡ None = ap (slice_get j.parcels) (over.sent ∙ packets) ∙ past_end j.parcels in
      ap (λ k. does r (deed_due j r k)) next
      ∙ (ap (λ o. does r (sent r.machine o)) all
      ∙ (ap (λ o. does r (ended o)) (found-nowhere (λ c. not (end_sent_to r.machine c)) (length r.machine.cores) (λ k lt. ap not (over.ends k lt))) ∙ does_nothing r))

  module _ (cores : length r.machine.cores ≡ j.rules.cores) where
    turn_rests : (i : ℕ) → i < j.rules.cores + 1 → turn j r i ≡ r
    turn_rests zero lt = dispatcher_rests
    turn_rests (suc c) lt = rests r c (none_due r.machine sound over c (side_at r c).line (omega arith))

    pub turns_rest : (x n : ℕ) → turns j x n r ≡ r
    turns_rest x zero = refl
    turns_rest x (suc n) = ap (λ z. turn j z (party j.rules.cores x n)) (turns_rest x n) ∙ turn_rests (party j.rules.cores x n) (mod-lt (x / 65536 + n) (let some : 0 < j.rules.cores + 1 = omega arith in some))

    -- so does a sweep
    pub sweep_rests : (x : ℕ) → sweep j x r ≡ r
    sweep_rests x = turns_rest x (j.rules.cores + 1)

-- the state of a run that is finished after some sweeps is its state after all further ones
pub sweeps_rest : (j : Setting) (x n k : ℕ) → IsSound (sweeps j x n).machine → IsFinished (sweeps j x n).machine → length (sweeps j x n).machine.packets ≡ length j.parcels → due j.rules (sweeps j x n).steps ≡ PacketDue → length (sweeps j x n).machine.cores ≡ j.rules.cores
    → (at : ℕ) → at ≡ k + n → sweeps j x at ≡ sweeps j x n
sweeps_rest j x n zero sound over packets next cores at e = ap (sweeps j x) (let q : at ≡ n = omega arith in q)
sweeps_rest j x n (suc k) sound over packets next cores at e =
    ap (sweeps j x) (let q : at ≡ suc (k + n) = omega arith in q)
    ∙ (ap (sweep j (number_after (k + n) x)) (sweeps_rest j x n k sound over packets next cores (k + n) refl)
    ∙ sweep_rests j (sweeps j x n) sound over packets next cores (number_after (k + n) x))

-- the packets of a run stay
all_packets : (m : MachineView) (es : List Event) → (after_all m es).packets ≡ m.packets
all_packets m [] = refl
all_packets m (e ∷ es) = all_packets (step m e) es ∙ (same_step m e).packets

pub dispatcher_is_of : (all : List PacketInfo) (j : Setting) (r : RunState) (t : Terms) → IsRunOf all j r t → IsRunOf all j (dispatcher_turn j r) t
dispatcher_is_of all j r t h = record { rules = h.rules; parcels_are = h.parcels_are; packets_are = all_packets r.machine (deed_due j r (due j.rules r.steps)).events ∙ h.packets_are }

pub deed_is_of : (all : List PacketInfo) (j : Setting) (r : RunState) (what : Due) (t u : Terms) → u ≡ t → IsRunOf all j r t → IsRunOf all j (does r (deed_due j r what)) u
deed_is_of all j r what t u same h = subst (IsRunOf all j (does r (deed_due j r what))) (sym same) (record { rules = h.rules; parcels_are = h.parcels_are; packets_are = all_packets r.machine (deed_due j r what).events ∙ h.packets_are })

pub worker_is_of : (all : List PacketInfo) (j : Setting) (r : RunState) (t : Terms) (c : ℕ) → IsRunOf all j r t → IsRunOf all j (worker_turn r c) t
worker_is_of all j r t c h = record { rules = h.rules; parcels_are = h.parcels_are; packets_are = (same_after r.machine (event_due r.machine c (side_at r c).line)).packets ∙ h.packets_are }
