-- Each turn takes as many steps off the machine's as its counted events are.
use Rattle.std.proofs.Common.{◌≡◌, ◌≢◌, ℕ, ◌+◌, ◌*◌, ◌<◌, ◌≤◌, Bool, true, false, not, eqb, ltb, if◌then◌else◌, List, [], ◌∷◌, map, length, sum_by, find, get_or, Option, Some, None, refl, sym, ap, ◌∙◌, subst, ⊎_elim, arith, eq-eqb, ne_eqb}
use Rattle.std.specs.Prelude.{slice_get}
use Rattle.std.proofs.lemmas.Bool.{cases_eq, lt-ltb}
use Rattle.std.proofs.lemmas.List.{length-map}
use Rattle.std.proofs.lemmas.List.Sums.{sum_by-cons}
use Rattle.std.proofs.lemmas.Option.{slice_get_cases}
use Rattle.bucket_table.specs.Table.{TableOf}
use Rattle.indirection.specs.Tries.{Ask, ask_bucket, ask_to, upto}
use Rattle.indirection.specs.Story.{Parcel}
use Rattle.indirection.specs.Due.{Due, RoundDue, TryDue, PacketDue}
use Rattle.handover_core.specs.declared.event.Event.{Event}
use Rattle.handover_core.specs.declared.event.Event.TheVariants.{Send, Look, Move, Place, SendEnd}
use Rattle.handover_core.specs.State.{MachineView, bucket_at, sent_of}
use Rattle.handover_core.specs.Machine.{enabled, end_sent, end_sent_to, step, steps_left}
use Rattle.handover_core.specs.Promises.{counts}
use Rattle.handover_core.specs.Sound.{IsSound}
use Rattle.handover_core.proofs.Bound.{falls, steps-first}
use Rattle.handover_core.proofs.Enabled.{is_enabled}
use Rattle.handover_core.proofs.Found.{find-some, each-upto, Each_of}
use Rattle.handover_core.proofs.Steps.{keeps-sound}
use Rattle.worker_loop.specs.Workload.{Workload}
use Rattle.dispatch_loop.specs.DispatcherState.{DispatcherState}
use Rattle.dispatch_loop.specs.Asks.{due_now}
use Rattle.rsspp_run.specs.Serial.{Setting, RunState, begins, Deed, after_all, deed_due, tried, sent, ended}
use Rattle.rsspp_run.specs.LocalRun.{LocalRunView}
use Rattle.rsspp_run.specs.DispatcherOf.{IsReady}
use Rattle.rsspp_run.specs.At.{IsAt}
use Rattle.rsspp_run.proofs.Asked.{start_le}
use Rattle.rsspp_run.proofs.Dispatchers.{move_left}
use Rattle.rsspp_run.proofs.DispatcherTries.{may_move, may_place}
use Rattle.rsspp_run.proofs.DispatcherTurns.{both_true}
use Rattle.rsspp_run.proofs.Idle.{below_of, no_both, map_id}

-- the steps that are left fall by the counted events
unfoldable pub Fallen : MachineView → List Event → Type 0
Fallen m es = steps_left (after_all m es) + sum_by counts es ≡ steps_left m

none_falls : (m : MachineView) → Fallen m []
unfolding Fallen
none_falls m = let n : steps_left m + 0 ≡ steps_left m = omega arith in n

one_falls : (m : MachineView) (e : Event) → IsSound m → enabled m e ≡ true → Fallen m (e ∷ [])
unfolding Fallen
one_falls m e sound may = let f = falls m e sound (is_enabled m e may) in let s = sum_by-cons counts e [] in omega arith

two_fall : (m : MachineView) (e d : Event) → IsSound m → enabled m e ≡ true → enabled (step m e) d ≡ true → Fallen m (e ∷ d ∷ [])
unfolding Fallen
two_fall m e d sound may next =
    let f = falls m e sound (is_enabled m e may) in let g = falls (step m e) d (keeps-sound m e may sound) (is_enabled (step m e) d next) in
    let s = sum_by-cons counts e (d ∷ []) in let z = sum_by-cons counts d [] in omega arith

-- tests
if_cases : (P : Deed → Type 0) (t : Bool) (x y : Deed) → (t ≡ true → P x) → (t ≡ false → P y) → P (if t then x else y)
if_cases P true x y f g = f refl
if_cases P false x y f g = g refl

eq_of : (a b : ℕ) → eqb a b ≡ true → a ≡ b
eq_of a b e = ⊎_elim (λ (q : a ≡ b). q) (λ (ne : a ≡ b → ⊥). absurd (no_both (eqb a b) e (ne_eqb a b ne))) (cases_eq a b)

ne_of : (a b : ℕ) → eqb a b ≡ false → a ≢ b
ne_of a b e q = no_both (eqb a b) (eq-eqb a b q) e

Falls : MachineView → Deed → Type 0
Falls m d = Fallen m d.events

module _ {S : Type 0} (x : Workload S) (j : Setting) (r : RunState) (d : DispatcherState) (f : LocalRunView (TableOf S)) (at : IsAt x r d f) (packets : length r.machine.packets ≡ length j.parcels) where
  m : MachineView
  m = r.machine

  module _ (a : Ask) (near : ask_bucket a < length r.machine.buckets) (core : ask_to a < length r.machine.cores) (ending : end_sent r.machine ≡ false) where
    tried_falls : Falls r.machine (tried r.machine a)
    unfolding Falls
    tried_falls =
        let b = ask_bucket a in let to = ask_to a in let s = at.workers.sound in
        let owner = at.dispatcher.owners b near in let start = at.dispatcher.starts b near in let count = at.dispatcher.counts b near in
        let look = one_falls r.machine (Look b) s (lt-ltb _ _ near) in
        if_cases (Falls r.machine) (eqb (bucket_at r.machine b).owner to) _ _ (λ _. none_falls r.machine)
        (λ ne. if_cases (Falls r.machine) (eqb (sent_of r.machine b) 0) _ _
        (λ z. one_falls r.machine (Place b to) s (may_place x r d f at.workers at.dispatcher b to near core (λ e. ne_of _ _ ne (owner ∙ sym e)) (sym count ∙ eq_of _ _ z) ending))
        (λ nz. if_cases (Falls r.machine) (eqb (sent_of r.machine b) (bucket_at r.machine b).start) _ _ (λ _. none_falls r.machine)
        (λ ns. if_cases (Falls r.machine) (eqb (bucket_at r.machine b).word (2 * (bucket_at r.machine b).start + 2)) _ _
        (λ w. if_cases (Falls r.machine) (ltb 0 r.machine.free) _ _
        (λ fr.
        let le = start_le r.machine b s near in let apart = ne_of _ _ ns in let fresh : get_or d.starts b 0 < get_or d.counts b 0 = omega arith in
        two_fall r.machine (Look b) (Move b to) s (lt-ltb _ _ near)
        (may_move x r d f at.workers at.dispatcher b to near core (λ e. ne_of _ _ ne (owner ∙ sym e)) fresh (eq_of _ _ w ∙ ap (λ n. 2 * n + 2) start) (below_of 0 r.machine.free fr) (move_left r.machine d at.dispatcher b near fresh) ending))
        (λ _. look))
        (λ _. look))))

  packet_falls : (o : Option Parcel) → slice_get j.parcels r.machine.sent ≡ o → ((p : Parcel) → o ≡ Some p → r.machine.sent < length j.parcels) → (o ≡ None → length j.parcels ≤ r.machine.sent) → Falls r.machine (sent r.machine o)
  unfolding Falls
  packet_falls (Some p) e some none = if_cases (Falls r.machine) (ltb 0 r.machine.free) _ _
      (λ fr. one_falls r.machine Send at.workers.sound (both_true (ltb r.machine.sent (length r.machine.packets)) (ltb 0 r.machine.free) (lt-ltb _ _ (let lt = some p refl in let n = packets in omega arith)) fr))
      (λ _. none_falls r.machine)
  packet_falls None e some none = by (find (λ c. not (end_sent_to r.machine c)) (upto (length r.machine.cores))) refl where
    by : (o : Option ℕ) → find (λ c. not (end_sent_to r.machine c)) (upto (length r.machine.cores)) ≡ o → Falls r.machine (ended o)
    by None q = none_falls r.machine
    by (Some c) q =
        let all : Each_of (λ k. k < length r.machine.cores) (upto (length r.machine.cores)) = subst (Each_of (λ k. k < length r.machine.cores)) (map_id (upto (length r.machine.cores))) (each-upto (λ k. k < length r.machine.cores) (λ k. k) (length r.machine.cores) (λ k lt. lt)) in
        let g = find-some (λ c. not (end_sent_to r.machine c)) (λ k. k < length r.machine.cores) (upto (length r.machine.cores)) c q all in
        let sound = at.workers.sound.shaped.sent in let n = packets in let over = none refl in
        one_falls r.machine (SendEnd c) at.workers.sound (both_true _ _ (lt-ltb _ _ g.1) (both_true _ _ (eq-eqb r.machine.sent (length r.machine.packets) (omega arith)) g.0))

  -- the deed that is due
  pub deed_falls : (due : Due) → ((a : Ask) → due ≡ TryDue a → (ask_bucket a < length r.machine.buckets) × (ask_to a < length r.machine.cores) × (end_sent r.machine ≡ false)) → Fallen r.machine (deed_due j r due).events
  unfolding Falls
  deed_falls RoundDue ok = none_falls r.machine
  deed_falls (TryDue a) ok = let k = ok a refl in tried_falls a k.0 k.1 k.2
  deed_falls PacketDue ok = ⊎_elim
      (λ (h : (x : Parcel) × (r.machine.sent < length j.parcels) × (slice_get j.parcels r.machine.sent ≡ Some x) × (get_or j.parcels r.machine.sent x ≡ x)).
      subst (λ o. Falls r.machine (sent r.machine o)) (sym h.2) (packet_falls (Some h.0) h.2 (λ p e. h.1) (λ e. absurd (cc))))
      (λ (h : (length j.parcels ≤ r.machine.sent) × (slice_get j.parcels r.machine.sent ≡ None)).
      subst (λ o. Falls r.machine (sent r.machine o)) (sym h.1) (packet_falls None h.1 (λ p e. absurd (cc)) (λ _. h.0)))
      (slice_get_cases j.parcels r.machine.sent).1

-- a turn of a dispatcher that is tied to its packets, whatever is due
module _ {S : Type 0} (x : Workload S) (j : Setting) (r : RunState) (d : DispatcherState) (f : LocalRunView (TableOf S)) (at : IsAt x r d f) (packets : length r.machine.packets ≡ length j.parcels) (ready : IsReady r.machine d) where
  pub due_falls : Fallen r.machine (deed_due j r (due_now d)).events
  due_falls = deed_falls x j r d f at packets (due_now d) (λ a e. let k = ready.asks a e in (k.0, k.1, at.dispatcher.ending ∙ ap (λ n. ltb 0 n) k.2))

-- the steps that a run has at first
pub first_falls : (j : Setting) → steps_left (begins j).machine ≡ 2 * (length j.parcels + length j.parcels + j.rules.cores) + 2 * (length j.parcels + length j.rules.start)
first_falls j = let n = length-map j.parcels (λ (p : Parcel). p.bucket) in let s = steps-first j.rules.start j.rules.cores (map (λ (p : Parcel). p.bucket) j.parcels) j.pool (length j.parcels) in omega arith
