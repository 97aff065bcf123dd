-- A turn of the dispatcher that weighs nothing leaves the run, or looks at a bucket; for a worker the same is due then.
use Rattle.std.proofs.Common.{◌≡◌, ℕ, ◌+◌, ◌*◌, ◌<◌, ◌≤◌, eqb, ltb, List, [], ◌∷◌, length, sum_by, find, Option, Some, None, refl, sym, ap, ◌∙◌, subst, ◌⊎◌, inl, inr, arith}
use Rattle.std.specs.Prelude.{slice_get}
use Rattle.std.proofs.lemmas.List.{append-nil}
use Rattle.std.proofs.lemmas.List.Sums.{sum_by-cons}
use Rattle.indirection.specs.Tries.{Ask, ask_bucket, ask_to, upto}
use Rattle.indirection.specs.Story.{Parcel, Step, Rounds}
use Rattle.indirection.specs.Due.{Due, RoundDue, TryDue, PacketDue}
use Rattle.handover_core.specs.declared.event.Event.{Event}
use Rattle.handover_core.specs.declared.event.Event.TheVariants.{Look, SendEnd, Place, Move, Send}
use Rattle.handover_core.specs.State.{bucket_at, sent_of}
use Rattle.handover_core.specs.Machine.{end_sent_to}
use Rattle.handover_core.specs.Promises.{counts}
use Rattle.worker_loop.specs.Schedule.{event_due}
use Rattle.rsspp_run.specs.Serial.{Setting, RunState, Deed, deed, side_at, deed_due, does, tried, sent, ended, round_now}
use Rattle.rsspp_run.specs.Lines.{weight}
use Rattle.rsspp_run.proofs.DispatcherEvents.{stepped}
use Rattle.rsspp_run.proofs.Finals.{does_nothing}
use Rattle.rsspp_run.proofs.Idle.{if_both}
use Rattle.rsspp_run.proofs.Rests.{due_same}

pub Quiet : RunState → Deed → Type 0
Quiet r d = weight d ≡ 0 → (does r d ≡ r) ⊎ ((b : ℕ) × (does r d ≡ stepped r (Look b)))

step_quiet : (r : RunState) (es : List Event) (x : Step) → Quiet r (deed es (x ∷ []))
unfolding Quiet
step_quiet r es x = λ e. absurd (omega arith)

none_quiet : (r : RunState) → Quiet r (deed [] [])
unfolding Quiet
none_quiet r = λ e. inl (does_nothing r)

look_quiet : (r : RunState) (b : ℕ) → Quiet r (deed (Look b ∷ []) [])
unfolding Quiet
look_quiet r b = λ e. inr (b, λ i. record { machine = (stepped r (Look b)).machine; sides = r.sides; steps = append-nil r.steps i })

ended_quiet : (r : RunState) (o : Option ℕ) → Quiet r (ended o)
unfolding Quiet
ended_quiet r None = none_quiet r
ended_quiet r (Some c) = λ e. let s = sum_by-cons counts (SendEnd c) [] in absurd (omega arith)

module _ (j : Setting) (r : RunState) where
  tried_quiet : (a : Ask) → Quiet r (tried r.machine a)
  tried_quiet a =
      let m = r.machine in let b = ask_bucket a in
      if_both (Quiet r) (eqb (bucket_at m b).owner (ask_to a)) _ _ (step_quiet r [] _)
      (if_both (Quiet r) (eqb (sent_of m b) 0) _ _ (step_quiet r (Place b (ask_to a) ∷ []) _)
      (if_both (Quiet r) (eqb (sent_of m b) (bucket_at m b).start) _ _ (step_quiet r [] _)
      (if_both (Quiet r) (eqb (bucket_at m b).word (2 * (bucket_at m b).start + 2)) _ _
      (if_both (Quiet r) (ltb 0 m.free) _ _ (step_quiet r (Look b ∷ Move b (ask_to a) ∷ []) _) (look_quiet r b))
      (step_quiet r (Look b ∷ []) _))))

  sent_quiet : (o : Option Parcel) → Quiet r (sent r.machine o)
  sent_quiet None = ended_quiet r (find (λ c. Rattle.std.proofs.Common.not (end_sent_to r.machine c)) (upto (length r.machine.cores)))
  sent_quiet (Some p) = if_both (Quiet r) (ltb 0 r.machine.free) _ _ (step_quiet r (Send ∷ []) _) (none_quiet r)

  pub deed_quiet : (due : Due) → weight (deed_due j r due) ≡ 0 → (does r (deed_due j r due) ≡ r) ⊎ ((b : ℕ) × (does r (deed_due j r due) ≡ stepped r (Look b)))
  unfolding Quiet
  deed_quiet RoundDue = step_quiet r [] (Rounds (round_now j r))
  deed_quiet (TryDue a) = tried_quiet a
  deed_quiet PacketDue = sent_quiet (slice_get j.parcels r.machine.sent)

  -- so a worker that has nothing to do behind it had nothing to do before it, and the other way round
  pub idle_beside : (due : Due) → weight (deed_due j r due) ≡ 0 → (c : ℕ) → event_due (does r (deed_due j r due)).machine c (side_at (does r (deed_due j r due)) c).line ≡ event_due r.machine c (side_at r c).line
  idle_beside due none c = by (deed_quiet due none) where
    by : (does r (deed_due j r due) ≡ r) ⊎ ((b : ℕ) × (does r (deed_due j r due) ≡ stepped r (Look b))) → event_due (does r (deed_due j r due)).machine c (side_at (does r (deed_due j r due)) c).line ≡ event_due r.machine c (side_at r c).line
    by (inl e) = ap (λ (z : RunState). event_due z.machine c (side_at z c).line) e
    by (inr k) = ap (λ (z : RunState). event_due z.machine c (side_at z c).line) k.1 ∙ due_same r.machine k.0 c (side_at r c).line
