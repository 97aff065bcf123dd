-- Each state that a run comes to can be led to a finished one.
use Rattle.std.proofs.Common.{◌≡◌, ℕ, zero, suc, ◌≤◌, [], ◌∷◌, refl, Some, None, arith}
use Rattle.std.specs.Prelude.{Option}
use Rattle.handover_core.specs.declared.event.Event.{Event}
use Rattle.handover_core.specs.State.{MachineView}
use Rattle.handover_core.specs.Machine.{step, next_event, steps_left}
use Rattle.handover_core.specs.Runs.{CanFinish}
use Rattle.handover_core.specs.Sound.{IsSound}
use Rattle.handover_core.proofs.Bound.{falls}
use Rattle.handover_core.proofs.Enabled.{is_enabled}
use Rattle.handover_core.proofs.Finished.{next-enabled, stuck-finished}
use Rattle.handover_core.proofs.Steps.{step-sound}

by_next : {P : Type 0} (o : Option Event) → (o ≡ None → P) → ((e : Event) → o ≡ Some e → P) → P
by_next None f g = f refl
by_next (Some e) f g = g e refl

finish : (n : ℕ) (m : MachineView) → IsSound m → steps_left m ≤ n → CanFinish m
finish zero m s l = by_next (next_event m)
    (λ e. record { events = []; last = m; runs = refl; finished = stuck-finished m s e; few = omega arith })
    (λ x e. let k = next-enabled m x e in let f = falls m x s (is_enabled m x k.0) in let c = k.1 in absurd (omega arith))
finish (suc n) m s l = by_next (next_event m)
    (λ e. record { events = []; last = m; runs = refl; finished = stuck-finished m s e; few = omega arith })
    (λ x e.
    let k = next-enabled m x e in
    let i = is_enabled m x k.0 in
    let f = falls m x s i in
    let c = k.1 in
    let r = finish n (step m x) (step-sound m x i s) (omega arith) in
    let w = r.few in
    record { events = x ∷ r.events; last = r.last; runs = (k.0, r.runs); finished = r.finished; few = omega arith })

pub can-finish : (m : MachineView) → IsSound m → CanFinish m
can-finish m s = finish (steps_left m) m s (omega arith)
