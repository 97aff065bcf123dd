-- The promises of every run.
use Rattle.std.proofs.Common.{◌≡◌, ℕ, ◌+◌, ◌*◌, ◌<◌, List, [], ◌∷◌, ◌++◌, length, sym, ap, ◌∙◌, subst, Some, arith}
use Rattle.std.proofs.lemmas.List.{length-map, length-replicate}
use Rattle.std.proofs.lemmas.List.Sums.{sum_by-cons}
use Rattle.std.specs.Prelude.{sum_by, replicate}
use Rattle.handover_core.specs.declared.event.Event.{Event}
use Rattle.handover_core.specs.State.{Away, CoreState, MachineView}
use Rattle.handover_core.specs.declared.bucket_state.BucketState.{BucketState}
use Rattle.handover_core.specs.Machine.{step, steps_left}
use Rattle.handover_core.specs.Bucket.{places_from}
use Rattle.handover_core.specs.Runs.{Runs, IsStart}
use Rattle.handover_core.specs.Sound.{IsSound}
use Rattle.handover_core.specs.Promises.{counts, worked, worked_in}
use Rattle.handover_core.proofs.Enabled.{is_enabled}
use Rattle.handover_core.proofs.First.{first-sound, worked-first}
use Rattle.handover_core.proofs.Steps.{runs-sound, step-sound}
use Rattle.handover_core.proofs.WorkedRuns.{runs-add}
use Rattle.handover_core.proofs.Bound.{falls, steps-first}

pub start-sound : (m : MachineView) → IsStart m → IsSound m
start-sound m s = subst IsSound (sym s.is) (first-sound s.owners s.cores s.packets s.pool s.moves s.made)

pub run-sound : (start last : MachineView) (events : List Event) → IsStart start → Runs start events last → IsSound last
run-sound start last events s r = runs-sound start events last (start-sound start s) r

start-worked : (m : MachineView) (b : ℕ) → IsStart m → b < length m.buckets → worked m b ≡ 0
start-worked m b s l =
    let P : MachineView → Type 0 = λ m. b < length m.buckets → worked m b ≡ 0 in
    subst P (sym s.is) (λ k. worked-first s.owners s.cores s.packets s.pool s.moves b (let n = length-map s.owners (λ (o : ℕ). let x : BucketState = record { owner = o; start = 0; seen = 0; word = 1; shelf = Some 0 } in x) in omega arith)) l

pub run-worked : (start last : MachineView) (events : List Event) (b : ℕ) → IsStart start → Runs start events last → b < length start.buckets → worked_in b start events ≡ places_from 0 (worked last b)
run-worked start last events b s r l =
    ap (λ (n : ℕ). places_from 0 n ++ worked_in b start events) (sym (start-worked start b s l)) ∙ runs-add start events last b (start-sound start s) r l

pub start-steps : (m : MachineView) → IsStart m → steps_left m ≡ 2 * (length m.packets + m.first_moves + length m.cores) + 2 * (m.first_moves + length m.buckets)
start-steps m s =
    let P : MachineView → Type 0 = λ m. steps_left m ≡ 2 * (length m.packets + m.first_moves + length m.cores) + 2 * (m.first_moves + length m.buckets) in
    subst P (sym s.is)
    (let e = steps-first s.owners s.cores s.packets s.pool s.moves in
    let fresh : CoreState = record { queue = []; taken = []; hands = replicate (length s.owners) Away } in
    let n = length-replicate s.cores fresh in
    let k = length-map s.owners (λ (o : ℕ). let x : BucketState = record { owner = o; start = 0; seen = 0; word = 1; shelf = Some 0 } in x) in omega arith)

pub run-steps : (m : MachineView) (events : List Event) (last : MachineView) → IsSound m → Runs m events last → steps_left last + sum_by counts events ≡ steps_left m
run-steps m [] last s r = let e = ap steps_left r in omega arith
run-steps m (e ∷ es) last s r =
    let i = is_enabled m e r.0 in
    let f = falls m e s i in
    let g = run-steps (step m e) es last (step-sound m e i s) r.1 in
    let h = sum_by-cons counts e es in omega arith
