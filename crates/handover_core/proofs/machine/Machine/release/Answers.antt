use Rattle.std.specs.Vec.{with_item}
use Rattle.std.proofs.Common.{◌≡◌, ◌+◌, ◌*◌, true, Some, refl, sym, ap, ◌∙◌, subst, ℕ, set}
use Rattle.handover_core.specs.declared.bucket_state.BucketState.{BucketState}
use Rattle.handover_core.specs.declared.machine.Machine.TheInside.{Inside}
use Rattle.handover_core.specs.declared.event.Event.TheVariants.{Release}
use Rattle.handover_core.specs.State.{MachineView, hand_at}
use Rattle.handover_core.specs.Machine.{enabled, step}
use Rattle.handover_core.proofs.ClaimNexts.{release-next}
use Rattle.handover_core.proofs.Nexts.{next-machine}
use Rattle.handover_core.proofs.machine.Machine.release.Goals as goal

pub invariant_of-self : goal.invariant_of-self
invariant_of-self c =
    let h = subst (λ (m : MachineView). enabled m (Release c.args.core c.args.bucket) ≡ true) (sym c.self.view_is) c.requires in
    let hand = c.in-Leaves.ensures ∙ ap (λ (m : MachineView). hand_at m c.args.core c.args.bucket) (sym c.self.view_is) in
    next-machine c.self.inside _ (Release c.args.core c.args.bucket) c.self.invariant h
    (release-next c.self.inside _ c.args.core c.args.bucket c.in-Leaves.start c.in-Leaves.done c.index_mut.result.now c.set_duty.new.self c.index_mut-state.result.now
    c.self.invariant h c.index_mut-state.ensures.value hand c.index_mut.ensures.value c.set_duty.ensures.state c.set_duty.ensures.room
    (record { packets = refl; pool = refl; first_moves = refl; sent = refl; sent_of = refl; moves = refl; dispatched = refl; ending = refl; ends = refl }) refl refl refl
    (ap (λ (n : ℕ). set c.self.inside.buckets.items c.args.bucket (let s : BucketState = record c.index_mut-state.result.now { word = 2 * n + 1; shelf = Some c.in-Leaves.done } in s)) c.from.ensures) refl)

pub returns : goal.returns
returns c =
    let h = subst (λ (m : MachineView). enabled m (Release c.args.core c.args.bucket) ≡ true) (sym c.self.view_is) c.requires in
    let hand = c.in-Leaves.ensures ∙ ap (λ (m : MachineView). hand_at m c.args.core c.args.bucket) (sym c.self.view_is) in
    let i = c.self.inside in
    let s : BucketState = record c.index_mut-state.result.now { word = 2 * c.from.result + 1; shelf = Some c.in-Leaves.done } in
    let n : Inside = record i { releases = i.releases + 1; buckets = with_item i.buckets c.args.bucket s; cores = with_item i.cores c.args.core c.set_duty.new.self } in
    (release-next i n c.args.core c.args.bucket c.in-Leaves.start c.in-Leaves.done c.index_mut.result.now c.set_duty.new.self c.index_mut-state.result.now
    c.self.invariant h c.index_mut-state.ensures.value hand c.index_mut.ensures.value c.set_duty.ensures.state c.set_duty.ensures.room
    (record { packets = refl; pool = refl; first_moves = refl; sent = refl; sent_of = refl; moves = refl; dispatched = refl; ending = refl; ends = refl }) refl refl refl
    (ap (λ (n : ℕ). set i.buckets.items c.args.bucket (let s : BucketState = record c.index_mut-state.result.now { word = 2 * n + 1; shelf = Some c.in-Leaves.done } in s)) c.from.ensures) refl).state
    ∙ ap (λ (m : MachineView). step m (Release c.args.core c.args.bucket)) c.self.view_is
