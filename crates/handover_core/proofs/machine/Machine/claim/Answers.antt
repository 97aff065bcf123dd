use Rattle.std.specs.Vec.{with_item}
use Rattle.std.proofs.Common.{◌≡◌, ◌+◌, ◌*◌, true, None, refl, sym, ap, ◌∙◌, subst, arith, ℕ, set}
use Rattle.handover_core.specs.declared.bucket_state.BucketState.{BucketState}
use Rattle.handover_core.specs.declared.machine.Machine.TheInside.{Inside}
use Rattle.handover_core.specs.declared.event.Event.TheVariants.{Claim}
use Rattle.handover_core.specs.State.{MachineView, hand_at}
use Rattle.handover_core.specs.Machine.{enabled, step}
use Rattle.handover_core.proofs.ClaimNexts.{claim-reads, claim-next}
use Rattle.handover_core.proofs.Nexts.{next-machine}
use Rattle.handover_core.proofs.machine.Machine.claim.Goals as goal

pub overflow_add-done : goal.overflow_add-done
overflow_add-done c =
    let h = subst (λ (m : MachineView). enabled m (Claim c.args.core c.args.bucket) ≡ true) (sym c.self.view_is) c.requires in
    let hand = c.in-Parks.ensures ∙ ap (λ (m : MachineView). hand_at m c.args.core c.args.bucket) (sym c.self.view_is) in
    let r = claim-reads c.self.inside c.args.core c.args.bucket c.in-Parks.first c.in-Parks.count c.index.result.now c.self.invariant h c.index.ensures hand in
    let d = r.done in let e = c.done_on.ensures in omega arith

pub overflow_add-self : goal.overflow_add-self
overflow_add-self c =
    let h = subst (λ (m : MachineView). enabled m (Claim c.args.core c.args.bucket) ≡ true) (sym c.self.view_is) c.requires in
    let hand = c.in-Parks.ensures ∙ ap (λ (m : MachineView). hand_at m c.args.core c.args.bucket) (sym c.self.view_is) in
    let r = claim-reads c.self.inside c.args.core c.args.bucket c.in-Parks.first c.in-Parks.count c.index.result.now c.self.invariant h c.index.ensures hand in
    let d = r.free in let e = c.self.invariant.few_cells in omega arith

pub invariant_of-self : goal.invariant_of-self
invariant_of-self c =
    let h = subst (λ (m : MachineView). enabled m (Claim c.args.core c.args.bucket) ≡ true) (sym c.self.view_is) c.requires in
    let hand = c.in-Parks.ensures ∙ ap (λ (m : MachineView). hand_at m c.args.core c.args.bucket) (sym c.self.view_is) in
    let r = claim-reads c.self.inside c.args.core c.args.bucket c.in-Parks.first c.in-Parks.count c.index.result.now c.self.invariant h c.index.ensures hand in
    next-machine c.self.inside _ (Claim c.args.core c.args.bucket) c.self.invariant h
    (claim-next c.self.inside _ c.args.core c.args.bucket c.in-Parks.first c.in-Parks.count (c.done_on.result + c.in-Parks.count) c.index_mut.result.now c.claim.new.self c.index.result.now c.index_mut-state.result.now
    c.self.invariant h r c.index.ensures c.index_mut-state.ensures.value hand (ap (λ (n : ℕ). n + c.in-Parks.count) c.done_on.ensures) c.index_mut.ensures.value c.claim.ensures.state c.claim.ensures.room
    (record { packets = refl; pool = refl; first_moves = refl; sent = refl; sent_of = refl; moves = refl; dispatched = refl; ending = refl; ends = refl }) refl refl refl
    (ap (λ (n : ℕ). set c.self.inside.buckets.items c.args.bucket (let s : BucketState = record c.index_mut-state.result.now { word = 2 * n + 2; shelf = None } in s)) c.from.ensures) refl)

pub returns : goal.returns
returns c =
    let h = subst (λ (m : MachineView). enabled m (Claim c.args.core c.args.bucket) ≡ true) (sym c.self.view_is) c.requires in
    let hand = c.in-Parks.ensures ∙ ap (λ (m : MachineView). hand_at m c.args.core c.args.bucket) (sym c.self.view_is) in
    let r = claim-reads c.self.inside c.args.core c.args.bucket c.in-Parks.first c.in-Parks.count c.index.result.now c.self.invariant h c.index.ensures hand in
    let i = c.self.inside in
    let s : BucketState = record c.index_mut-state.result.now { word = 2 * c.from.result + 2; shelf = None } in
    let n : Inside = record i { free = i.free + c.in-Parks.count; claims = i.claims + 1; buckets = with_item i.buckets c.args.bucket s; cores = with_item i.cores c.args.core c.claim.new.self } in
    (claim-next i n c.args.core c.args.bucket c.in-Parks.first c.in-Parks.count (c.done_on.result + c.in-Parks.count) c.index_mut.result.now c.claim.new.self c.index.result.now c.index_mut-state.result.now
    c.self.invariant h r c.index.ensures c.index_mut-state.ensures.value hand (ap (λ (n : ℕ). n + c.in-Parks.count) c.done_on.ensures) c.index_mut.ensures.value c.claim.ensures.state c.claim.ensures.room
    (record { packets = refl; pool = refl; first_moves = refl; sent = refl; sent_of = refl; moves = refl; dispatched = refl; ending = refl; ends = refl }) refl refl refl
    (ap (λ (n : ℕ). set i.buckets.items c.args.bucket (let s : BucketState = record c.index_mut-state.result.now { word = 2 * n + 2; shelf = None } in s)) c.from.ensures) refl).state
    ∙ ap (λ (m : MachineView). step m (Claim c.args.core c.args.bucket)) c.self.view_is
