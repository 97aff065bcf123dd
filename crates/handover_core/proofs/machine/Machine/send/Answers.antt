use Rattle.std.specs.Vec.{with_item}
use Rattle.handover_core.specs.declared.machine.Machine.TheInside.{Inside}
use Rattle.std.proofs.Common.{◌≡◌, ◌+◌, ◌-◌, true, refl, sym, ap, ◌∙◌, subst, arith}
use Rattle.handover_core.specs.declared.event.Event.TheVariants.{Send}
use Rattle.handover_core.specs.State.{MachineView}
use Rattle.handover_core.specs.Machine.{enabled, step}
use Rattle.handover_core.proofs.DispatcherNexts.{send-reads, send-done, send-queued}
use Rattle.handover_core.proofs.Nexts.{next-machine}
use Rattle.handover_core.proofs.machine.Machine.send.Goals as goal

pub overflow_add-place : goal.overflow_add-place
overflow_add-place c =
    let f = (send-reads c.self.inside c.index-bucket.result.now c.index-place.result.now c.index-state.result.now c.self.invariant (subst (λ (m : MachineView). enabled m Send ≡ true) (sym c.self.view_is) c.requires)
    c.index-bucket.ensures c.index-state.ensures c.index-place.ensures).fits in omega arith

pub post-requires-clause-core : goal.post-requires-clause-core
post-requires-clause-core c =
    (send-reads c.self.inside c.index-bucket.result.now c.index-place.result.now c.index-state.result.now c.self.invariant (subst (λ (m : MachineView). enabled m Send ≡ true) (sym c.self.view_is) c.requires)
    c.index-bucket.ensures c.index-state.ensures c.index-place.ensures).owner

pub post-requires-clause-queued : goal.post-requires-clause-queued
post-requires-clause-queued c =
    let h = subst (λ (m : MachineView). enabled m Send ≡ true) (sym c.self.view_is) c.requires in
    λ d. send-queued c.self.inside c.index-state.result.now.owner d c.self.invariant h
    (send-reads c.self.inside c.index-bucket.result.now c.index-place.result.now c.index-state.result.now c.self.invariant h c.index-bucket.ensures c.index-state.ensures c.index-place.ensures).owner

pub invariant_of-self : goal.invariant_of-self
invariant_of-self c =
    let h = subst (λ (m : MachineView). enabled m Send ≡ true) (sym c.self.view_is) c.requires in
    let r = send-reads c.self.inside c.index-bucket.result.now c.index-place.result.now c.index-state.result.now c.self.invariant h c.index-bucket.ensures c.index-state.ensures c.index-place.ensures in
    next-machine c.self.inside _ Send c.self.invariant h
    (send-done c.self.inside _ c.index-bucket.result.now c.index-place.result.now c.index-state.result.now c.kind_at-kind.result c.self.invariant h r c.kind_at-kind.ensures
    (record { packets = refl; pool = refl; first_moves = refl; claims = refl; releases = refl; dispatched = c.post.ensures.dispatched; room = c.post.ensures.room; cores = c.post.ensures.cores; rooms = c.post.ensures.rooms })
    refl refl refl refl refl refl refl)

pub returns : goal.returns
returns c =
    let h = subst (λ (m : MachineView). enabled m Send ≡ true) (sym c.self.view_is) c.requires in
    let r = send-reads c.self.inside c.index-bucket.result.now c.index-place.result.now c.index-state.result.now c.self.invariant h c.index-bucket.ensures c.index-state.ensures c.index-place.ensures in
    let n : Inside = record c.self.inside { sent = c.self.inside.sent + 1; sent_of = with_item c.self.inside.sent_of c.index-bucket.result.now (c.index-place.result.now + 1); free = c.self.inside.free - 1; dispatched = c.post.new.dispatched; cores = c.post.new.cores } in
    (send-done c.self.inside n c.index-bucket.result.now c.index-place.result.now c.index-state.result.now c.kind_at-kind.result c.self.invariant h r c.kind_at-kind.ensures
    (record { packets = refl; pool = refl; first_moves = refl; claims = refl; releases = refl; dispatched = c.post.ensures.dispatched; room = c.post.ensures.room; cores = c.post.ensures.cores; rooms = c.post.ensures.rooms })
    refl refl refl refl refl refl refl).state ∙ ap (λ (m : MachineView). step m Send) c.self.view_is
