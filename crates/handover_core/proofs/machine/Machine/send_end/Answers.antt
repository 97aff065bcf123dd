use Rattle.std.proofs.Common.{◌≡◌, true, refl, sym, subst}
use Rattle.handover_core.specs.declared.event.Event.TheVariants.{SendEnd}
use Rattle.handover_core.specs.State.{MachineView}
use Rattle.handover_core.specs.Machine.{enabled}
use Rattle.handover_core.proofs.DispatcherNexts.{send_end-next, end-listed, end-queued}
use Rattle.handover_core.proofs.Nexts.{next-machine}
use Rattle.handover_core.proofs.machine.Machine.send_end.Goals as goal

pub post-requires-clause-listed : goal.post-requires-clause-listed
post-requires-clause-listed c =
    let h = subst (λ (m : MachineView). enabled m (SendEnd c.args.core) ≡ true) (sym c.self.view_is) c.requires in
    end-listed c.self.inside c.args.core c.self.invariant h

pub post-requires-clause-queued : goal.post-requires-clause-queued
post-requires-clause-queued c =
    let h = subst (λ (m : MachineView). enabled m (SendEnd c.args.core) ≡ true) (sym c.self.view_is) c.requires in
    λ d. end-queued c.self.inside c.args.core d c.self.invariant h

pub invariant_of-self : goal.invariant_of-self
invariant_of-self c =
    let h = subst (λ (m : MachineView). enabled m (SendEnd c.args.core) ≡ true) (sym c.self.view_is) c.requires in
    next-machine c.self.inside _ (SendEnd c.args.core) c.self.invariant h
    (send_end-next c.self.inside _ c.args.core c.self.invariant h
    (record { packets = refl; pool = refl; first_moves = refl; claims = refl; releases = refl; dispatched = c.post.ensures.dispatched; room = c.post.ensures.room; cores = c.post.ensures.cores; rooms = c.post.ensures.rooms })
    refl refl refl refl refl refl refl)
