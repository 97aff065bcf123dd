use Rattle.std.specs.Vec.{with_item}
use Rattle.std.proofs.Common.{◌≡◌, ◌+◌, true, refl, sym, ap, ◌∙◌, subst}
use Rattle.handover_core.specs.declared.machine.Machine.TheInside.{Inside}
use Rattle.handover_core.specs.declared.event.Event.TheVariants.{Take}
use Rattle.handover_core.specs.State.{MachineView}
use Rattle.handover_core.specs.Machine.{enabled, step}
use Rattle.handover_core.proofs.WorkerNexts.{take-can, take-room, take-next}
use Rattle.handover_core.proofs.Nexts.{next-machine}
use Rattle.handover_core.proofs.machine.Machine.take.Goals as goal

pub take_front-freed-requires : goal.take_front-freed-requires
take_front-freed-requires c =
    let h = subst (λ (m : MachineView). enabled m (Take c.args.core) ≡ true) (sym c.self.view_is) c.requires in
    record {
      can = take-can c.self.inside c.args.core c.index_mut.result.now c.self.invariant h c.index_mut.ensures.value;
      room = take-room c.self.inside c.args.core c.index_mut.result.now c.self.invariant h c.index_mut.ensures.value;
    }

pub invariant_of-self : goal.invariant_of-self
invariant_of-self c =
    let h = subst (λ (m : MachineView). enabled m (Take c.args.core) ≡ true) (sym c.self.view_is) c.requires in
    next-machine c.self.inside _ (Take c.args.core) c.self.invariant h
    (take-next c.self.inside _ c.args.core c.take_front-freed.result c.index_mut.result.now c.take_front-freed.new.self c.self.invariant h c.index_mut.ensures.value c.take_front-freed.ensures.cells c.take_front-freed.ensures.state c.take_front-freed.ensures.room
    (record { packets = refl; pool = refl; first_moves = refl; sent = refl; sent_of = refl; moves = refl; dispatched = refl; ending = refl; ends = refl }) refl refl refl refl refl)

pub returns : goal.returns
returns c =
    let h = subst (λ (m : MachineView). enabled m (Take c.args.core) ≡ true) (sym c.self.view_is) c.requires in
    let i = c.self.inside in
    let n : Inside = record i { free = i.free + c.take_front-freed.result; cores = with_item i.cores c.args.core c.take_front-freed.new.self } in
    (take-next i n c.args.core c.take_front-freed.result c.index_mut.result.now c.take_front-freed.new.self c.self.invariant h c.index_mut.ensures.value c.take_front-freed.ensures.cells c.take_front-freed.ensures.state c.take_front-freed.ensures.room
    (record { packets = refl; pool = refl; first_moves = refl; sent = refl; sent_of = refl; moves = refl; dispatched = refl; ending = refl; ends = refl }) refl refl refl refl refl).state
    ∙ ap (λ (m : MachineView). step m (Take c.args.core)) c.self.view_is
