use Rattle.std.proofs.Common.{◌≡◌, true, refl, sym, subst}
use Rattle.handover_core.specs.declared.bucket_state.BucketState.{BucketState}
use Rattle.handover_core.specs.declared.event.Event.TheVariants.{Place}
use Rattle.handover_core.specs.State.{MachineView}
use Rattle.handover_core.specs.Machine.{enabled, step}
use Rattle.handover_core.specs.Inside.{state_of}
use Rattle.handover_core.proofs.Enabled.{is_enabled}
use Rattle.handover_core.proofs.DispatcherNexts.{entry-done}
use Rattle.handover_core.proofs.Nexts.{next-machine}
use Rattle.handover_core.proofs.machine.Machine.place.Goals as goal

pub invariant_of-self : goal.invariant_of-self
invariant_of-self c =
    let i = c.self.inside in
    let h = subst (λ (m : MachineView). enabled m (Place c.args.bucket c.args.to) ≡ true) (sym c.self.view_is) c.requires in
    next-machine i _ (Place c.args.bucket c.args.to) c.self.invariant h
    (entry-done i _ c.args.bucket c.index_mut.result.now (λ (s : BucketState). let r : BucketState = record s { owner = c.args.to } in r) (step (state_of i) (Place c.args.bucket c.args.to)) c.self.invariant (is_enabled (state_of i) (Place c.args.bucket c.args.to) h).0 c.index_mut.ensures.value refl
    (record { packets = refl; pool = refl; first_moves = refl; sent = refl; sent_of = refl; moves = refl; dispatched = refl; ending = refl; ends = refl }) refl refl refl refl refl)
