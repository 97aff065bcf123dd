use Rattle.std.proofs.Common.{◌≡◌, true, refl, sym, subst}
use Rattle.handover_core.specs.declared.bucket_state.BucketState.{BucketState}
use Rattle.handover_core.specs.declared.event.Event.TheVariants.{Look}
use Rattle.handover_core.specs.State.{MachineView}
use Rattle.handover_core.specs.Machine.{enabled, step}
use Rattle.handover_core.specs.Inside.{state_of}
use Rattle.handover_core.proofs.Enabled.{is_enabled}
use Rattle.handover_core.proofs.DispatcherNexts.{entry-done}
use Rattle.handover_core.proofs.Nexts.{next-machine}
use Rattle.handover_core.proofs.machine.Machine.look.Goals as goal

pub invariant_of-self : goal.invariant_of-self
invariant_of-self c =
    let i = c.self.inside in
    let h = subst (λ (m : MachineView). enabled m (Look c.args.bucket) ≡ true) (sym c.self.view_is) c.requires in
    next-machine i _ (Look c.args.bucket) c.self.invariant h
    (entry-done i _ c.args.bucket c.index_mut-state.result.now (λ (s : BucketState). let r : BucketState = record s { seen = s.word } in r) (step (state_of i) (Look c.args.bucket)) c.self.invariant (is_enabled (state_of i) (Look c.args.bucket) h) c.index_mut-state.ensures.value refl
    (record { packets = refl; pool = refl; first_moves = refl; sent = refl; sent_of = refl; moves = refl; dispatched = refl; ending = refl; ends = refl }) refl refl refl refl refl)
