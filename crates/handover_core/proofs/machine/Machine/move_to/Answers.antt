use Rattle.std.specs.Vec.{with_item}
use Rattle.std.proofs.Common.{◌≡◌, ◌-◌, true, refl, sym, ap, ◌∙◌, subst}
use Rattle.handover_core.specs.declared.bucket_state.BucketState.{BucketState}
use Rattle.handover_core.specs.declared.machine.Machine.TheInside.{Inside}
use Rattle.handover_core.specs.declared.event.Event.TheVariants.{Move}
use Rattle.handover_core.specs.State.{MachineView}
use Rattle.handover_core.specs.Machine.{enabled, step}
use Rattle.handover_core.specs.Inside.{state_of}
use Rattle.handover_core.proofs.Enabled.{is_enabled}
use Rattle.handover_core.proofs.DispatcherNexts.{entry-reads, move-done, move-queued}
use Rattle.handover_core.proofs.Nexts.{next-machine}
use Rattle.handover_core.proofs.machine.Machine.move_to.Goals as goal

pub post-requires-clause-queued : goal.post-requires-clause-queued
post-requires-clause-queued c =
    let i = c.self.inside in
    let h = subst (λ (m : MachineView). enabled m (Move c.args.bucket c.args.to) ≡ true) (sym c.self.view_is) c.requires in
    λ d. move-queued i c.args.bucket c.args.to c.index.result.now.owner d c.self.invariant h
    (entry-reads i c.args.bucket c.index-place.result.now c.index.result.now c.self.invariant (is_enabled (state_of i) (Move c.args.bucket c.args.to) h).0 c.index.ensures c.index-place.ensures).owner

pub invariant_of-self : goal.invariant_of-self
invariant_of-self c =
    let i = c.self.inside in
    let h = subst (λ (m : MachineView). enabled m (Move c.args.bucket c.args.to) ≡ true) (sym c.self.view_is) c.requires in
    let r = entry-reads i c.args.bucket c.index-place.result.now c.index.result.now c.self.invariant (is_enabled (state_of i) (Move c.args.bucket c.args.to) h).0 c.index.ensures c.index-place.ensures in
    next-machine i _ (Move c.args.bucket c.args.to) c.self.invariant h
    (move-done i _ c.args.bucket c.args.to c.index-place.result.now c.index.result.now c.index_mut-state.result.now c.self.invariant h r c.index_mut-state.ensures.value
    (record { packets = refl; pool = refl; first_moves = refl; claims = refl; releases = refl; dispatched = c.post.ensures.dispatched; room = c.post.ensures.room; cores = c.post.ensures.cores; rooms = c.post.ensures.rooms })
    refl refl refl refl refl refl refl)

pub returns : goal.returns
returns c =
    let i = c.self.inside in
    let h = subst (λ (m : MachineView). enabled m (Move c.args.bucket c.args.to) ≡ true) (sym c.self.view_is) c.requires in
    let r = entry-reads i c.args.bucket c.index-place.result.now c.index.result.now c.self.invariant (is_enabled (state_of i) (Move c.args.bucket c.args.to) h).0 c.index.ensures c.index-place.ensures in
    let s : BucketState = record c.index_mut-state.result.now { owner = c.args.to; start = c.index-place.result.now } in
    let n : Inside = record i { moves = i.moves - 1; free = i.free - 1; dispatched = c.post.new.dispatched; buckets = with_item i.buckets c.args.bucket s; cores = c.post.new.cores } in
    (move-done i n c.args.bucket c.args.to c.index-place.result.now c.index.result.now c.index_mut-state.result.now c.self.invariant h r c.index_mut-state.ensures.value
    (record { packets = refl; pool = refl; first_moves = refl; claims = refl; releases = refl; dispatched = c.post.ensures.dispatched; room = c.post.ensures.room; cores = c.post.ensures.cores; rooms = c.post.ensures.rooms })
    refl refl refl refl refl refl refl).state ∙ ap (λ (m : MachineView). step m (Move c.args.bucket c.args.to)) c.self.view_is
