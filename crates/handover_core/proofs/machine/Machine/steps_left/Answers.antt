use Rattle.std.proofs.Common.{ap, ◌∙◌, List, Bool, map, arith, length}
use Rattle.std.specs.Prelude.{count_by, not, sum_by}
use Rattle.handover_core.specs.declared.worker_core.WorkerCore.{WorkerCore}
use Rattle.handover_core.specs.State.{CoreState}
use Rattle.handover_core.specs.Cores.{core_state}
use Rattle.handover_core.proofs.Numbers.{queued-few, are-small, steps-are}
use Rattle.handover_core.proofs.machine.Machine.steps_left.Goals as goal

pub queued-requires : goal.queued-requires
queued-requires c =
    let e = ap (λ (z : List WorkerCore). sum_by (λ (core : CoreState). length core.queue) (map core_state z)) c.deref-2.ensures.value in
    let q = queued-few c.self.inside c.self.invariant in
    let a = c.self.invariant.sound.shaped.few in let b = c.self.invariant.moves in let d = c.self.invariant.few_cores in
    omega arith

pub overflow_add-result : goal.overflow_add-result
overflow_add-result c =
    let s = are-small c.self.inside c.ends_left.result c.queued.result c.self.invariant (c.ends_left.ensures ∙ ap (λ (z : List Bool). count_by not z) c.deref.ensures.value)
    (c.queued.ensures ∙ ap (λ (z : List WorkerCore). sum_by (λ (core : CoreState). length core.queue) (map core_state z)) c.deref-2.ensures.value) in
    let a = s.sends in let b = c.len.ensures in omega arith

pub overflow_add-result-2 : goal.overflow_add-result-2
overflow_add-result-2 c =
    let s = are-small c.self.inside c.ends_left.result c.queued.result c.self.invariant (c.ends_left.ensures ∙ ap (λ (z : List Bool). count_by not z) c.deref.ensures.value)
    (c.queued.ensures ∙ ap (λ (z : List WorkerCore). sum_by (λ (core : CoreState). length core.queue) (map core_state z)) c.deref-2.ensures.value) in
    let a = s.all in let b = c.len.ensures in let d = c.len-2.ensures in omega arith

pub returns : goal.returns
returns c =
    let z = steps-are c.self.inside c.args.self.now c.ends_left.result c.queued.result c.self.invariant c.self.view_is (c.ends_left.ensures ∙ ap (λ (z : List Bool). count_by not z) c.deref.ensures.value)
    (c.queued.ensures ∙ ap (λ (z : List WorkerCore). sum_by (λ (core : CoreState). length core.queue) (map core_state z)) c.deref-2.ensures.value) in
    let b = c.len.ensures in let d = c.len-2.ensures in rw (b, d) z
