use Rattle.std.proofs.Common.{◌≡◌, ◌≤◌, ◌<◌, ◌+◌, sym, ap, ◌∙◌, arith, [], ◌∷◌, length-append}
use Rattle.flow_work.specs.declared.work.TheConstants.{MOST_PACKETS}
use Rattle.bucket_table.specs.Table.{TableOf}
use Rattle.bucket_table.proofs.SameKey.{derived_eq, derived_is}
use Rattle.bucket_table.proofs.Within.{kept_grown}
use Rattle.bucket_table.proofs.Worked.{stands_grown, bytes_grown}
use Rattle.bucket_table.proofs.table.BucketTable.work.Goals as goal

pub work_flow-self-inside-requires-after_bounds : goal.work_flow-self-inside-requires-after_bounds
work_flow-self-inside-requires-after_bounds g c κs within =
    let same : c.deref_mut.result.now ≡ c.self.inside.flows.value = c.deref_mut.ensures.value in
    let done_is : c.self.inside.done ≡ c.args.self.now.done = ap (λ (t : TableOf g.row.W-State.Denot). t.done) c.self.view_is in
    (c.self.inside.done, omega (arith, done_is, c.requires.room), rw same c.self.invariant.states)

pub invariant_of-self : goal.invariant_of-self
invariant_of-self g c =
    let same : c.deref_mut.result.now ≡ c.self.inside.flows.value = c.deref_mut.ensures.value in
    let done_is : c.self.inside.done ≡ c.args.self.now.done = ap (λ (t : TableOf g.row.W-State.Denot). t.done) c.self.view_is in
    let room : c.self.inside.done < MOST_PACKETS = omega (arith, done_is, c.requires.room) in
    let small : c.from.result ≤ 4294967295 = omega (arith, c.from.ensures) in
    let grown = rw same at c.work_flow-self-inside.ensures in
    kept_grown g.W.FlowWork.stands_for derived_eq c.self.inside.flows.value.entries c.work_flow-self-inside.new.flows.entries c.self.inside.done c.self.inside.bytes c.from.result MOST_PACKETS c.args.packet.now.key
    g.W.FlowWork.opening _ c.work_flow-self-inside.result c.self.invariant room small grown.refused grown.worked grown.more grown.none

pub returns-clause-stands : goal.returns-clause-stands
returns-clause-stands g c = λ packets stands room.
    let p = c.args.packet.now in
    let opening = g.W.FlowWork.opening in
    let after = g.W.FlowWork.after in
    let is = c.self.view_is in
    let same : c.deref_mut.result.now ≡ c.self.inside.flows.value = c.deref_mut.ensures.value in
    let worked = rw same at c.work_flow-self-inside.ensures.worked in
    record {
      flows = stands_grown opening after derived_eq derived_is packets p c.self.inside.flows.value.entries c.work_flow-self-inside.new.flows.entries (ap (λ (t : TableOf g.row.W-State.Denot). t.flows) is ∙ stands.flows) (worked room);
      done = ap (λ (t : TableOf g.row.W-State.Denot). t.done + 1) is ∙ (ap (λ n. n + 1) stands.done ∙ sym (length-append packets (p ∷ [])));
      bytes = ap (λ n. c.self.inside.bytes + n) c.from.ensures ∙ (ap (λ (t : TableOf g.row.W-State.Denot). t.bytes + p.original) is ∙ (ap (λ n. n + p.original) stands.bytes ∙ sym (bytes_grown opening after packets p)));
    }
