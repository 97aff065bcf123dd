use Rattle.std.proofs.Common.{Bool, subst}
use Rattle.std.specs.List.{IsDistinct}
use Rattle.std.specs.Map.{keys_of}
use Rattle.packet_fields.specs.declared.key.FlowKey.{FlowKey}
use Rattle.bucket_table.specs.FirstKeys.{same_key}
use Rattle.bucket_table.specs.Table.{TableOf}
use Rattle.bucket_table.proofs.SameKey.{derived_is}
use Rattle.bucket_table.proofs.table.BucketTable.flow_count.Goals as goal

pub returns-clause-once : goal.returns-clause-once
returns-clause-once g c =
    let once = subst (λ (eq : FlowKey → FlowKey → Bool). IsDistinct eq (keys_of c.self.inside.flows.value.entries)) derived_is (rw (c.deref.ensures) at c.len.ensures.unique) in
    subst (λ (t : TableOf g.row.W-State.Denot). IsDistinct same_key (keys_of t.flows)) c.self.view_is once
