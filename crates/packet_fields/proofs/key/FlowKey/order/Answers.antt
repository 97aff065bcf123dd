use Rattle.std.proofs.Common.{◌∙◌}
use Rattle.packet_fields.specs.KeyOrder.{derived_is}
use Rattle.packet_fields.proofs.key.FlowKey.order.Goals as goal

pub returns : goal.returns
returns c = c.cmp.ensures ∙ derived_is c.args.self.now c.args.other.now
