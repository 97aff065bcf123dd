use Rattle.std.proofs.Common.{◌∙◌, sym, rules}
use Rattle.pcapng_reader.proofs.Fronts.{record_room}
use Rattle.pcapng_reader.proofs.look.look_behind.Goals as goal

pub look_at_record-requires-clause-sized : goal.look_at_record-requires-clause-sized
look_at_record-requires-clause-sized c =
    record_room c.args.scope.now c.args.block c.args.front.now c.kind_at-kind.result c.order-order.result c.interface_at.result c.in-Some.interface c.requires.sound c.order-order.ensures c.kind_at-kind.ensures (search rules) c.interface_at.ensures
    (sym c.interface.ensures ∙ c.in-Some.is)
