use Rattle.std.proofs.Common.{◌∙◌}
use Rattle.traffic_gen.specs.Packet.{tcp_frame, udp_frame}
use Rattle.traffic_gen.proofs.Records.{frame_is-even, frame_is-odd, record_is}
use Rattle.traffic_gen.proofs.record.put_record.Goals as goal

pub returns-then-flow-eq0-clause-bytes : goal.returns-then-flow-eq0-clause-bytes
returns-then-flow-eq0-clause-bytes c =
    let flow = c.flow_of-flow in
    c.put_tcp.ensures.bytes
    ∙ record_is c.args.number c.args.index (tcp_frame flow.result c.args.index) (frame_is-even flow.result c.args.number c.args.index flow.ensures.flow c.if-flow-eq0.true)

pub returns-else-flow-eq0-clause-bytes : goal.returns-else-flow-eq0-clause-bytes
returns-else-flow-eq0-clause-bytes c =
    let flow = c.flow_of-flow in
    c.put_udp.ensures.bytes
    ∙ record_is c.args.number c.args.index (udp_frame flow.result c.args.index) (frame_is-odd flow.result c.args.number c.args.index flow.ensures.flow c.if-flow-eq0.false)
