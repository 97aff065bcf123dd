use Rattle.std.proofs.Common.{ap, ◌∙◌}
use Rattle.rss_base.specs.declared.link.Link.TheVariants.{Ethernet}
use Rattle.packet_fields.specs.Frame.{fields_of}
use Rattle.traffic_gen.specs.Packet.{length_of}
use Rattle.traffic_gen.specs.Traffic.{nanos_of}
use Rattle.traffic_gen.proofs.Records.{frame_is-even, frame_is-odd}
use Rattle.traffic_gen.proofs.info.info_at.Goals as goal

pub returns-then-flow-eq0 : goal.returns-then-flow-eq0
returns-then-flow-eq0 c =
    let index = c.args.index in
    c.tcp_info.ensures ∙ ap (λ frame. fields_of Ethernet frame (nanos_of index) (length_of index)) (frame_is-even c.flow_of-flow.result c.args.number index c.flow_of-flow.ensures.flow c.if-flow-eq0.true)

pub returns-else-flow-eq0 : goal.returns-else-flow-eq0
returns-else-flow-eq0 c =
    let index = c.args.index in
    c.udp_info.ensures ∙ ap (λ frame. fields_of Ethernet frame (nanos_of index) (length_of index)) (frame_is-odd c.flow_of-flow.result c.args.number index c.flow_of-flow.ensures.flow c.if-flow-eq0.false)
