use Rattle.std.proofs.Common.{refl, arith, ◌+◌, ◌-◌, ◌%◌, ◌^◌}
use Rattle.traffic_gen.proofs.Fields.{udp_fields}
use Rattle.traffic_gen.specs.Packet.{length_of}
use Rattle.traffic_gen.specs.Traffic.{nanos_of}
use Rattle.traffic_gen.proofs.info.udp_info.Goals as goal

pub returns : goal.returns
returns c =
    let index = c.args.index in
    let flow = c.args.flow in
    let fields = udp_fields (length_of index - 14) (index % 2 ^ 16) (0x0a000000 + flow) (1024 + flow) (length_of index - 34) (nanos_of index) (length_of index) (omega arith) (omega arith) (omega arith) (omega arith) in
    rw (fields, c.from-2.ensures, c.from.ensures, c.from-3.ensures, c.nanos_of.ensures, c.length_of.ensures) refl
