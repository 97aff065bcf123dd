use Rattle.std.proofs.Common.{refl, arith, ◌+◌, ◌-◌, ◌%◌, ◌^◌}
use Rattle.traffic_gen.proofs.Fields.{tcp_fields}
use Rattle.traffic_gen.specs.Packet.{length_of, flags_of}
use Rattle.traffic_gen.specs.Traffic.{nanos_of}
use Rattle.traffic_gen.proofs.info.tcp_info.Goals as goal

pub returns : goal.returns
returns c =
    let index = c.args.index in
    let flow = c.args.flow in
    let fields = tcp_fields (length_of index - 14) (index % 2 ^ 16) (0x0a000000 + flow) (1024 + flow) index (flags_of index) (nanos_of index) (length_of index) (omega arith) (omega arith) (omega arith) (omega arith) in
    rw (fields, c.from-2.ensures, c.from.ensures, c.from-3.ensures, c.nanos_of.ensures, c.length_of.ensures, c.flags_of.ensures) refl
