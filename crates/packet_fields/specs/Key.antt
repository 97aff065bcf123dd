-- The order of flow keys.
use Rattle.std.specs.Prelude.{ℕ}
use Rattle.std.specs.Ordering.{nat_cmp, ordering_then}
use Rattle.std.specs.declared.cmp.Ordering.{Ordering}
use Rattle.packet_fields.specs.declared.key.Class.{Class}
use Rattle.packet_fields.specs.declared.key.Class.TheVariants.{Tcp, Udp, Ip, Tcp6, Udp6, Ip6, Other}
use Rattle.packet_fields.specs.declared.key.FlowKey.{FlowKey}

-- the place of a class in the order
abbrev pub class_rank : Class → ℕ
class_rank Tcp = 0
class_rank Udp = 1
class_rank Ip = 2
class_rank Tcp6 = 3
class_rank Udp6 = 4
class_rank Ip6 = 5
class_rank Other = 6

-- the order of keys: by class, and then by each field in turn
abbrev pub key_cmp : FlowKey → FlowKey → Ordering
key_cmp a b =
    ordering_then (nat_cmp (class_rank a.class) (class_rank b.class))
    (ordering_then (nat_cmp a.source b.source)
    (ordering_then (nat_cmp a.destination b.destination)
    (ordering_then (nat_cmp a.source_port b.source_port)
    (ordering_then (nat_cmp a.destination_port b.destination_port)
    (nat_cmp a.protocol b.protocol)))))
