-- The keys of a list of packets in the order of their first packets.
use Rattle.std.specs.Prelude.{Bool, List, [], ◌∷◌, ◌++◌, fold, if◌then◌else◌}
use Rattle.std.specs.List.{list_any}
use Rattle.std.specs.Ordering.{is_eq}
use Rattle.packet_fields.specs.declared.key.FlowKey.{FlowKey}
use Rattle.packet_fields.specs.declared.packet.PacketInfo.{PacketInfo}
use Rattle.packet_fields.specs.Key.{key_cmp}

-- whether two keys are one
abbrev pub same_key : FlowKey → FlowKey → Bool
same_key a b = is_eq (key_cmp a b)

-- the keys with one more behind them, unless it is among them
abbrev pub with_key : List FlowKey → FlowKey → List FlowKey
with_key keys key = if list_any (same_key key) keys then keys else keys ++ key ∷ []

-- the keys of the packets, each once, in the order of their first packets
abbrev pub first_keys : List PacketInfo → List FlowKey
first_keys packets = fold (λ keys p. with_key keys p.key) [] packets
