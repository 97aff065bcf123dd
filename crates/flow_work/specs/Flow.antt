-- The flows of a list of packets.
use Rattle.std.specs.Prelude.{List, fold, filter}
use Rattle.std.specs.Ordering.{is_eq}
use Rattle.packet_fields.specs.declared.key.FlowKey.{FlowKey}
use Rattle.packet_fields.specs.declared.packet.PacketInfo.{PacketInfo}
use Rattle.packet_fields.specs.Key.{key_cmp}

-- the packets with this key, in their order
abbrev pub packets_of : FlowKey → List PacketInfo → List PacketInfo
packets_of key packets = filter (λ p. is_eq (key_cmp key p.key)) packets

-- the state of a flow: a work's fold over its packets
abbrev pub flow_state : {S : Type 0} → S → (S → PacketInfo → S) → FlowKey → List PacketInfo → S
flow_state opening after key packets = fold after opening (packets_of key packets)
