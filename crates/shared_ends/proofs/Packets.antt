-- A packet's place in a run that is known by another name.
use Rattle.std.proofs.Common.{◌≡◌, ℕ, List, Option, sym, subst}
use Rattle.packet_fields.specs.declared.packet.PacketInfo.{PacketInfo}
use Rattle.toeplitz.specs.declared.key.Key.{Key}
use Rattle.shared_ends.specs.Packets.{IsPacketAt}

pub packet_in : (x : Option (List PacketInfo)) (key key' : Key) (n n' b place : ℕ) (p : PacketInfo) → key' ≡ key → n' ≡ n → IsPacketAt x key n b place p → IsPacketAt x key' n' b place p
packet_in x key key' n n' b place p keys counts at = subst (λ (z : Key × ℕ). IsPacketAt x z.0 z.1 b place p) (λ i. (sym keys i, sym counts i)) at
