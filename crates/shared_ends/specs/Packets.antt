-- The packets that two parties work.
use Rattle.std.specs.Prelude.{◌≡◌, ℕ, List, Option, Some, slice_get}
use Rattle.packet_fields.specs.declared.packet.PacketInfo.{PacketInfo}
use Rattle.toeplitz.specs.declared.key.Key.{Key}
use Rattle.toeplitz.specs.Bucket.{bucket_of}
use Rattle.handover_words.specs.Next.{IsNext}

-- the packet is of the bucket, and stands at this place among its packets where those of the run are named
abbrev pub IsPacketAt : Option (List PacketInfo) → Key → ℕ → ℕ → ℕ → PacketInfo → Type 0
IsPacketAt x key buckets b place p = (bucket_of key buckets p ≡ b) × IsNext x key buckets b place p

-- these are the first packets of the bucket, in their order
abbrev pub AreFirstOf : Option (List PacketInfo) → Key → ℕ → ℕ → List PacketInfo → Type 0
AreFirstOf x key buckets b packets = (place : ℕ) (p : PacketInfo) → slice_get packets place ≡ Some p → IsPacketAt x key buckets b place p
