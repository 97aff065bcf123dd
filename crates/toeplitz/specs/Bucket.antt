-- The buckets of packets.
use Rattle.std.specs.Prelude.{◌==◌, ℕ, ◌%◌, List, length}
use Rattle.std.specs.List.{filter}
use Rattle.packet_fields.specs.declared.packet.PacketInfo.{PacketInfo}
use Rattle.toeplitz.specs.declared.bucket_hash.BucketHash.{BucketHash}
use Rattle.toeplitz.specs.declared.key.Key.{Key}
use Rattle.toeplitz.specs.Packet.{packet_hash}

-- the choice of a bucket by this key, of so many buckets
abbrev pub bucket_hash : Key → ℕ → BucketHash
bucket_hash key buckets = record { key = key; buckets = buckets }

-- the bucket of a packet, of so many buckets: its hash modulo their number
abbrev pub bucket_of : Key → ℕ → PacketInfo → ℕ
bucket_of key buckets packet = packet_hash key packet % buckets

-- the packets of a list that are in a bucket, in their order
abbrev pub packets_in : Key → ℕ → ℕ → List PacketInfo → List PacketInfo
packets_in key buckets bucket packets = filter (λ packet. bucket_of key buckets packet == bucket) packets

-- how many packets of a list are in a bucket
abbrev pub total_in : Key → ℕ → ℕ → List PacketInfo → ℕ
total_in key buckets bucket packets = length (packets_in key buckets bucket packets)

-- the place of a packet among those of its bucket, from 0, where these packets stand before it
abbrev pub place_of : Key → ℕ → List PacketInfo → PacketInfo → ℕ
place_of key buckets before packet = total_in key buckets (bucket_of key buckets packet) before
