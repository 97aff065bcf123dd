-- The bucket of a packet, the packets of a bucket, and a packet's place.
use Rattle.std.specs.Prelude.{ℕ, ◌%◌, List, filter, length, ◌==◌}

-- the bucket that a hash falls into, of so many buckets
abbrev pub bucket_of_hash : ℕ → ℕ → ℕ
bucket_of_hash buckets hash = hash % buckets

-- the packets of a bucket, in their order, where `bucket` tells each packet's bucket
abbrev pub packets_by : {P : Type 0} → (P → ℕ) → ℕ → List P → List P
packets_by bucket b packets = filter (λ packet. bucket packet == b) packets

-- how many packets a bucket has
abbrev pub total_by : {P : Type 0} → (P → ℕ) → ℕ → List P → ℕ
total_by bucket b packets = length (packets_by bucket b packets)
