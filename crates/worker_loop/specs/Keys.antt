-- The bucket of a flow's key.
use Rattle.std.specs.Prelude.{◌≡◌, ◌%◌, ℕ}
use Rattle.packet_fields.specs.declared.key.FlowKey.{FlowKey}
use Rattle.toeplitz.specs.declared.bucket_hash.BucketHash.{BucketHash}
use Rattle.toeplitz.specs.Packet.{hash_by}

-- the packets of the flow are of this bucket
abbrev pub HasBucket : BucketHash → ℕ → FlowKey → Type 0
HasBucket r b flow = hash_by flow.class r.key flow % r.buckets ≡ b
