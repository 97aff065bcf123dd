-- The keys of a table are those of its packets, so they have its bucket.
use Rattle.std.proofs.Common.{◌≡◌, ℕ, Bool, true, false, if◌then◌else◌, List, [], ◌∷◌, ◌++◌, fold, sym, subst, All}
use Rattle.std.specs.List.{list_any}
use Rattle.std.proofs.lemmas.List.Elements.{All-append, All-map, All-nil, All-cons, All-head, All-tail}
use Rattle.packet_fields.specs.declared.key.FlowKey.{FlowKey}
use Rattle.packet_fields.specs.declared.packet.PacketInfo.{PacketInfo}
use Rattle.toeplitz.specs.declared.bucket_hash.BucketHash.{BucketHash}
use Rattle.toeplitz.specs.Packet.{packet_hash}
use Rattle.flow_work.specs.Flow.{flow_state}
use Rattle.bucket_table.specs.FirstKeys.{same_key, with_key, first_keys}
use Rattle.bucket_table.specs.Table.{TableOf}
use Rattle.worker_loop.specs.Workload.{Workload, Stands}
use Rattle.worker_loop.specs.Keys.{HasBucket}

with_one : (P : FlowKey → Type 0) (keys : List FlowKey) (k : FlowKey) (t : Bool) → All P keys → P k → All P (if t then keys else keys ++ k ∷ [])
with_one P keys k true a h = a
with_one P keys k false a h = All-append P keys (k ∷ []) a (All-cons P k [] h (All-nil P))

all_keys : (P : FlowKey → Type 0) (keys : List FlowKey) (ps : List PacketInfo) → All P keys → All (λ (p : PacketInfo). P p.key) ps → All P (fold (λ keys p. with_key keys p.key) keys ps)
all_keys P keys [] a h = a
all_keys P keys (p ∷ ps) a h = all_keys P (with_key keys p.key) ps (with_one P keys p.key (list_any (same_key p.key) keys) a (All-head (λ (q : PacketInfo). P q.key) p ps h)) (All-tail (λ (q : PacketInfo). P q.key) p ps h)

pub keys_in : {S : Type 0} (j : Workload S) (r : BucketHash) (b : ℕ) (t : TableOf S) → Stands j r b t → t.short ≡ false → All (λ (e : FlowKey × S). HasBucket r b e.0) t.flows
unfolding packet_hash
keys_in {S} j r b t s fine =
    let h = s.stands fine in
    subst (λ (es : List (FlowKey × S)). All (λ (e : FlowKey × S). HasBucket r b e.0) es) (sym h.stands.flows)
    (All-map (λ (e : FlowKey × S). HasBucket r b e.0) (λ key. (key, flow_state j.opening j.after key h.packets)) (first_keys h.packets) (all_keys (HasBucket r b) [] h.packets (All-nil (HasBucket r b)) h.of_bucket))
