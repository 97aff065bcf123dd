-- What of a run the promises of a worker speak of.
use Rattle.std.specs.Prelude.{◌≡◌, ℕ, false, List, ◌++◌, Option}
use Rattle.packet_fields.specs.declared.packet.PacketInfo.{PacketInfo}
use Rattle.toeplitz.specs.declared.bucket_hash.BucketHash.{BucketHash}
use Rattle.bucket_table.specs.Table.{TableOf, StandsFor}
use Rattle.bucket_table.specs.declared.custody.Begun.{Begun}
use Rattle.bucket_table.specs.declared.custody.Custody.{Custody}
use Rattle.handover_words.specs.Stands as tables

-- the work of each flow, what a packet costs under it, and the packets of the run where they are named
pub record Workload (S : Type 0) : Type 0 where
  pub opening : S
  pub after : S → PacketInfo → S
  pub cost : PacketInfo → ℕ
  pub packets : Option (List PacketInfo)

abbrev pub workload : {S : Type 0} → S → (S → PacketInfo → S) → (PacketInfo → ℕ) → Option (List PacketInfo) → Workload S
workload opening after cost packets = record { opening = opening; after = after; cost = cost; packets = packets }

-- the table is of the bucket, and stands for its packets unless memory was refused to it
abbrev pub Stands : {S : Type 0} → Workload S → BucketHash → ℕ → TableOf S → Type 0
Stands j r b t = tables.Stands j.opening j.after j.packets r.key r.buckets b t

-- it lies on the shelf with so many packets done
abbrev pub IsTableOf : {S : Type 0} → Workload S → BucketHash → ℕ → ℕ → TableOf S → Type 0
IsTableOf j r b done t = tables.IsTableOf j.opening j.after j.packets r.key r.buckets b done t

-- the table t' is t after these packets more, in this order: of whichever packets t stood for, t' stands for them and then these, unless memory was refused to it
abbrev pub Grew : {S : Type 0} → Workload S → TableOf S → List PacketInfo → TableOf S → Type 0
Grew j t more t' = (packets : List PacketInfo) → StandsFor j.opening j.after packets t → t'.short ≡ false → StandsFor j.opening j.after (packets ++ more) t'

-- a core's custody of a table, from the packets that were done when it began
abbrev pub begun : ℕ → ℕ → Begun
begun core from = record { core = core; from = from }

-- a custody that has ended
abbrev pub custody : ℕ → ℕ → ℕ → ℕ → Custody
custody b core from to = record { bucket = b; core = core; from = from; to = to }
