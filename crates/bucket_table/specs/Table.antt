-- The table of a bucket, as contracts see it, and the packets that it stands for.
use Rattle.std.specs.Prelude.{◌≡◌, ℕ, List, [], length, map, sum_by, Option, None, Bool, false}
use Rattle.packet_fields.specs.declared.key.FlowKey.{FlowKey}
use Rattle.packet_fields.specs.declared.packet.PacketInfo.{PacketInfo}
use Rattle.flow_work.specs.Flow.{flow_state}
use Rattle.bucket_table.specs.declared.custody.Begun.{Begun}
use Rattle.bucket_table.specs.declared.custody.Custody.{Custody}
use Rattle.bucket_table.specs.FirstKeys.{first_keys}

-- a table: its bucket, its flows with their states, how many packets are done, their lengths on the wire added up, whether memory was refused, and the custody that is open
pub record TableOf (S : Type 0) : Type 0 where
  pub bucket : ℕ
  pub flows : List (FlowKey × S)
  pub done : ℕ
  pub bytes : ℕ
  pub short : Bool
  pub custody : Option Begun

-- the table of a bucket without packets
abbrev pub empty_table : {S : Type 0} → ℕ → TableOf S
empty_table bucket = record { bucket = bucket; flows = []; done = 0; bytes = 0; short = false; custody = None }

-- the custody that ends now: the table's bucket and the core that has it, from what was done at its beginning to what is done
abbrev pub custody_until : {S : Type 0} → Begun → TableOf S → Custody
custody_until begun table = record { bucket = table.bucket; core = begun.core; from = begun.from; to = table.done }

-- the table stands for these packets: its flows are their keys in the order of their first packets, each with the work's fold over its packets
pub record StandsFor {S : Type 0} (opening : S) (after : S → PacketInfo → S) (packets : List PacketInfo) (table : TableOf S) : Type 0 where
  pub flows : table.flows ≡ map (λ key. (key, flow_state opening after key packets)) (first_keys packets)
  pub done : table.done ≡ length packets
  pub bytes : table.bytes ≡ sum_by (λ p. p.original) packets
