-- The report of bucket tables.
use Rattle.std.specs.Prelude.{◌≡◌, ◌<◌, ◌==◌, ◌++◌, ℕ, true, List, [], length, fold, filter, sum_by, slice_get, Some}
use Rattle.std.specs.List.{flat_map, list_any}
use Rattle.std.specs.BTreeMap.{insert_entry}
use Rattle.packet_fields.specs.declared.key.FlowKey.{FlowKey}
use Rattle.packet_fields.specs.declared.packet.PacketInfo.{PacketInfo}
use Rattle.packet_fields.specs.Key.{key_cmp}
use Rattle.bucket_table.specs.FirstKeys.{same_key}
use Rattle.bucket_table.specs.Table.{TableOf, StandsFor}
use Rattle.flow_report.specs.Report.{flow_line, total_line}
use Rattle.flow_report.specs.declared.numbers.Totals.{Totals}

-- the flows of all tables, those of one table behind those of another
abbrev pub all_flows : {S : Type 0} → List (TableOf S) → List (FlowKey × S)
all_flows tables = flat_map (λ t. t.flows) tables

-- how many flows and packets the tables have, and the packets' lengths on the wire added up
abbrev pub totals_of : {S : Type 0} → List (TableOf S) → Totals
totals_of tables = record { flows = length (all_flows tables); packets = sum_by (λ t. t.done) tables; bytes = sum_by (λ t. t.bytes) tables }

-- flows in key order
abbrev pub in_key_order : {S : Type 0} → List (FlowKey × S) → List (FlowKey × S)
in_key_order flows = fold (λ sorted e. insert_entry key_cmp sorted e.0 e.1) [] flows

-- one line per flow, in key order, and the total line
abbrev pub tables_text : {S : Type 0} → (S → List ℕ) → List (TableOf S) → List ℕ
tables_text line tables =
    flat_map (λ e. flow_line line e.0 e.1) (in_key_order (all_flows tables))
    ++ total_line (length (all_flows tables)) (sum_by (λ t. t.done) tables) (sum_by (λ t. t.bytes) tables)

-- a key is among the keys of a table's flows
abbrev pub HasFlow : {S : Type 0} → TableOf S → FlowKey → Type 0
HasFlow table key = list_any (λ e. same_key key e.0) table.flows ≡ true

-- no key stands in both tables
abbrev pub SharesNoKey : {S : Type 0} → TableOf S → TableOf S → Type 0
SharesNoKey a b = (key : FlowKey) → HasFlow a key → HasFlow b key → ⊥

-- the packets of a bucket, by a function that gives each key a bucket
abbrev pub packets_at : (FlowKey → ℕ) → ℕ → List PacketInfo → List PacketInfo
packets_at bucket_of bucket packets = filter (λ p. bucket_of p.key == bucket) packets

-- the tables together stand for the packets: each key has a bucket, and the table at each place stands for the packets of that bucket
pub record StandTogether {S : Type 0} (opening : S) (after : S → PacketInfo → S) (bucket_of : FlowKey → ℕ) (packets : List PacketInfo) (tables : List (TableOf S)) : Type 0 where
  pub buckets : (key : FlowKey) → bucket_of key < length tables
  pub each : (bucket : ℕ) (table : TableOf S) → slice_get tables bucket ≡ Some table → StandsFor opening after (packets_at bucket_of bucket packets) table
