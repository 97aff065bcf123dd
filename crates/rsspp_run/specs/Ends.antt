-- What a serial run leaves at its end.
use Rattle.std.specs.Prelude.{◌≡◌, ◌≤◌, ℕ, List, length, false, Option, Some, slice_get}
use Rattle.packet_fields.specs.declared.packet.PacketInfo.{PacketInfo}
use Rattle.bucket_table.specs.Table.{TableOf}
use Rattle.bucket_table.specs.declared.custody.Custody.{Custody}
use Rattle.indirection.specs.JournalView.{JournalState, journal_view}
use Rattle.indirection.specs.Lawful.{IsLawful}
use Rattle.indirection.specs.Stints.{stints}
use Rattle.indirection.specs.Story.{count_in}
use Rattle.handover_words.specs.Stands.{IsTableOf}
use Rattle.worker_loop.specs.WorkerState.{WorkerView}
use Rattle.dispatch_loop.specs.Past.{parcels}
use Rattle.dispatch_loop.specs.Terms.{Terms, buckets_of, rules_of}
use Rattle.rsspp_run.specs.Custody.{custody_upto}
use Rattle.rsspp_run.specs.Serial.{Serial}
use Rattle.rsspp_run.specs.Sweeps.{setting_of}

-- the custodies that a worker ended, and how many packets it worked
abbrev pub log_in : {T : Type 0} → WorkerView T → List Custody
log_in w = w.state.log

abbrev pub worked_in : {T : Type 0} → WorkerView T → ℕ
worked_in w = w.state.worked

-- journal, custody and counts are those of the run under the number by its definition; the journal is lawful, and the custody is that of the journal: each bucket's stints with their cores, by bucket; there were no more packets than the limit
pub record IsSerialRun (t : Terms) (pool number : ℕ) (all : List PacketInfo) (journal : JournalState) (custody : List Custody) (worked : List ℕ) : Type 0 where
  pub is : Serial (setting_of t pool all) number (record { journal = journal_view journal; custody = custody; worked = worked })
  pub lawful : IsLawful (rules_of t) (parcels t all) (journal_view journal)
  pub custody_is : custody ≡ custody_upto (stints (journal_view journal) (parcels t all)) (buckets_of t)
  pub few : length all ≤ t.packets

-- one table of each bucket, in order, which no core has and to which no memory was refused, with as many packets done as the bucket has
pub record AreTablesOf {S : Type 0} (opening : S) (after : S → PacketInfo → S) (packets : Option (List PacketInfo)) (t : Terms) (all : List PacketInfo) (tables : List (TableOf S)) : Type 0 where
  pub count : length tables ≡ buckets_of t
  pub each : (b : ℕ) (table : TableOf S) → slice_get tables b ≡ Some table → IsTableOf opening after packets t.key (buckets_of t) b (count_in b (parcels t all)) table × (table.short ≡ false)
