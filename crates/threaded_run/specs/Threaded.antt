-- What a run in threads leaves at its end.
use Rattle.std.specs.Prelude.{◌≡◌, ℕ, ◌<◌, ◌≤◌, List, length, map, reverse, count_by, Option, Some}
use Rattle.std.specs.List.{range_with_len}
use Rattle.packet_fields.specs.declared.packet.PacketInfo.{PacketInfo}
use Rattle.bucket_table.specs.declared.custody.Custody.{Custody}
use Rattle.indirection.specs.JournalView.{JournalState, journal_view}
use Rattle.indirection.specs.Stints.{Stint, stints}
use Rattle.indirection.specs.Lawful.{IsLawful}
use Rattle.handover_core.specs.declared.item.Item.{Item}
use Rattle.handover_core.specs.Dispatch.{dispatches, stream}
use Rattle.core_queue.specs.Cells.{plain}
use Rattle.core_queue.specs.RuledLane.{Noted}
use Rattle.handover_words.specs.declared.history.Stretch.{Stretch}
use Rattle.handover_words.specs.SortedSpans.{sorted_spans}
use Rattle.worker_loop.specs.Schedule.{is_packet}
use Rattle.dispatch_loop.specs.Past.{parcels}
use Rattle.dispatch_loop.specs.Terms.{Terms, cores_of, buckets_of, rules_of}
use Rattle.rsspp_run.specs.Custody.{custody_upto, stint_span}

-- what the journal sends to a core, over all packets of the run
abbrev pub stream_to : Terms → List PacketInfo → JournalState → ℕ → List Item
stream_to t all journal c = stream c (dispatches (cores_of t) (parcels t all) (journal_view journal))

-- the same, core by core
abbrev pub streams : Terms → List PacketInfo → JournalState → List (List Item)
streams t all journal = map (stream_to t all journal) (range_with_len 0 (cores_of t))

-- the stints of each bucket by the journal
abbrev pub stints_in : Terms → List PacketInfo → JournalState → ℕ → List Stint
stints_in t all journal b = stints (journal_view journal) (parcels t all) b

-- what the notes of lanes say was sent, and taken, lane by lane
abbrev pub all_sent : List Noted → List (List Item)
all_sent notes = map (λ (n : Noted). map plain n.sent) notes

abbrev pub all_taken : List Noted → List (List Item)
all_taken notes = map (λ (n : Noted). map plain n.taken) notes

-- how many packets each core has in its stream
abbrev pub packets_for : List (List Item) → List ℕ
packets_for streams = map (count_by is_packet) streams

-- the packets are no more than the limit of the terms, and the journal is lawful for all of them; the lane of each core was sent the core's stream by that journal, and all of it was taken; the custodies that were ended on the shelf are of each bucket its stints by that journal, in their order; custody tells these stints with their cores; each core worked as many packets as its stream has
pub record IsThreadedRun (t : Terms) (all : List PacketInfo) (journal : JournalState) (custody : List Custody) (worked : List ℕ) (notes : List Noted) (shelf : Option (List Stretch)) : Type 0 where
  pub few : length all ≤ t.packets
  pub lawful : IsLawful (rules_of t) (parcels t all) (journal_view journal)
  pub sent : all_sent notes ≡ streams t all journal
  pub taken : all_taken notes ≡ streams t all journal
  pub ended : List Stretch
  pub shelf_is : shelf ≡ Some ended
  pub custodies : (b : ℕ) → b < buckets_of t → reverse (sorted_spans b ended) ≡ map stint_span (stints_in t all journal b)
  pub custody_is : custody ≡ custody_upto (stints_in t all journal) (buckets_of t)
  pub worked_is : worked ≡ packets_for (streams t all journal)
