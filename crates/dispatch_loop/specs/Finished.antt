-- What a run of a dispatcher leaves, once each core got its End.
use Rattle.std.specs.Prelude.{◌≡◌, ℕ, List, map, Option, Some, IfSome, slice_get}
use Rattle.std.specs.Io.KnownBytes.{IsAtEnd}
use Rattle.pcap_reader.specs.StreamEnd as stream
use Rattle.pcap_reader.specs.StreamEnd.{EndsStream}
use Rattle.indirection.specs.JournalView.{journal_view}
use Rattle.indirection.specs.Lawful.{IsLawful}
use Rattle.handover_core.specs.Dispatch.{dispatches, stream}
use Rattle.core_queue.specs.declared.history.LaneHistory.{LaneHistory}
use Rattle.core_queue.specs.Cells.{plain}
use Rattle.dispatch_loop.specs.Terms.{cores_of, rules_of}
use Rattle.dispatch_loop.specs.DispatcherState.{DispatcherState}
use Rattle.dispatch_loop.specs.Packets.{ArePackets}
use Rattle.dispatch_loop.specs.Past.{Past, parcels}

-- at the end of a whole capture: the source was read to its end, the packets that were sent are those of the capture, the journal is lawful for them, and each core's lane was sent its stream by that journal
pub record IsWhole (p : Past) (f : DispatcherState) (lanes : List LaneHistory) (left : Option (List ℕ)) : Type 0 where
  pub ends : IfSome p.bytes (λ b. EndsStream f.terms.packets b stream.Whole)
  pub read : IsAtEnd left
  pub packets : IfSome p.bytes (λ b. ArePackets f.terms.packets b p.packets)
  pub lawful : IsLawful (rules_of f.terms) (parcels f.terms p.packets) (journal_view f.journal)
  pub sent : (c : ℕ) (e : LaneHistory) → slice_get lanes c ≡ Some e → map plain e.sent ≡ stream c (dispatches (cores_of f.terms) (parcels f.terms p.packets) (journal_view f.journal))
