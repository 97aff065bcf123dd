-- A dispatcher over many turns.
use Rattle.std.specs.Prelude.{◌≡◌, ℕ, List, Option, Some}
use Rattle.packet_fields.specs.declared.packet.PacketInfo.{PacketInfo}
use Rattle.dispatch_loop.specs.declared.dispatcher_end.DispatcherEnd.{DispatcherEnd}
use Rattle.dispatch_loop.specs.Terms.{cores_of}
use Rattle.dispatch_loop.specs.DispatcherState.{DispatcherState}
use Rattle.dispatch_loop.specs.Past.{Past, past}
use Rattle.dispatch_loop.specs.DispatcherSnapshot.{DispatcherSnapshot}
use Rattle.dispatch_loop.specs.Tied.{TiedIn}
use Rattle.dispatch_loop.specs.Rules.{OnlyMeets, BlamesRead}

-- whatever was read and sent before, so that all was tied: all is tied after it with some packets sent since, of the same bytes
abbrev pub KeepsTied : {T : Type 0} → Option (List PacketInfo) → DispatcherSnapshot T → DispatcherSnapshot T → Type 0
KeepsTied packets s t = (p : Past) → TiedIn packets p s → (ps : List PacketInfo) × TiedIn packets (past p.bytes ps) t

-- a failed read is blamed afterwards if it was before, by the counts of failed reads
abbrev pub BlamesOn : {T : Type 0} → DispatcherSnapshot T → DispatcherSnapshot T → Type 0
BlamesOn s t = (n : ℕ) → BlamesRead s.dispatcher.end n s.faults → BlamesRead t.dispatcher.end n t.faults

-- some turns of a dispatcher led from one snapshot to the other: all stayed tied, on the same terms; its shelf's end met words and did nothing else; and the stream ended by a read fault only where a read failed
pub record Leads {T : Type 0} (packets : Option (List PacketInfo)) (s t : DispatcherSnapshot T) : Type 0 where
  pub goes_on : KeepsTied packets s t
  pub terms : t.dispatcher.terms ≡ s.dispatcher.terms
  pub shelf : OnlyMeets s.shelf t.shelf
  pub blames : BlamesOn s t

-- the stream has ended so, and each core got its End
pub record HasFinished (end : DispatcherEnd) (f : DispatcherState) : Type 0 where
  pub ended : f.end ≡ Some end
  pub all : f.ends ≡ cores_of f.terms
