use Rattle.std.proofs.Common.{◌≡◌, ◌-◌, ℕ, List, [], Option, None}
use Rattle.packet_fields.specs.declared.packet.PacketInfo.{PacketInfo}
use Rattle.dispatch_loop.specs.Past.{past, IsReading}
use Rattle.rsspp_run.specs.OneTable.{IsFilling}
use Rattle.rsspp_run.proofs.fold.work_stream.Given as goal

abbrev pub invariant-packets : goal.invariant-packets
invariant-packets g l =
    record {
      worked : (bytes : Option (List ℕ)) → IsReading l.limit (past bytes []) None l.fn.reader (g.S.Source.left l.fn.source)
          → (all : List PacketInfo) × IsFilling g.W.FlowWork.opening g.W.FlowWork.after all l.table × IsReading l.limit (past bytes all) None l.reader (g.S.Source.left l.source);
      quiet : g.S.Source.faults l.source ≡ g.S.Source.faults l.fn.source;
      origin : g.S.Source.origin l.source ≡ g.S.Source.origin l.fn.source;
    }

abbrev pub decreases-packets : goal.decreases-packets
decreases-packets g l = l.limit - l.table.done
