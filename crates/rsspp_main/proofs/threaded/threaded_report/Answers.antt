use Rattle.std.proofs.Common.{◌∙◌, sym, None, Some, ℕ, List}
use Rattle.std.specs.Prelude.{MatchResult}
use Rattle.flow_work.specs.declared.work_name.WorkName.TheVariants as works
use Rattle.packet_fields.specs.declared.packet.PacketInfo.{PacketInfo}
use Rattle.dispatch_loop.specs.Terms.{terms_of}
use Rattle.rsspp_main.specs.Run.{ends, Explains}
use Rattle.rsspp_main.specs.Threads.{IsThreadedText}
use Rattle.rsspp_main.proofs.Reported.{by_work}
use Rattle.rsspp_main.proofs.threaded.threaded_report.Goals as goal

pub returns-in-Count-clause-outcome : goal.returns-in-Count-clause-outcome
returns-in-Count-clause-outcome g c =
    let left = g.S.Source.left in
    let faults = g.S.Source.faults in
    let writes = g.K.Sink.faults in
    let holds = g.K.Sink.may_hold in
    let command = c.args.command.now in
    let o = command.options in
    let call = c.threaded_by in
    let old = ends (left c.args.source.now) (faults c.args.source.now) (writes c.args.out.now) (holds c.args.out.now) in
    let new = ends (left call.new.source) (faults call.new.source) (writes call.new.out) (holds call.new.out) in
    by_work (λ (report_of : List PacketInfo → List ℕ) (cost : PacketInfo → ℕ). MatchResult call.result (λ run. Explains o.packets (IsThreadedText g.N.RunName.packets report_of command.journal (terms_of cost o) (Some run)) old new None) (λ fault. Explains o.packets (IsThreadedText g.N.RunName.packets report_of command.journal (terms_of cost o) None) old new (Some fault)))
    o.work works.Count (sym c.work_of.ensures ∙ c.in-Count.is) call.ensures.outcome

pub returns-in-TcpFlags-clause-outcome : goal.returns-in-TcpFlags-clause-outcome
returns-in-TcpFlags-clause-outcome g c =
    let left = g.S.Source.left in
    let faults = g.S.Source.faults in
    let writes = g.K.Sink.faults in
    let holds = g.K.Sink.may_hold in
    let command = c.args.command.now in
    let o = command.options in
    let call = c.threaded_by-in-TcpFlags in
    let old = ends (left c.args.source.now) (faults c.args.source.now) (writes c.args.out.now) (holds c.args.out.now) in
    let new = ends (left call.new.source) (faults call.new.source) (writes call.new.out) (holds call.new.out) in
    by_work (λ (report_of : List PacketInfo → List ℕ) (cost : PacketInfo → ℕ). MatchResult call.result (λ run. Explains o.packets (IsThreadedText g.N.RunName.packets report_of command.journal (terms_of cost o) (Some run)) old new None) (λ fault. Explains o.packets (IsThreadedText g.N.RunName.packets report_of command.journal (terms_of cost o) None) old new (Some fault)))
    o.work works.TcpFlags (sym c.work_of.ensures ∙ c.in-TcpFlags.is) call.ensures.outcome

pub returns-in-Gaps-clause-outcome : goal.returns-in-Gaps-clause-outcome
returns-in-Gaps-clause-outcome g c =
    let left = g.S.Source.left in
    let faults = g.S.Source.faults in
    let writes = g.K.Sink.faults in
    let holds = g.K.Sink.may_hold in
    let command = c.args.command.now in
    let o = command.options in
    let call = c.threaded_by-in-Gaps in
    let old = ends (left c.args.source.now) (faults c.args.source.now) (writes c.args.out.now) (holds c.args.out.now) in
    let new = ends (left call.new.source) (faults call.new.source) (writes call.new.out) (holds call.new.out) in
    by_work (λ (report_of : List PacketInfo → List ℕ) (cost : PacketInfo → ℕ). MatchResult call.result (λ run. Explains o.packets (IsThreadedText g.N.RunName.packets report_of command.journal (terms_of cost o) (Some run)) old new None) (λ fault. Explains o.packets (IsThreadedText g.N.RunName.packets report_of command.journal (terms_of cost o) None) old new (Some fault)))
    o.work works.Gaps (sym c.work_of.ensures ∙ c.in-Gaps.is) call.ensures.outcome

pub returns-in-OrderFold-clause-outcome : goal.returns-in-OrderFold-clause-outcome
returns-in-OrderFold-clause-outcome g c =
    let left = g.S.Source.left in
    let faults = g.S.Source.faults in
    let writes = g.K.Sink.faults in
    let holds = g.K.Sink.may_hold in
    let command = c.args.command.now in
    let o = command.options in
    let call = c.threaded_by-in-OrderFold in
    let old = ends (left c.args.source.now) (faults c.args.source.now) (writes c.args.out.now) (holds c.args.out.now) in
    let new = ends (left call.new.source) (faults call.new.source) (writes call.new.out) (holds call.new.out) in
    by_work (λ (report_of : List PacketInfo → List ℕ) (cost : PacketInfo → ℕ). MatchResult call.result (λ run. Explains o.packets (IsThreadedText g.N.RunName.packets report_of command.journal (terms_of cost o) (Some run)) old new None) (λ fault. Explains o.packets (IsThreadedText g.N.RunName.packets report_of command.journal (terms_of cost o) None) old new (Some fault)))
    o.work works.OrderFold (sym c.work_of.ensures ∙ c.in-OrderFold.is) call.ensures.outcome
