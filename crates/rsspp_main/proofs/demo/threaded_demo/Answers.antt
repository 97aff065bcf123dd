use Rattle.std.proofs.Common.{◌∙◌, sym, None, Some, ℕ, List}
use Rattle.std.specs.Prelude.{MatchResult, IfOk}
use Rattle.flow_work.specs.declared.work_name.WorkName.TheVariants as works
use Rattle.packet_fields.specs.declared.packet.PacketInfo.{PacketInfo}
use Rattle.dispatch_loop.specs.Terms.{terms_of}
use Rattle.rsspp_main.specs.Threads.{IsTraceOf}
use Rattle.rsspp_main.specs.Demo.{ExplainsDemo, packets_made}
use Rattle.rsspp_main.specs.Run.{ends}
use Rattle.rsspp_main.proofs.Reported.{by_work}
use Rattle.rsspp_main.proofs.demo.threaded_demo.Goals as goal

pub returns-in-Count-clause-outcome : goal.returns-in-Count-clause-outcome
returns-in-Count-clause-outcome g c = λ left reads.
    let command = c.args.command.now in
    let call = c.threaded_demo_by in
    let old = ends left reads (g.K.Sink.faults c.args.out.now) (g.K.Sink.may_hold c.args.out.now) in
    let new = ends left reads (g.K.Sink.faults call.new.out) (g.K.Sink.may_hold call.new.out) in
    by_work (λ (report_of : List PacketInfo → List ℕ) (cost : PacketInfo → ℕ). MatchResult call.result (λ run. ExplainsDemo g.N.RunName.packets report_of command old new None) (λ fault. ExplainsDemo g.N.RunName.packets report_of command old new (Some fault)))
    command.options.work works.Count (sym c.work_of.ensures ∙ c.in-Count.is) (call.ensures.outcome left reads)

pub returns-in-TcpFlags-clause-outcome : goal.returns-in-TcpFlags-clause-outcome
returns-in-TcpFlags-clause-outcome g c = λ left reads.
    let command = c.args.command.now in
    let call = c.threaded_demo_by-in-TcpFlags in
    let old = ends left reads (g.K.Sink.faults c.args.out.now) (g.K.Sink.may_hold c.args.out.now) in
    let new = ends left reads (g.K.Sink.faults call.new.out) (g.K.Sink.may_hold call.new.out) in
    by_work (λ (report_of : List PacketInfo → List ℕ) (cost : PacketInfo → ℕ). MatchResult call.result (λ run. ExplainsDemo g.N.RunName.packets report_of command old new None) (λ fault. ExplainsDemo g.N.RunName.packets report_of command old new (Some fault)))
    command.options.work works.TcpFlags (sym c.work_of.ensures ∙ c.in-TcpFlags.is) (call.ensures.outcome left reads)

pub returns-in-Gaps-clause-outcome : goal.returns-in-Gaps-clause-outcome
returns-in-Gaps-clause-outcome g c = λ left reads.
    let command = c.args.command.now in
    let call = c.threaded_demo_by-in-Gaps in
    let old = ends left reads (g.K.Sink.faults c.args.out.now) (g.K.Sink.may_hold c.args.out.now) in
    let new = ends left reads (g.K.Sink.faults call.new.out) (g.K.Sink.may_hold call.new.out) in
    by_work (λ (report_of : List PacketInfo → List ℕ) (cost : PacketInfo → ℕ). MatchResult call.result (λ run. ExplainsDemo g.N.RunName.packets report_of command old new None) (λ fault. ExplainsDemo g.N.RunName.packets report_of command old new (Some fault)))
    command.options.work works.Gaps (sym c.work_of.ensures ∙ c.in-Gaps.is) (call.ensures.outcome left reads)

pub returns-in-OrderFold-clause-outcome : goal.returns-in-OrderFold-clause-outcome
returns-in-OrderFold-clause-outcome g c = λ left reads.
    let command = c.args.command.now in
    let call = c.threaded_demo_by-in-OrderFold in
    let old = ends left reads (g.K.Sink.faults c.args.out.now) (g.K.Sink.may_hold c.args.out.now) in
    let new = ends left reads (g.K.Sink.faults call.new.out) (g.K.Sink.may_hold call.new.out) in
    by_work (λ (report_of : List PacketInfo → List ℕ) (cost : PacketInfo → ℕ). MatchResult call.result (λ run. ExplainsDemo g.N.RunName.packets report_of command old new None) (λ fault. ExplainsDemo g.N.RunName.packets report_of command old new (Some fault)))
    command.options.work works.OrderFold (sym c.work_of.ensures ∙ c.in-OrderFold.is) (call.ensures.outcome left reads)

pub returns-in-Count-clause-trace : goal.returns-in-Count-clause-trace
returns-in-Count-clause-trace g c =
    let command = c.args.command.now in
    by_work (λ (report_of : List PacketInfo → List ℕ) (cost : PacketInfo → ℕ). IfOk c.threaded_demo_by.result (IsTraceOf (terms_of cost command.options) (packets_made command.count command.number)))
    command.options.work works.Count (sym c.work_of.ensures ∙ c.in-Count.is) c.threaded_demo_by.ensures.trace

pub returns-in-TcpFlags-clause-trace : goal.returns-in-TcpFlags-clause-trace
returns-in-TcpFlags-clause-trace g c =
    let command = c.args.command.now in
    by_work (λ (report_of : List PacketInfo → List ℕ) (cost : PacketInfo → ℕ). IfOk c.threaded_demo_by-in-TcpFlags.result (IsTraceOf (terms_of cost command.options) (packets_made command.count command.number)))
    command.options.work works.TcpFlags (sym c.work_of.ensures ∙ c.in-TcpFlags.is) c.threaded_demo_by-in-TcpFlags.ensures.trace

pub returns-in-Gaps-clause-trace : goal.returns-in-Gaps-clause-trace
returns-in-Gaps-clause-trace g c =
    let command = c.args.command.now in
    by_work (λ (report_of : List PacketInfo → List ℕ) (cost : PacketInfo → ℕ). IfOk c.threaded_demo_by-in-Gaps.result (IsTraceOf (terms_of cost command.options) (packets_made command.count command.number)))
    command.options.work works.Gaps (sym c.work_of.ensures ∙ c.in-Gaps.is) c.threaded_demo_by-in-Gaps.ensures.trace

pub returns-in-OrderFold-clause-trace : goal.returns-in-OrderFold-clause-trace
returns-in-OrderFold-clause-trace g c =
    let command = c.args.command.now in
    by_work (λ (report_of : List PacketInfo → List ℕ) (cost : PacketInfo → ℕ). IfOk c.threaded_demo_by-in-OrderFold.result (IsTraceOf (terms_of cost command.options) (packets_made command.count command.number)))
    command.options.work works.OrderFold (sym c.work_of.ensures ∙ c.in-OrderFold.is) c.threaded_demo_by-in-OrderFold.ensures.trace
