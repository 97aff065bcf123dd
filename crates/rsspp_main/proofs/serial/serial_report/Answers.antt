use Rattle.std.proofs.Common.{◌∙◌, sym}
use Rattle.flow_work.specs.declared.work_name.WorkName.TheVariants as works
use Rattle.rsspp_main.specs.Run.{ends}
use Rattle.rsspp_main.proofs.Reported.{serial_by}
use Rattle.rsspp_main.proofs.serial.serial_report.Goals as goal

pub returns-in-Count-clause-outcome : goal.returns-in-Count-clause-outcome
returns-in-Count-clause-outcome g c =
    let left = g.S.Source.left in
    let faults = g.S.Source.faults in
    let writes = g.K.Sink.faults in
    let holds = g.K.Sink.may_hold in
    let call = c.report_by in
    serial_by g.N.RunName.packets c.args.command.now c.args.number (ends (left c.args.source.now) (faults c.args.source.now) (writes c.args.out.now) (holds c.args.out.now))
    (ends (left call.new.source) (faults call.new.source) (writes call.new.out) (holds call.new.out)) works.Count call.result (sym c.work_of.ensures ∙ c.in-Count.is) call.ensures.outcome

pub returns-in-TcpFlags-clause-outcome : goal.returns-in-TcpFlags-clause-outcome
returns-in-TcpFlags-clause-outcome g c =
    let left = g.S.Source.left in
    let faults = g.S.Source.faults in
    let writes = g.K.Sink.faults in
    let holds = g.K.Sink.may_hold in
    let call = c.report_by-in-TcpFlags in
    serial_by g.N.RunName.packets c.args.command.now c.args.number (ends (left c.args.source.now) (faults c.args.source.now) (writes c.args.out.now) (holds c.args.out.now))
    (ends (left call.new.source) (faults call.new.source) (writes call.new.out) (holds call.new.out)) works.TcpFlags call.result (sym c.work_of.ensures ∙ c.in-TcpFlags.is) call.ensures.outcome

pub returns-in-Gaps-clause-outcome : goal.returns-in-Gaps-clause-outcome
returns-in-Gaps-clause-outcome g c =
    let left = g.S.Source.left in
    let faults = g.S.Source.faults in
    let writes = g.K.Sink.faults in
    let holds = g.K.Sink.may_hold in
    let call = c.report_by-in-Gaps in
    serial_by g.N.RunName.packets c.args.command.now c.args.number (ends (left c.args.source.now) (faults c.args.source.now) (writes c.args.out.now) (holds c.args.out.now))
    (ends (left call.new.source) (faults call.new.source) (writes call.new.out) (holds call.new.out)) works.Gaps call.result (sym c.work_of.ensures ∙ c.in-Gaps.is) call.ensures.outcome

pub returns-in-OrderFold-clause-outcome : goal.returns-in-OrderFold-clause-outcome
returns-in-OrderFold-clause-outcome g c =
    let left = g.S.Source.left in
    let faults = g.S.Source.faults in
    let writes = g.K.Sink.faults in
    let holds = g.K.Sink.may_hold in
    let call = c.report_by-in-OrderFold in
    serial_by g.N.RunName.packets c.args.command.now c.args.number (ends (left c.args.source.now) (faults c.args.source.now) (writes c.args.out.now) (holds c.args.out.now))
    (ends (left call.new.source) (faults call.new.source) (writes call.new.out) (holds call.new.out)) works.OrderFold call.result (sym c.work_of.ensures ∙ c.in-OrderFold.is) call.ensures.outcome
