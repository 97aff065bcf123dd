use Rattle.std.proofs.Common.{◌∙◌, sym}
use Rattle.flow_work.specs.declared.work_name.WorkName.TheVariants as works
use Rattle.rsspp_main.specs.Run.{ends}
use Rattle.rsspp_main.proofs.Reported.{demo_by}
use Rattle.rsspp_main.proofs.demo.serial_demo.Goals as goal

pub returns-in-Count : goal.returns-in-Count
returns-in-Count g c = record {
  outcome = λ left reads.
      let writes = g.K.Sink.faults in
      let holds = g.K.Sink.may_hold in
      let call = c.demo_by in
      demo_by g.N.RunName.packets c.args.command.now (ends left reads (writes c.args.out.now) (holds c.args.out.now)) (ends left reads (writes call.new.out) (holds call.new.out)) works.Count call.result (sym c.work_of.ensures ∙ c.in-Count.is) (call.ensures.outcome left reads);
}

pub returns-in-TcpFlags : goal.returns-in-TcpFlags
returns-in-TcpFlags g c = record {
  outcome = λ left reads.
      let writes = g.K.Sink.faults in
      let holds = g.K.Sink.may_hold in
      let call = c.demo_by-in-TcpFlags in
      demo_by g.N.RunName.packets c.args.command.now (ends left reads (writes c.args.out.now) (holds c.args.out.now)) (ends left reads (writes call.new.out) (holds call.new.out)) works.TcpFlags call.result (sym c.work_of.ensures ∙ c.in-TcpFlags.is) (call.ensures.outcome left reads);
}

pub returns-in-Gaps : goal.returns-in-Gaps
returns-in-Gaps g c = record {
  outcome = λ left reads.
      let writes = g.K.Sink.faults in
      let holds = g.K.Sink.may_hold in
      let call = c.demo_by-in-Gaps in
      demo_by g.N.RunName.packets c.args.command.now (ends left reads (writes c.args.out.now) (holds c.args.out.now)) (ends left reads (writes call.new.out) (holds call.new.out)) works.Gaps call.result (sym c.work_of.ensures ∙ c.in-Gaps.is) (call.ensures.outcome left reads);
}

pub returns-in-OrderFold : goal.returns-in-OrderFold
returns-in-OrderFold g c = record {
  outcome = λ left reads.
      let writes = g.K.Sink.faults in
      let holds = g.K.Sink.may_hold in
      let call = c.demo_by-in-OrderFold in
      demo_by g.N.RunName.packets c.args.command.now (ends left reads (writes c.args.out.now) (holds c.args.out.now)) (ends left reads (writes call.new.out) (holds call.new.out)) works.OrderFold call.result (sym c.work_of.ensures ∙ c.in-OrderFold.is) (call.ensures.outcome left reads);
}
