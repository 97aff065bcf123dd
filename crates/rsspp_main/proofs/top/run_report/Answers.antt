use Rattle.std.proofs.Common.{refl, sym, subst, Option, None, Some, ℕ}
use Rattle.rsspp_main.specs.Run.{ends}
use Rattle.rsspp_main.specs.Threads.{IsTold}
use Rattle.rsspp_main.proofs.Asked.{serial_run, threaded_run}
use Rattle.rsspp_main.proofs.top.run_report.Goals as goal

pub returns-in-Ok-clause-outcome : goal.returns-in-Ok-clause-outcome
returns-in-Ok-clause-outcome g c =
    let left = g.S.Source.left in
    let faults = g.S.Source.faults in
    let writes = g.K.Sink.faults in
    let holds = g.K.Sink.may_hold in
    let old = ends (left c.args.source.now) (faults c.args.source.now) (writes c.args.out.now) (holds c.args.out.now) in
    let new = ends (left c.serial_report.new.source) (faults c.serial_report.new.source) (writes c.serial_report.new.out) (holds c.serial_report.new.out) in
    (serial_run g.N.RunName.packets c.args.command.now None old new c.in-Some.number None c.in-Some.is c.in-Ok.ensures.outcome, subst (λ (o : Option ℕ). IsTold o None None) (sym c.in-Some.is) refl)

pub returns-in-Err-clause-outcome : goal.returns-in-Err-clause-outcome
returns-in-Err-clause-outcome g c =
    let left = g.S.Source.left in
    let faults = g.S.Source.faults in
    let writes = g.K.Sink.faults in
    let holds = g.K.Sink.may_hold in
    let old = ends (left c.args.source.now) (faults c.args.source.now) (writes c.args.out.now) (holds c.args.out.now) in
    let new = ends (left c.serial_report.new.source) (faults c.serial_report.new.source) (writes c.serial_report.new.out) (holds c.serial_report.new.out) in
    (serial_run g.N.RunName.packets c.args.command.now None old new c.in-Some.number (Some c.in-Err.fault) c.in-Some.is c.in-Err.ensures.outcome, subst (λ (o : Option ℕ). IsTold o (Some c.in-Err.fault) None) (sym c.in-Some.is) refl)

pub returns-in-Ok-threaded_report-clause-outcome : goal.returns-in-Ok-threaded_report-clause-outcome
returns-in-Ok-threaded_report-clause-outcome g c =
    let left = g.S.Source.left in
    let faults = g.S.Source.faults in
    let writes = g.K.Sink.faults in
    let holds = g.K.Sink.may_hold in
    let old = ends (left c.args.source.now) (faults c.args.source.now) (writes c.args.out.now) (holds c.args.out.now) in
    let new = ends (left c.threaded_report.new.source) (faults c.threaded_report.new.source) (writes c.threaded_report.new.out) (holds c.threaded_report.new.out) in
    (threaded_run g.N.RunName.packets c.args.command.now (Some c.in-Ok-threaded_report.run') old new None c.in-None.is c.in-Ok-threaded_report.ensures.outcome, subst (λ (o : Option ℕ). IsTold o None (Some c.in-Ok-threaded_report.run')) (sym c.in-None.is) refl)

pub returns-in-Err-threaded_report-clause-outcome : goal.returns-in-Err-threaded_report-clause-outcome
returns-in-Err-threaded_report-clause-outcome g c =
    let left = g.S.Source.left in
    let faults = g.S.Source.faults in
    let writes = g.K.Sink.faults in
    let holds = g.K.Sink.may_hold in
    let old = ends (left c.args.source.now) (faults c.args.source.now) (writes c.args.out.now) (holds c.args.out.now) in
    let new = ends (left c.threaded_report.new.source) (faults c.threaded_report.new.source) (writes c.threaded_report.new.out) (holds c.threaded_report.new.out) in
    (threaded_run g.N.RunName.packets c.args.command.now None old new (Some c.in-Err-threaded_report.fault) c.in-None.is c.in-Err-threaded_report.ensures.outcome, subst (λ (o : Option ℕ). IsTold o (Some c.in-Err-threaded_report.fault) None) (sym c.in-None.is) refl)
