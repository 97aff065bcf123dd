use Rattle.std.proofs.Common.{◌≡◌, ◌∙◌, inl, inr, Err, length, refl, sym, ap, subst, rules, Option, Some}
use Rattle.worker_loop.specs.Workload.{workload}
use Rattle.dispatch_loop.specs.declared.dispatcher_end.DispatcherEnd.{DispatcherEnd}
use Rattle.dispatch_loop.specs.declared.dispatcher_end.DispatcherEnd.TheVariants.{AtEnd}
use Rattle.dispatch_loop.specs.DispatcherState.{DispatcherState, dispatcher_state_by}
use Rattle.dispatch_loop.specs.OptionsView.{OptionsView}
use Rattle.dispatch_loop.specs.Rules.{BlamesRead}
use Rattle.dispatch_loop.specs.Terms.{terms_of}
use Rattle.rsspp_run.specs.Refused.{fault_of_error, Refuses, Blames}
use Rattle.rsspp_run.specs.declared.run_end.RunFault.TheVariants as running
use Rattle.rsspp_run.specs.Sweeps.{RunInputs, EndsSo}
use Rattle.rsspp_run.proofs.Begins.{run_opens}
use Rattle.rsspp_run.proofs.Folds.{refused_at_start, refused_end}
use Rattle.rsspp_run.proofs.Serials.{ended_so, over_then, all_read, blamed_start, blamed_end, never_short, start_short}
use Rattle.rsspp_run.proofs.serial.run_serial.Goals as goal

pub returns-in_err-reader-clause-refused : goal.returns-in_err-reader-clause-refused
returns-in_err-reader-clause-refused g c =
    let k = refused_at_start c.args.options.now.packets (g.S.Source.left c.args.source.now) (g.S.Source.left c.start.new.source) c.in_err-reader.field-0.0 c.in_err-reader.ensures.refused c.in_err-reader.ensures.stops in
    let from = c.from_residual-in_err-reader.ensures in
    search (rules, k, from)

pub returns-in_err-reader-clause-cause : goal.returns-in_err-reader-clause-cause
returns-in_err-reader-clause-cause g c =
    let faults = g.S.Source.faults in
    let k = blamed_start c.in_err-reader.field-0.0 (faults c.args.source.now) (faults c.start.new.source) c.in_err-reader.ensures.cause.answer in
    let from = c.from_residual-in_err-reader.ensures in
    search (rules, k, from)

pub run_sweeps-end-requires-clause-sweeping : goal.run_sweeps-end-requires-clause-sweeping
run_sweeps-end-requires-clause-sweeping g c κs within =
    let left = g.S.Source.left in let faults = g.S.Source.faults in let x = workload g.W.FlowWork.opening g.W.FlowWork.after g.W.FlowWork.cost_of g.N.RunName.packets in
    let run : RunInputs = record { terms = terms_of g.W.FlowWork.cost_of c.args.options.now; pool = c.args.options.now.pool; number = c.args.number; swept = 0; bytes = left c.args.source.now } in
    let opens = run_opens g.N.RunName.packets x c.args.options.now c.requires.accepted (λ p. (g.met.W.FlowWork.costs p).1) c.args.number (left c.args.source.now) (left c.start.new.source) c.in_ok-local.local c.in_ok-reader.reader c.in_ok-local.ensures c.requires.named c.in_ok-reader.ensures.header c.in_ok-reader.ensures.first (dispatcher_state_by g.W.FlowWork.cost_of c.in_ok-dispatcher.dispatcher) c.in_ok-dispatcher.ensures.fresh in
    (run, opens, refl, refl)

pub returns-in_err-refused-clause-refused : goal.returns-in_err-refused-clause-refused
returns-in_err-refused-clause-refused g c =
    let k : Refuses c.args.options.now.packets (g.S.Source.left c.args.source.now) (g.S.Source.left c.run_sweeps-end.new.source) c.in_err-refused.field-0.0 = (
    let left = g.S.Source.left in let faults = g.S.Source.faults in let x = workload g.W.FlowWork.opening g.W.FlowWork.after g.W.FlowWork.cost_of g.N.RunName.packets in
    let run : RunInputs = record { terms = terms_of g.W.FlowWork.cost_of c.args.options.now; pool = c.args.options.now.pool; number = c.args.number; swept = 0; bytes = left c.args.source.now } in
    let opens = run_opens g.N.RunName.packets x c.args.options.now c.requires.accepted (λ p. (g.met.W.FlowWork.costs p).1) c.args.number (left c.args.source.now) (left c.start.new.source) c.in_ok-local.local c.in_ok-reader.reader c.in_ok-local.ensures c.requires.named c.in_ok-reader.ensures.header c.in_ok-reader.ensures.first (dispatcher_state_by g.W.FlowWork.cost_of c.in_ok-dispatcher.dispatcher) c.in_ok-dispatcher.ensures.fresh in
    let h = c.run_sweeps-end.ensures.ended run opens refl refl in
    let over = over_then g.N.RunName.packets x run.terms run.pool run.number run.bytes c.run_sweeps-end.result (dispatcher_state_by g.W.FlowWork.cost_of c.run_sweeps-end.new.dispatcher) c.run_sweeps-end.new.self c.run_sweeps-end.new.reader (left c.run_sweeps-end.new.source) h in
    refused_end c.args.options.now.packets (left c.args.source.now) (left c.run_sweeps-end.new.source) c.run_sweeps-end.result h.sent c.in_err-refused.field-0.0 (sym c.refused.ensures ∙ c.in_err-refused.was) over
    ) in
    let from = c.from_residual-in_err-refused.ensures in
    search (rules, k, from)

pub returns-in_err-refused-clause-cause : goal.returns-in_err-refused-clause-cause
returns-in_err-refused-clause-cause g c =
    let k : Blames c.in_err-refused.field-0.0 (g.S.Source.faults c.args.source.now) (g.S.Source.faults c.run_sweeps-end.new.source) = (
    let left = g.S.Source.left in let faults = g.S.Source.faults in let x = workload g.W.FlowWork.opening g.W.FlowWork.after g.W.FlowWork.cost_of g.N.RunName.packets in
    let run : RunInputs = record { terms = terms_of g.W.FlowWork.cost_of c.args.options.now; pool = c.args.options.now.pool; number = c.args.number; swept = 0; bytes = left c.args.source.now } in
    let opens = run_opens g.N.RunName.packets x c.args.options.now c.requires.accepted (λ p. (g.met.W.FlowWork.costs p).1) c.args.number (left c.args.source.now) (left c.start.new.source) c.in_ok-local.local c.in_ok-reader.reader c.in_ok-local.ensures c.requires.named c.in_ok-reader.ensures.header c.in_ok-reader.ensures.first (dispatcher_state_by g.W.FlowWork.cost_of c.in_ok-dispatcher.dispatcher) c.in_ok-dispatcher.ensures.fresh in
    let h = c.run_sweeps-end.ensures.ended run opens refl refl in
    let begun = subst (λ (d : DispatcherState). BlamesRead d.end (faults c.args.source.now) (faults c.start.new.source)) (sym c.in_ok-dispatcher.ensures.fresh) c.in_ok-reader.ensures.cause.answer in
    let blames = subst (λ (o : Option DispatcherEnd). BlamesRead o (faults c.args.source.now) (faults c.run_sweeps-end.new.source)) h.end_is (c.run_sweeps-end.ensures.blames (faults c.args.source.now) begun) in
    blamed_end c.run_sweeps-end.result c.in_err-refused.field-0.0 (faults c.args.source.now) (faults c.run_sweeps-end.new.source) (sym c.refused.ensures ∙ c.in_err-refused.was) blames
    ) in
    let from = c.from_residual-in_err-refused.ensures in
    search (rules, k, from)

pub finish-requires-clause-ended : goal.finish-requires-clause-ended
finish-requires-clause-ended g c κs within =
    let left = g.S.Source.left in let faults = g.S.Source.faults in let x = workload g.W.FlowWork.opening g.W.FlowWork.after g.W.FlowWork.cost_of g.N.RunName.packets in
    let run : RunInputs = record { terms = terms_of g.W.FlowWork.cost_of c.args.options.now; pool = c.args.options.now.pool; number = c.args.number; swept = 0; bytes = left c.args.source.now } in
    let opens = run_opens g.N.RunName.packets x c.args.options.now c.requires.accepted (λ p. (g.met.W.FlowWork.costs p).1) c.args.number (left c.args.source.now) (left c.start.new.source) c.in_ok-local.local c.in_ok-reader.reader c.in_ok-local.ensures c.requires.named c.in_ok-reader.ensures.header c.in_ok-reader.ensures.first (dispatcher_state_by g.W.FlowWork.cost_of c.in_ok-dispatcher.dispatcher) c.in_ok-dispatcher.ensures.fresh in
    let h = c.run_sweeps-end.ensures.ended run opens refl refl in
    let ended = subst (λ (how : DispatcherEnd). EndsSo g.N.RunName.packets x run how (dispatcher_state_by g.W.FlowWork.cost_of c.run_sweeps-end.new.dispatcher) c.run_sweeps-end.new.self c.run_sweeps-end.new.reader (left c.run_sweeps-end.new.source)) (ended_so c.run_sweeps-end.result (sym c.refused.ensures ∙ c.in_ok-refused.was)) h in
    (run, c.run_sweeps-end.new.reader, left c.run_sweeps-end.new.source, ended, c.buckets.ensures.value ∙ ap (λ (o : OptionsView). length o.start.owners) c.options.view_is)

pub returns-in_err-finish-clause-cause : goal.returns-in_err-finish-clause-cause
returns-in_err-finish-clause-cause g c =
    let left = g.S.Source.left in let faults = g.S.Source.faults in let x = workload g.W.FlowWork.opening g.W.FlowWork.after g.W.FlowWork.cost_of g.N.RunName.packets in
    let run : RunInputs = record { terms = terms_of g.W.FlowWork.cost_of c.args.options.now; pool = c.args.options.now.pool; number = c.args.number; swept = 0; bytes = left c.args.source.now } in
    let opens = run_opens g.N.RunName.packets x c.args.options.now c.requires.accepted (λ p. (g.met.W.FlowWork.costs p).1) c.args.number (left c.args.source.now) (left c.start.new.source) c.in_ok-local.local c.in_ok-reader.reader c.in_ok-local.ensures c.requires.named c.in_ok-reader.ensures.header c.in_ok-reader.ensures.first (dispatcher_state_by g.W.FlowWork.cost_of c.in_ok-dispatcher.dispatcher) c.in_ok-dispatcher.ensures.fresh in
    let h = c.run_sweeps-end.ensures.ended run opens refl refl in
    let begun = subst (λ (d : DispatcherState). BlamesRead d.end (faults c.args.source.now) (faults c.start.new.source)) (sym c.in_ok-dispatcher.ensures.fresh) c.in_ok-reader.ensures.cause.answer in
    let blames = subst (λ (o : Option DispatcherEnd). BlamesRead o (faults c.args.source.now) (faults c.run_sweeps-end.new.source)) h.end_is (c.run_sweeps-end.ensures.blames (faults c.args.source.now) begun) in
    let quiet = subst (λ (how : DispatcherEnd). BlamesRead (Some how) (faults c.args.source.now) (faults c.run_sweeps-end.new.source)) (ended_so c.run_sweeps-end.result (sym c.refused.ensures ∙ c.in_ok-refused.was)) blames in
    let from = c.from_residual-in_err-finish.ensures in
    search (rules, quiet, from)

pub returns-clause-run : goal.returns-clause-run
returns-clause-run g c =
    let left = g.S.Source.left in let faults = g.S.Source.faults in let x = workload g.W.FlowWork.opening g.W.FlowWork.after g.W.FlowWork.cost_of g.N.RunName.packets in
    let run : RunInputs = record { terms = terms_of g.W.FlowWork.cost_of c.args.options.now; pool = c.args.options.now.pool; number = c.args.number; swept = 0; bytes = left c.args.source.now } in
    let opens = run_opens g.N.RunName.packets x c.args.options.now c.requires.accepted (λ p. (g.met.W.FlowWork.costs p).1) c.args.number (left c.args.source.now) (left c.start.new.source) c.in_ok-local.local c.in_ok-reader.reader c.in_ok-local.ensures c.requires.named c.in_ok-reader.ensures.header c.in_ok-reader.ensures.first (dispatcher_state_by g.W.FlowWork.cost_of c.in_ok-dispatcher.dispatcher) c.in_ok-dispatcher.ensures.fresh in
    let h = c.run_sweeps-end.ensures.ended run opens refl refl in
    let ended = subst (λ (how : DispatcherEnd). EndsSo g.N.RunName.packets x run how (dispatcher_state_by g.W.FlowWork.cost_of c.run_sweeps-end.new.dispatcher) c.run_sweeps-end.new.self c.run_sweeps-end.new.reader (left c.run_sweeps-end.new.source)) (ended_so c.run_sweeps-end.result (sym c.refused.ensures ∙ c.in_ok-refused.was)) h in
    let over = over_then g.N.RunName.packets x run.terms run.pool run.number run.bytes AtEnd (dispatcher_state_by g.W.FlowWork.cost_of c.run_sweeps-end.new.dispatcher) c.run_sweeps-end.new.self c.run_sweeps-end.new.reader (left c.run_sweeps-end.new.source) ended in
    let got = c.in_ok-finish.ensures.run run c.run_sweeps-end.new.reader (left c.run_sweeps-end.new.source) ended in
    (ended.sent, all_read c.args.options.now.packets (left c.args.source.now) (left c.run_sweeps-end.new.source) ended.sent over, got.0, got.1)

pub returns-clause-end : goal.returns-clause-end
returns-clause-end g c =
    let left = g.S.Source.left in let faults = g.S.Source.faults in let x = workload g.W.FlowWork.opening g.W.FlowWork.after g.W.FlowWork.cost_of g.N.RunName.packets in
    let run : RunInputs = record { terms = terms_of g.W.FlowWork.cost_of c.args.options.now; pool = c.args.options.now.pool; number = c.args.number; swept = 0; bytes = left c.args.source.now } in
    let opens = run_opens g.N.RunName.packets x c.args.options.now c.requires.accepted (λ p. (g.met.W.FlowWork.costs p).1) c.args.number (left c.args.source.now) (left c.start.new.source) c.in_ok-local.local c.in_ok-reader.reader c.in_ok-local.ensures c.requires.named c.in_ok-reader.ensures.header c.in_ok-reader.ensures.first (dispatcher_state_by g.W.FlowWork.cost_of c.in_ok-dispatcher.dispatcher) c.in_ok-dispatcher.ensures.fresh in
    let h = c.run_sweeps-end.ensures.ended run opens refl refl in
    let ended = subst (λ (how : DispatcherEnd). EndsSo g.N.RunName.packets x run how (dispatcher_state_by g.W.FlowWork.cost_of c.run_sweeps-end.new.dispatcher) c.run_sweeps-end.new.self c.run_sweeps-end.new.reader (left c.run_sweeps-end.new.source)) (ended_so c.run_sweeps-end.result (sym c.refused.ensures ∙ c.in_ok-refused.was)) h in
    (over_then g.N.RunName.packets x run.terms run.pool run.number run.bytes AtEnd (dispatcher_state_by g.W.FlowWork.cost_of c.run_sweeps-end.new.dispatcher) c.run_sweeps-end.new.self c.run_sweeps-end.new.reader (left c.run_sweeps-end.new.source) ended).leaves

pub returns-clause-cause : goal.returns-clause-cause
returns-clause-cause g c =
    let left = g.S.Source.left in let faults = g.S.Source.faults in let x = workload g.W.FlowWork.opening g.W.FlowWork.after g.W.FlowWork.cost_of g.N.RunName.packets in
    let run : RunInputs = record { terms = terms_of g.W.FlowWork.cost_of c.args.options.now; pool = c.args.options.now.pool; number = c.args.number; swept = 0; bytes = left c.args.source.now } in
    let opens = run_opens g.N.RunName.packets x c.args.options.now c.requires.accepted (λ p. (g.met.W.FlowWork.costs p).1) c.args.number (left c.args.source.now) (left c.start.new.source) c.in_ok-local.local c.in_ok-reader.reader c.in_ok-local.ensures c.requires.named c.in_ok-reader.ensures.header c.in_ok-reader.ensures.first (dispatcher_state_by g.W.FlowWork.cost_of c.in_ok-dispatcher.dispatcher) c.in_ok-dispatcher.ensures.fresh in
    let h = c.run_sweeps-end.ensures.ended run opens refl refl in
    let begun = subst (λ (d : DispatcherState). BlamesRead d.end (faults c.args.source.now) (faults c.start.new.source)) (sym c.in_ok-dispatcher.ensures.fresh) c.in_ok-reader.ensures.cause.answer in
    let blames = subst (λ (o : Option DispatcherEnd). BlamesRead o (faults c.args.source.now) (faults c.run_sweeps-end.new.source)) h.end_is (c.run_sweeps-end.ensures.blames (faults c.args.source.now) begun) in
    let quiet = subst (λ (how : DispatcherEnd). BlamesRead (Some how) (faults c.args.source.now) (faults c.run_sweeps-end.new.source)) (ended_so c.run_sweeps-end.result (sym c.refused.ensures ∙ c.in_ok-refused.was)) blames in
    quiet

pub returns-in_err-reader-clause-memory : goal.returns-in_err-reader-clause-memory
returns-in_err-reader-clause-memory g c = λ short.
    let from = c.from_residual-in_err-reader.ensures in
    let same : fault_of_error c.in_err-reader.field-0.0 ≡ running.NoMemory = search (rules, from, short) in
    let is = start_short c.in_err-reader.field-0.0 same in
    inl (c.in_err-reader.ensures.no_memory (search (rules, is)))

pub returns-in_err-refused-clause-memory : goal.returns-in_err-refused-clause-memory
returns-in_err-refused-clause-memory g c = λ short.
    let left = g.S.Source.left in let faults = g.S.Source.faults in let x = workload g.W.FlowWork.opening g.W.FlowWork.after g.W.FlowWork.cost_of g.N.RunName.packets in
    let run : RunInputs = record { terms = terms_of g.W.FlowWork.cost_of c.args.options.now; pool = c.args.options.now.pool; number = c.args.number; swept = 0; bytes = left c.args.source.now } in
    let opens = run_opens g.N.RunName.packets x c.args.options.now c.requires.accepted (λ p. (g.met.W.FlowWork.costs p).1) c.args.number (left c.args.source.now) (left c.start.new.source) c.in_ok-local.local c.in_ok-reader.reader c.in_ok-local.ensures c.requires.named c.in_ok-reader.ensures.header c.in_ok-reader.ensures.first (dispatcher_state_by g.W.FlowWork.cost_of c.in_ok-dispatcher.dispatcher) c.in_ok-dispatcher.ensures.fresh in
    let h = c.run_sweeps-end.ensures.ended run opens refl refl in
    let over = over_then g.N.RunName.packets x run.terms run.pool run.number run.bytes c.run_sweeps-end.result (dispatcher_state_by g.W.FlowWork.cost_of c.run_sweeps-end.new.dispatcher) c.run_sweeps-end.new.self c.run_sweeps-end.new.reader (left c.run_sweeps-end.new.source) h in
    let from = c.from_residual-in_err-refused.ensures in
    let none : c.in_err-refused.field-0.0 ≡ running.NoMemory = search (rules, from, short) in
    absurd (never_short c.args.options.now.packets (left c.args.source.now) (left c.run_sweeps-end.new.source) h.sent c.run_sweeps-end.result over (sym c.refused.ensures ∙ (c.in_err-refused.was ∙ ap Err none)))

pub returns-in_err-finish-clause-memory : goal.returns-in_err-finish-clause-memory
returns-in_err-finish-clause-memory g c = λ short.
    let left = g.S.Source.left in let faults = g.S.Source.faults in let x = workload g.W.FlowWork.opening g.W.FlowWork.after g.W.FlowWork.cost_of g.N.RunName.packets in
    let run : RunInputs = record { terms = terms_of g.W.FlowWork.cost_of c.args.options.now; pool = c.args.options.now.pool; number = c.args.number; swept = 0; bytes = left c.args.source.now } in
    let opens = run_opens g.N.RunName.packets x c.args.options.now c.requires.accepted (λ p. (g.met.W.FlowWork.costs p).1) c.args.number (left c.args.source.now) (left c.start.new.source) c.in_ok-local.local c.in_ok-reader.reader c.in_ok-local.ensures c.requires.named c.in_ok-reader.ensures.header c.in_ok-reader.ensures.first (dispatcher_state_by g.W.FlowWork.cost_of c.in_ok-dispatcher.dispatcher) c.in_ok-dispatcher.ensures.fresh in
    let h = c.run_sweeps-end.ensures.ended run opens refl refl in
    let ended = subst (λ (how : DispatcherEnd). EndsSo g.N.RunName.packets x run how (dispatcher_state_by g.W.FlowWork.cost_of c.run_sweeps-end.new.dispatcher) c.run_sweeps-end.new.self c.run_sweeps-end.new.reader (left c.run_sweeps-end.new.source)) (ended_so c.run_sweeps-end.result (sym c.refused.ensures ∙ c.in_ok-refused.was)) h in
    let over = over_then g.N.RunName.packets x run.terms run.pool run.number run.bytes AtEnd (dispatcher_state_by g.W.FlowWork.cost_of c.run_sweeps-end.new.dispatcher) c.run_sweeps-end.new.self c.run_sweeps-end.new.reader (left c.run_sweeps-end.new.source) ended in
    inr (ended.sent, all_read c.args.options.now.packets (left c.args.source.now) (left c.run_sweeps-end.new.source) ended.sent over, over.leaves)
