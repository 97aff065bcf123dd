use Rattle.std.proofs.Common.{◌≡◌, ◌∙◌, inr, Err, Some, Option, List, map, refl, sym, ap, subst, rules}
use Rattle.std.proofs.lemmas.Result.{err_from_is_err_and}
use Rattle.bucket_table.specs.Table.{TableOf}
use Rattle.indirection.specs.JournalView.{JournalState}
use Rattle.core_queue.specs.RuledLane.{AtLane, Noted}
use Rattle.handover_words.specs.declared.history.Stretch.{Stretch}
use Rattle.rsspp_run.specs.Ends.{AreTablesOf}
use Rattle.threaded_run.specs.Threaded.{IsThreadedRun}
use Rattle.worker_loop.specs.Workload.{workload}
use Rattle.dispatch_loop.specs.declared.dispatcher_end.DispatcherEnd.TheVariants.{AtEnd}
use Rattle.dispatch_loop.specs.DispatcherState.{dispatcher_state_by}
use Rattle.dispatch_loop.specs.Terms.{Terms, terms_of}
use Rattle.rsspp_run.specs.declared.run_end.RunFault.TheVariants as running
use Rattle.rsspp_run.specs.Refused.{Refuses}
use Rattle.rsspp_run.proofs.Folds.{refused_end}
use Rattle.rsspp_run.proofs.Serials.{ended_so, all_read, blamed_end, never_short}
use Rattle.threaded_run.proofs.Lefts as lefts
use Rattle.threaded_run.proofs.Runs as runs
use Rattle.threaded_run.proofs.threaded.run_threads.Goals as goal

pub returns-in_err-passes-clause-refused : goal.returns-in_err-passes-clause-refused
returns-in_err-passes-clause-refused g c =
    let from = c.from_residual-in_err-passes.ensures in
    search (rules, from)

pub returns-in_err-passes-clause-cause : goal.returns-in_err-passes-clause-cause
returns-in_err-passes-clause-cause g c =
    let from = c.from_residual-in_err-passes.ensures in
    search (rules, from)

pub returns-in_err-dispatcher-clause-refused : goal.returns-in_err-dispatcher-clause-refused
returns-in_err-dispatcher-clause-refused g c =
    let left = g.S.Source.left in let j = workload g.W.FlowWork.opening g.W.FlowWork.after g.W.FlowWork.cost_of g.N.RunName.packets in let o = c.args.options.now in
    let place = c.in_ok-shared.shared in let parties = c.in_ok-shared.parties in let is = c.in_ok-shared.ensures in
    let terms = lefts.terms_are j (terms_of g.W.FlowWork.cost_of o) place (dispatcher_state_by g.W.FlowWork.cost_of parties.dispatcher) parties.senders.items parties.seat parties.load parties.cells parties.worker_parties.items is in
    let k : Refuses o.packets (left c.args.source.now) (left c.run_parties.new.source) c.in_err-dispatcher.field-0.0 = subst (λ (t : Terms). Refuses t.packets (left c.args.source.now) (left c.run_parties.new.source) c.in_err-dispatcher.field-0.0) terms c.in_err-dispatcher.ensures.refused in
    let from = c.from_residual-in_err-dispatcher.ensures in
    search (rules, k, from)

pub returns-in_err-refused-clause-refused : goal.returns-in_err-refused-clause-refused
returns-in_err-refused-clause-refused g c =
    let left = g.S.Source.left in let faults = g.S.Source.faults in let j = workload g.W.FlowWork.opening g.W.FlowWork.after g.W.FlowWork.cost_of g.N.RunName.packets in let o = c.args.options.now in
    let place = c.in_ok-shared.shared in let parties = c.in_ok-shared.parties in let is = c.in_ok-shared.ensures in
    let ran = c.in_ok-dispatcher.field-0 in let said = c.in_ok-dispatcher.ensures in
    let terms = lefts.terms_are j (terms_of g.W.FlowWork.cost_of o) place (dispatcher_state_by g.W.FlowWork.cost_of parties.dispatcher) parties.senders.items parties.seat parties.load parties.cells parties.worker_parties.items is in
    let has = runs.run_as g.N.RunName.packets (dispatcher_state_by g.W.FlowWork.cost_of parties.dispatcher).terms (terms_of g.W.FlowWork.cost_of o) (left c.args.source.now) ran.end ran.end (dispatcher_state_by g.W.FlowWork.cost_of ran.dispatcher) (map (λ (a : AtLane). a.history) ran.senders.items) (left c.run_parties.new.source) terms refl said.run in
    let over = runs.over_then g.N.RunName.packets (terms_of g.W.FlowWork.cost_of o) (left c.args.source.now) ran.end (dispatcher_state_by g.W.FlowWork.cost_of ran.dispatcher) (map (λ (a : AtLane). a.history) ran.senders.items) (left c.run_parties.new.source) has in
    let k : Refuses o.packets (left c.args.source.now) (left c.run_parties.new.source) c.in_err-refused.field-0.0 = refused_end o.packets (left c.args.source.now) (left c.run_parties.new.source) ran.end has.sent c.in_err-refused.field-0.0 (sym c.refused.ensures ∙ c.in_err-refused.was) over in
    let from = c.from_residual-in_err-refused.ensures in
    let p = err_from_is_err_and c.from_residual-in_err-refused.result from.1 in
    rw (p.1, p.2) k

pub returns-in_err-refused-clause-cause : goal.returns-in_err-refused-clause-cause
returns-in_err-refused-clause-cause g c =
    let left = g.S.Source.left in let faults = g.S.Source.faults in let j = workload g.W.FlowWork.opening g.W.FlowWork.after g.W.FlowWork.cost_of g.N.RunName.packets in let o = c.args.options.now in
    let place = c.in_ok-shared.shared in let parties = c.in_ok-shared.parties in let is = c.in_ok-shared.ensures in
    let ran = c.in_ok-dispatcher.field-0 in let said = c.in_ok-dispatcher.ensures in
    let terms = lefts.terms_are j (terms_of g.W.FlowWork.cost_of o) place (dispatcher_state_by g.W.FlowWork.cost_of parties.dispatcher) parties.senders.items parties.seat parties.load parties.cells parties.worker_parties.items is in
    let k = blamed_end ran.end c.in_err-refused.field-0.0 (faults c.args.source.now) (faults c.run_parties.new.source) (sym c.refused.ensures ∙ c.in_err-refused.was) said.blames in
    let from = c.from_residual-in_err-refused.ensures in
    let p = err_from_is_err_and c.from_residual-in_err-refused.result from.1 in
    rw (p.1, p.2) k

pub returns-in_err-refused-clause-memory : goal.returns-in_err-refused-clause-memory
returns-in_err-refused-clause-memory g c = λ short.
    let left = g.S.Source.left in let faults = g.S.Source.faults in let j = workload g.W.FlowWork.opening g.W.FlowWork.after g.W.FlowWork.cost_of g.N.RunName.packets in let o = c.args.options.now in
    let place = c.in_ok-shared.shared in let parties = c.in_ok-shared.parties in let is = c.in_ok-shared.ensures in
    let ran = c.in_ok-dispatcher.field-0 in let said = c.in_ok-dispatcher.ensures in
    let terms = lefts.terms_are j (terms_of g.W.FlowWork.cost_of o) place (dispatcher_state_by g.W.FlowWork.cost_of parties.dispatcher) parties.senders.items parties.seat parties.load parties.cells parties.worker_parties.items is in
    let has = runs.run_as g.N.RunName.packets (dispatcher_state_by g.W.FlowWork.cost_of parties.dispatcher).terms (terms_of g.W.FlowWork.cost_of o) (left c.args.source.now) ran.end ran.end (dispatcher_state_by g.W.FlowWork.cost_of ran.dispatcher) (map (λ (a : AtLane). a.history) ran.senders.items) (left c.run_parties.new.source) terms refl said.run in
    let over = runs.over_then g.N.RunName.packets (terms_of g.W.FlowWork.cost_of o) (left c.args.source.now) ran.end (dispatcher_state_by g.W.FlowWork.cost_of ran.dispatcher) (map (λ (a : AtLane). a.history) ran.senders.items) (left c.run_parties.new.source) has in
    let from = c.from_residual-in_err-refused.ensures in
    let none : c.in_err-refused.field-0.0 ≡ running.NoMemory = search (rules, from, short) in
    absurd (never_short o.packets (left c.args.source.now) (left c.run_parties.new.source) has.sent ran.end over (sym c.refused.ensures ∙ (c.in_err-refused.was ∙ ap Err none)))

pub returns-in_err-tell-clause-memory : goal.returns-in_err-tell-clause-memory
returns-in_err-tell-clause-memory g c = λ short.
    let left = g.S.Source.left in let faults = g.S.Source.faults in let j = workload g.W.FlowWork.opening g.W.FlowWork.after g.W.FlowWork.cost_of g.N.RunName.packets in let o = c.args.options.now in
    let place = c.in_ok-shared.shared in let parties = c.in_ok-shared.parties in let is = c.in_ok-shared.ensures in
    let ran = c.in_ok-dispatcher.field-0 in let said = c.in_ok-dispatcher.ensures in
    let terms = lefts.terms_are j (terms_of g.W.FlowWork.cost_of o) place (dispatcher_state_by g.W.FlowWork.cost_of parties.dispatcher) parties.senders.items parties.seat parties.load parties.cells parties.worker_parties.items is in
    let ends = ended_so ran.end (sym c.refused.ensures ∙ c.in_ok-refused.was) in
    let has = runs.run_as g.N.RunName.packets (dispatcher_state_by g.W.FlowWork.cost_of parties.dispatcher).terms (terms_of g.W.FlowWork.cost_of o) (left c.args.source.now) ran.end AtEnd (dispatcher_state_by g.W.FlowWork.cost_of ran.dispatcher) (map (λ (a : AtLane). a.history) ran.senders.items) (left c.run_parties.new.source) terms ends said.run in
    let over = runs.over_then g.N.RunName.packets (terms_of g.W.FlowWork.cost_of o) (left c.args.source.now) AtEnd (dispatcher_state_by g.W.FlowWork.cost_of ran.dispatcher) (map (λ (a : AtLane). a.history) ran.senders.items) (left c.run_parties.new.source) has in
    inr (has.sent, all_read o.packets (left c.args.source.now) (left c.run_parties.new.source) has.sent over, over.leaves)

pub returns-clause-run : goal.returns-clause-run
returns-clause-run g c =
    let left = g.S.Source.left in let faults = g.S.Source.faults in let j = workload g.W.FlowWork.opening g.W.FlowWork.after g.W.FlowWork.cost_of g.N.RunName.packets in let o = c.args.options.now in
    let place = c.in_ok-shared.shared in let parties = c.in_ok-shared.parties in let is = c.in_ok-shared.ensures in
    let ran = c.in_ok-dispatcher.field-0 in let said = c.in_ok-dispatcher.ensures in
    let terms = lefts.terms_are j (terms_of g.W.FlowWork.cost_of o) place (dispatcher_state_by g.W.FlowWork.cost_of parties.dispatcher) parties.senders.items parties.seat parties.load parties.cells parties.worker_parties.items is in
    let ends = ended_so ran.end (sym c.refused.ensures ∙ c.in_ok-refused.was) in
    let has = runs.run_as g.N.RunName.packets (dispatcher_state_by g.W.FlowWork.cost_of parties.dispatcher).terms (terms_of g.W.FlowWork.cost_of o) (left c.args.source.now) ran.end AtEnd (dispatcher_state_by g.W.FlowWork.cost_of ran.dispatcher) (map (λ (a : AtLane). a.history) ran.senders.items) (left c.run_parties.new.source) terms ends said.run in
    let over = runs.over_then g.N.RunName.packets (terms_of g.W.FlowWork.cost_of o) (left c.args.source.now) AtEnd (dispatcher_state_by g.W.FlowWork.cost_of ran.dispatcher) (map (λ (a : AtLane). a.history) ran.senders.items) (left c.run_parties.new.source) has in
    let many = lefts.back_many j (terms_of g.W.FlowWork.cost_of o) place (dispatcher_state_by g.W.FlowWork.cost_of parties.dispatcher) parties.senders.items parties.seat parties.load parties.cells parties.worker_parties.items is ran.senders.items ran.seat said.back in let buckets = lefts.buckets_are j (terms_of g.W.FlowWork.cost_of o) place (dispatcher_state_by g.W.FlowWork.cost_of parties.dispatcher) parties.senders.items parties.seat parties.load parties.cells parties.worker_parties.items is in
    let told = c.in_ok-tell.ensures in let shut = c.finish-left.ensures in let closed = shut.tables in let end = c.in_ok-tell.field-0 in
    let key = closed.1 ∙ lefts.back_key j (terms_of g.W.FlowWork.cost_of o) place (dispatcher_state_by g.W.FlowWork.cost_of parties.dispatcher) parties.senders.items parties.seat parties.load parties.cells parties.worker_parties.items is ran.senders.items ran.seat said.back in let wide = closed.2 ∙ lefts.back_buckets j (terms_of g.W.FlowWork.cost_of o) place (dispatcher_state_by g.W.FlowWork.cost_of parties.dispatcher) parties.senders.items parties.seat parties.load parties.cells parties.worker_parties.items is ran.senders.items ran.seat said.back in
    let still = told.fine.0 in let gathered = closed.3 ∙ shut.shelf in
    let tables = runs.tables_are g.W.FlowWork.opening g.W.FlowWork.after g.W.FlowWork.cost_of (λ p. ((g.met.W.FlowWork g.world.𝓛 g.world.𝓜 g.world.𝓡 ((λ s x. x), (λ x. x), (λ x. x), λ x. x)).costs p).1) g.N.RunName.packets o c.requires.accepted place (left c.args.source.now) (left c.run_parties.new.source) (dispatcher_state_by g.W.FlowWork.cost_of ran.dispatcher) ran.senders.items ran.worker_parties.items has still said.worker_parties.0 said.worker_parties.1 buckets shut.took many closed.0 c.finish-left.result.tables.items key wide gathered closed.4 told.fine.2 in
    let run = runs.run_is g.W.FlowWork.opening g.W.FlowWork.after g.W.FlowWork.cost_of (λ p. ((g.met.W.FlowWork g.world.𝓛 g.world.𝓜 g.world.𝓡 ((λ s x. x), (λ x. x), (λ x. x), λ x. x)).costs p).1) g.N.RunName.packets o c.requires.accepted place (left c.args.source.now) (left c.run_parties.new.source) (dispatcher_state_by g.W.FlowWork.cost_of ran.dispatcher) ran.senders.items ran.worker_parties.items has still said.worker_parties.0 said.worker_parties.1 buckets shut.took many closed.0 c.finish-left.result.tables.items key wide gathered closed.4
    end.custody.items end.worked.items c.finish-left.result.notes.items c.finish-left.result.workers.items c.finish-left.result.shelf shut.workers told.fine.1 told.custody.0 told.custody.1 told.worked shut.sent shut.taken closed.3 in
    let of_journal = subst (λ (z : JournalState). IsThreadedRun (terms_of g.W.FlowWork.cost_of o) has.sent z end.custody.items end.worked.items c.finish-left.result.notes.items (Some c.finish-left.result.shelf)) (sym told.journal) run in
    let of_notes = subst (λ (z : List Noted). IsThreadedRun (terms_of g.W.FlowWork.cost_of o) has.sent end.journal end.custody.items end.worked.items z (Some c.finish-left.result.shelf)) (sym told.kept.1) of_journal in
    let of_shelf = subst (λ (z : Option (List Stretch)). IsThreadedRun (terms_of g.W.FlowWork.cost_of o) has.sent end.journal end.custody.items end.worked.items end.notes.items z) (sym told.kept.2) of_notes in (
      has.sent,
      all_read o.packets (left c.args.source.now) (left c.run_parties.new.source) has.sent over,
      of_shelf,
      subst (λ (z : List (TableOf g.row.W-State.Denot)). AreTablesOf g.W.FlowWork.opening g.W.FlowWork.after g.N.RunName.packets (terms_of g.W.FlowWork.cost_of o) has.sent z) (sym told.kept.0) tables,
    )
