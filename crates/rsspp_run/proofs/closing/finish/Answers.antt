use Rattle.std.proofs.Common.{◌≡◌, ◌≢◌, ◌∙◌, ℕ, ◌<◌, List, [], length, map, get_or, flat_map, None, false, sym, ap, subst, All}
use Rattle.std.specs.Prelude.{IsPermutation}
use Rattle.bucket_table.specs.Table.{TableOf}
use Rattle.handover_words.specs.LocalShelf.{Closes}
use Rattle.handover_words.specs.Stands.{IsTableOf}
use Rattle.worker_loop.specs.WorkerState.{WorkerView}
use Rattle.worker_loop.specs.Workload.{workload}
use Rattle.dispatch_loop.specs.declared.dispatcher_end.DispatcherEnd.TheVariants.{AtEnd}
use Rattle.dispatch_loop.specs.DispatcherState.{dispatcher_state_by}
use Rattle.rsspp_run.specs.LocalRun.{LocalRunView}
use Rattle.rsspp_run.specs.Ends.{log_in, worked_in}
use Rattle.rsspp_run.proofs.EndTables.{homes_lie, tables_stand}
use Rattle.rsspp_run.proofs.Finishing.{is_serial}
use Rattle.rsspp_run.proofs.closing.finish.Goals as goal

pub tables_of-requires-clause-home : goal.tables_of-requires-clause-home
tables_of-requires-clause-home g c κs within =
    let run = c.requires.ended.0 in
    subst (λ (f : LocalRunView (TableOf g.row.W-State.Denot)). (b : ℕ) → b < length f.shelf.homes → get_or f.shelf.homes b None ≢ None) (sym c.local.view_is)
    (homes_lie g.W.FlowWork.opening g.W.FlowWork.after g.W.FlowWork.cost_of g.N.RunName.packets run.terms run.pool run.number run.bytes AtEnd (dispatcher_state_by g.W.FlowWork.cost_of c.args.dispatcher) c.args.local c.requires.ended.1 c.requires.ended.2 c.requires.ended.3)

pub returns-clause-run : goal.returns-clause-run
returns-clause-run g c = λ run reader left h.
    let x = workload g.W.FlowWork.opening g.W.FlowWork.after g.W.FlowWork.cost_of g.N.RunName.packets in
    let still : c.args.dispatcher.short ≡ false = sym c.short.ensures ∙ c.if-short.false in
    let calm = subst (λ (f : LocalRunView (TableOf g.row.W-State.Denot)). All (λ (w : WorkerView (TableOf g.row.W-State.Denot)). w.state.short ≡ false) f.workers) c.local.view_is
    (subst (λ (ws : List (WorkerView (TableOf g.row.W-State.Denot))). All (λ (w : WorkerView (TableOf g.row.W-State.Denot)). w.state.short ≡ false) ws) c.deref.ensures.value (c.is_worker_short.ensures.0 c.if-is_worker_short.false)) in
    let counts = c.in_ok-worked.ensures ∙ (ap (λ (ws : List (WorkerView (TableOf g.row.W-State.Denot))). map worked_in ws) c.deref-2.ensures.value ∙ ap (λ (f : LocalRunView (TableOf g.row.W-State.Denot)). map worked_in f.workers) c.local.view_is) in
    let logs = subst (λ (f : LocalRunView (TableOf g.row.W-State.Denot)). IsPermutation (flat_map log_in f.workers) c.in_ok-custody.custody.items) c.local.view_is
    (subst (λ (ws : List (WorkerView (TableOf g.row.W-State.Denot))). IsPermutation (flat_map log_in ws) c.in_ok-custody.custody.items) c.deref-3.ensures.value c.in_ok-custody.ensures.all) in
    let closes = subst (λ (f : LocalRunView (TableOf g.row.W-State.Denot)). Closes (IsTableOf g.W.FlowWork.opening g.W.FlowWork.after g.N.RunName.packets) f.shelf [] c.in_ok-tables.tables.items) c.local.view_is c.in_ok-tables.ensures in
    let whole = subst (λ (ts : List (TableOf g.row.W-State.Denot)). All (λ (t : TableOf g.row.W-State.Denot). t.short ≡ false) ts) c.deref-4.ensures.value (c.is_table_short.ensures.0 c.if-is_table_short.false) in (
      is_serial g.N.RunName.packets x run.terms run.pool run.number run.bytes (dispatcher_state_by g.W.FlowWork.cost_of c.args.dispatcher) c.args.local reader left h still calm c.into_journal.result c.in_ok-custody.custody.items c.in_ok-worked.worked.items c.into_journal.ensures c.in_ok-custody.ensures.ordered logs counts,
      tables_stand g.W.FlowWork.opening g.W.FlowWork.after g.W.FlowWork.cost_of g.N.RunName.packets run.terms run.pool run.number run.bytes AtEnd (dispatcher_state_by g.W.FlowWork.cost_of c.args.dispatcher) c.args.local reader left h c.in_ok-tables.tables.items closes whole,
    )
