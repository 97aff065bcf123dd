use Rattle.std.proofs.Common.{length, sym, ap}
use Rattle.handover_words.specs.declared.shelf_run.ShelfRun.{ShelfRun}
use Rattle.threaded_run.proofs.NewParties.{new_takers}
use Rattle.threaded_run.proofs.parties.open.Goals as goal

pub open_worker_parties-requires-clause-takers : goal.open_worker_parties-requires-clause-takers
open_worker_parties-requires-clause-takers g c κs within =
    let o = c.args.options.now in let s = c.in_ok-shared.ensures in
    new_takers c.in_ok-shared.field-0.shared o.key (length o.start.owners) c.in_ok-shared.field-0.takers.items (sym (ap (λ (r : ShelfRun). r.key) s.run)) (sym (ap (λ (r : ShelfRun). r.buckets) s.run)) s.takers_are
