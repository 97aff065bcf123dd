use Rattle.std.proofs.Common.{sym, subst}
use Rattle.run_shifts.specs.Parties.{SharedView}
use Rattle.threaded_run.specs.PartyLists.{AreLeft}
use Rattle.threaded_run.proofs.Closings.{left_of}
use Rattle.threaded_run.proofs.closing.finish.Goals as goal

pub close_all-requires-clause-left : goal.close_all-requires-clause-left
close_all-requires-clause-left g c κs within =
    subst (λ (o : SharedView). AreLeft o.shelf o.lanes c.args.senders.items c.args.worker_parties.items) (sym c.shared.view_is)
    (left_of _ c.args.shared c.args.senders.items c.args.worker_parties.items c.requires.worker_parties c.requires.ended c.requires.senders)
