use Rattle.std.proofs.Common.{◌++◌, ◌∷◌, []}
use Rattle.handover_core.specs.State.{CoreState}
use Rattle.handover_core.proofs.Rooms.{updated, rooms-updated}
use Rattle.handover_core.proofs.machine.dispatching.post.Goals as goal

pub returns-clause-cores : goal.returns-clause-cores
returns-clause-cores c =
    updated c.args.cores.now.items c.args.core c.index_mut.result.now c.push.new.self (λ (s : CoreState). let r : CoreState = record s { queue = s.queue ++ c.args.item ∷ [] } in r)
    c.requires.core c.index_mut.ensures.value c.push.ensures.state

pub returns-clause-rooms : goal.returns-clause-rooms
returns-clause-rooms c = λ q t h. rooms-updated q t c.args.cores.now.items c.args.core c.index_mut.result.now c.push.new.self c.requires.core c.index_mut.ensures.value (c.push.ensures.room q t) h
