use Rattle.std.proofs.Common.{refl, map}
use Rattle.std.specs.String.{string_bytes}
use Rattle.command_words.specs.Reading.{command_of}
use Rattle.rsspp_main.specs.Run.{ends}
use Rattle.rsspp_main.proofs.Complete.{unread}
use Rattle.rsspp_main.proofs.top.read_and_run.Goals as goal

pub returns-in-Err-clause-outcome : goal.returns-in-Err-clause-outcome
returns-in-Err-clause-outcome g c =
    let left = g.S.Source.left in
    let faults = g.S.Source.faults in
    let writes = g.K.Sink.faults in
    let holds = g.K.Sink.may_hold in
    let now = ends (left c.args.source.now) (faults c.args.source.now) (writes c.args.out.now) (holds c.args.out.now) in
    rw c.fault_of_words.ensures (unread c.args.hashing g.N.RunName.packets (command_of (map string_bytes c.args.words.now)) now now c.in-Err.fault (record { left = refl; reads = refl; writes = refl; silent = λ bytes h. h }) c.in-Err.ensures.answers)
