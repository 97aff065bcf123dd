use Rattle.std.proofs.Common.{None, Some}
use Rattle.rsspp_main.proofs.Complete.{said, done, broken, block, too_many, made, planned, bad_line, refused, shown, too_long, undrawn, words}
use Rattle.rsspp_main.proofs.top.rsspp.Goals as goal

pub returns-in-Err-clause-outcome : goal.returns-in-Err-clause-outcome
returns-in-Err-clause-outcome g c = (
  Some c.in-Err.fault,
  c.status.ensures,
  c.in-Err.ensures.outcome,
  said c.fault_line.result _ _ _ _ _ c.fault_line.ensures.ok c.fault_line.ensures.err c.fault_line.ensures.cause,
)

pub returns-in-Err-clause-words : goal.returns-in-Err-clause-words
returns-in-Err-clause-words g c = rw c.status.ensures (words c.args.hashing g.N.RunName.packets None _ _ _ (Some c.in-Err.fault) c.in-Err.ensures.outcome)

pub returns-in-Err-clause-refused : goal.returns-in-Err-clause-refused
returns-in-Err-clause-refused g c = rw c.status.ensures (refused c.args.hashing g.N.RunName.packets None _ _ _ (Some c.in-Err.fault) c.in-Err.ensures.outcome)

pub returns-in-Err-clause-done : goal.returns-in-Err-clause-done
returns-in-Err-clause-done g c = rw c.status.ensures (done c.args.hashing g.N.RunName.packets None _ _ _ (Some c.in-Err.fault) c.in-Err.ensures.outcome)

pub returns-in-Err-clause-broken : goal.returns-in-Err-clause-broken
returns-in-Err-clause-broken g c = rw c.status.ensures (broken c.args.hashing g.N.RunName.packets None _ _ _ (Some c.in-Err.fault) c.in-Err.ensures.outcome)

pub returns-in-Err-clause-block : goal.returns-in-Err-clause-block
returns-in-Err-clause-block g c = rw c.status.ensures (block c.args.hashing g.N.RunName.packets None _ _ _ (Some c.in-Err.fault) c.in-Err.ensures.outcome)

pub returns-in-Err-clause-too_many : goal.returns-in-Err-clause-too_many
returns-in-Err-clause-too_many g c = rw c.status.ensures (too_many c.args.hashing g.N.RunName.packets None _ _ _ (Some c.in-Err.fault) c.in-Err.ensures.outcome)

pub returns-in-Err-clause-planned : goal.returns-in-Err-clause-planned
returns-in-Err-clause-planned g c = rw c.status.ensures (planned c.args.hashing g.N.RunName.packets None _ _ _ (Some c.in-Err.fault) c.in-Err.ensures.outcome)

pub returns-in-Err-clause-bad_line : goal.returns-in-Err-clause-bad_line
returns-in-Err-clause-bad_line g c = rw c.status.ensures (bad_line c.args.hashing g.N.RunName.packets None _ _ _ (Some c.in-Err.fault) c.in-Err.ensures.outcome)

pub returns-in-Err-clause-made : goal.returns-in-Err-clause-made
returns-in-Err-clause-made g c = rw c.status.ensures (made c.args.hashing g.N.RunName.packets None _ _ _ (Some c.in-Err.fault) c.in-Err.ensures.outcome)

pub returns-in-Ok-clause-refused : goal.returns-in-Ok-clause-refused
returns-in-Ok-clause-refused g c = refused c.args.hashing g.N.RunName.packets c.in-Ok.trace _ _ _ None c.in-Ok.ensures.outcome

pub returns-in-Ok-clause-broken : goal.returns-in-Ok-clause-broken
returns-in-Ok-clause-broken g c = broken c.args.hashing g.N.RunName.packets c.in-Ok.trace _ _ _ None c.in-Ok.ensures.outcome

pub returns-in-Ok-clause-block : goal.returns-in-Ok-clause-block
returns-in-Ok-clause-block g c = block c.args.hashing g.N.RunName.packets c.in-Ok.trace _ _ _ None c.in-Ok.ensures.outcome

pub returns-in-Ok-clause-too_many : goal.returns-in-Ok-clause-too_many
returns-in-Ok-clause-too_many g c = too_many c.args.hashing g.N.RunName.packets c.in-Ok.trace _ _ _ None c.in-Ok.ensures.outcome

pub returns-in-Ok-clause-bad_line : goal.returns-in-Ok-clause-bad_line
returns-in-Ok-clause-bad_line g c = bad_line c.args.hashing g.N.RunName.packets c.in-Ok.trace _ _ _ None c.in-Ok.ensures.outcome

pub returns-in-Err-clause-shown : goal.returns-in-Err-clause-shown
returns-in-Err-clause-shown g c = rw c.status.ensures (shown c.args.hashing g.N.RunName.packets None _ _ _ (Some c.in-Err.fault) c.in-Err.ensures.outcome)

pub returns-in-Err-clause-too_long : goal.returns-in-Err-clause-too_long
returns-in-Err-clause-too_long g c = rw c.status.ensures (too_long c.args.hashing g.N.RunName.packets None _ _ _ (Some c.in-Err.fault) c.in-Err.ensures.outcome)

pub returns-in-Ok-clause-too_long : goal.returns-in-Ok-clause-too_long
returns-in-Ok-clause-too_long g c = too_long c.args.hashing g.N.RunName.packets c.in-Ok.trace _ _ _ None c.in-Ok.ensures.outcome

pub returns-in-Err-clause-undrawn : goal.returns-in-Err-clause-undrawn
returns-in-Err-clause-undrawn g c = rw c.status.ensures (undrawn c.args.hashing g.N.RunName.packets None _ _ _ (Some c.in-Err.fault) c.in-Err.ensures.outcome)

pub returns-in-Ok-clause-undrawn : goal.returns-in-Ok-clause-undrawn
returns-in-Ok-clause-undrawn g c = undrawn c.args.hashing g.N.RunName.packets c.in-Ok.trace _ _ _ None c.in-Ok.ensures.outcome
