use Rattle.std.proofs.Math.Nat.{mod-one}
use Rattle.shared_ends.proofs.tests.packets.frames.Goals as goal

pub returns-clause-packets : goal.returns-clause-packets
returns-clause-packets c = λ key place p at. (mod-one _, tt)
