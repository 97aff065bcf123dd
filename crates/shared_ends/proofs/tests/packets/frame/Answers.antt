use Rattle.std.proofs.Math.Nat.{mod-one}
use Rattle.shared_ends.proofs.tests.packets.frame.Goals as goal

pub returns : goal.returns
returns c = λ key. (mod-one _, tt)
