use Rattle.dispatch_loop.proofs.Tells.{packets-on}
use Rattle.dispatch_loop.proofs.laws.sent_packets_are_the_rules.Goals as goal

pub returns : goal.returns
returns g c = λ packets turn s t p tied ps grows rule. packets-on packets p s t tied turn ps grows rule
