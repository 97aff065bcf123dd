use Rattle.std.proofs.Common.{◌≡◌, drop}
use Rattle.command_words.specs.Values.{never_falls}
use Rattle.command_words.proofs.orders.never_falls.Given as goal

abbrev pub invariant-loop-order : goal.invariant-loop-order
invariant-loop-order l = never_falls l.least (drop l.order-index l.orders) ≡ never_falls 0 l.orders
