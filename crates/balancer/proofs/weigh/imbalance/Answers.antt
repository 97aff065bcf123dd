use Rattle.std.proofs.Common.{arith}
use Rattle.balancer.proofs.Carried.{sum-le}
use Rattle.balancer.proofs.weigh.imbalance.Goals as goal

pub total-total-requires : goal.total-total-requires
total-total-requires c = let h = sum-le c.args.carried.now c.requires.few c.requires.small in omega (arith, h)

pub deviation-deviation-requires-clause-total : goal.deviation-deviation-requires-clause-total
deviation-deviation-requires-clause-total c = let h = sum-le c.args.carried.now c.requires.few c.requires.small in omega (arith, h, c.total-total.ensures)
