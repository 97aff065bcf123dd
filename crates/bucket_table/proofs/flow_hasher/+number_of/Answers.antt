use Rattle.std.proofs.Common.{◌≤◌, length, arith}
use Rattle.bucket_table.proofs.FlowHash.{power_fits}
use Rattle.bucket_table.proofs.flow_hasher.+number_of.Goals as goal

pub overflow_mul-result : goal.overflow_mul-result
overflow_mul-result t c =
    let few : length c.in-Some.rest.now ≤ 15 = omega (arith, c.requires, c.in-Some.ensures.cases.1) in
    omega (arith, power_fits (length c.in-Some.rest.now) few, c.number_of.ensures.bound)

pub overflow_add-result : goal.overflow_add-result
overflow_add-result t c =
    let few : length c.in-Some.rest.now ≤ 15 = omega (arith, c.requires, c.in-Some.ensures.cases.1) in
    omega (arith, power_fits (length c.in-Some.rest.now) few, c.number_of.ensures.bound)
