use Rattle.std.proofs.Common.{◌≤◌, arith, mul-le-mul}
use Rattle.day_report.proofs.sales.worth.Goals as goal

pub overflow_mul-scaled : goal.overflow_mul-scaled
overflow_mul-scaled c =
    let price : c.args.price ≤ 4294967295 = omega (arith, c.ranges.price) in
    let volume : c.args.volume ≤ 4294967295 = omega (arith, c.ranges.volume) in
    omega (arith, mul-le-mul price volume)

pub overflow_add-rounded : goal.overflow_add-rounded
overflow_add-rounded c =
    let price : c.args.price ≤ 4294967295 = omega (arith, c.ranges.price) in
    let volume : c.args.volume ≤ 4294967295 = omega (arith, c.ranges.volume) in
    omega (arith, mul-le-mul price volume)
