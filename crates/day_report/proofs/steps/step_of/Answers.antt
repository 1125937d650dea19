use Rattle.std.proofs.Common.{◌≤◌, arith, mul-le-mul}
use Rattle.day_report.proofs.steps.step_of.Goals as goal

pub overflow_mul-scaled : goal.overflow_mul-scaled
overflow_mul-scaled c =
    let at : c.args.at ≤ 18446744073709551615 = omega (arith, c.ranges.at) in
    let steps : c.args.steps ≤ 18446744073709551615 = omega (arith, c.ranges.steps) in
    omega (arith, mul-le-mul at steps)
