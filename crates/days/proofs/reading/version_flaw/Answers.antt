use Rattle.std.proofs.Common.{arith}
use Rattle.days.proofs.reading.version_flaw.Goals as goal

pub returns-in-Err : goal.returns-in-Err
returns-in-Err c = λ version.
    c.refused.ensures (omega (arith, c.if-slot-gt15.false)) version c.args.mask c.args.layout c.in-Err.ensures.answers
