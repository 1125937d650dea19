use Rattle.std.proofs.Common.{arith}
use Rattle.site_core.proofs.Filling.{same-both}
use Rattle.site_core.proofs.comparing.first_point.Goals as goal

pub returns-clause-first : goal.returns-clause-first
returns-clause-first c =
    same-both c.args.count c.args.a.now c.args.b.now (omega arith) (λ k d lt. c.loop-i.invariant k d (omega arith)) c.requires.others
