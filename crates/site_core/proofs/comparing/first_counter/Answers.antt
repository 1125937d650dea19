use Rattle.std.proofs.Common.{arith}
use Rattle.site_core.proofs.Counted.{all-agree}
use Rattle.site_core.proofs.comparing.first_counter.Goals as goal

pub returns : goal.returns
returns c =
    all-agree c.args.declared c.args.a.now c.args.b.now c.get.ensures.right.many c.get-2.ensures.right.many
    (λ k lt bit. c.loop-c.invariant k (omega arith) bit)
