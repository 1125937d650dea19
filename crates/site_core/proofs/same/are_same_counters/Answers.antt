use Rattle.std.proofs.Common.{arith, refl}
use Rattle.std.proofs.lemmas.List.{ext_get_or}
use Rattle.site_core.proofs.same.are_same_counters.Goals as goal

pub returns : goal.returns
returns c = (
  λ yes. ext_get_or (0, 0) c.args.a.now c.args.b.now (omega (arith, c.get.ensures.right.many, c.get-2.ensures.right.many))
      (λ k lt. c.loop-c.invariant k (omega (arith, lt, c.get.ensures.right.many))),
  λ same. refl,
)
