use Rattle.std.proofs.Common.{rules, arith}
use Rattle.site_lock.proofs.Fresh.{one_new}
use Rattle.site_lock.proofs.builder.ForecourtBuilder.make_passes.Goals as goal

pub loop-before-preserved : goal.loop-before-preserved
loop-before-preserved g c =
    let inv = c.loop-before.invariant in (
      omega (arith, inv.0, c.split_off-share.ensures.parts_left),
      omega (arith, inv.1, c.split_off-share.ensures.amount_left),
      one_new c.loop-before.before c.loop-before.all.items c.push.new.self.items inv.2 (search rules),
    )
