use Rattle.std.proofs.Common.{◌≡◌, ◌+◌}
use Rattle.site_lock.specs.Passes.{AreNew}
use Rattle.site_lock.proofs.builder.ForecourtBuilder.make_passes.Given as goal

abbrev pub invariant-loop-before : goal.invariant-loop-before
invariant-loop-before g l = (l.rest.parts + l.before ≡ l.passes) × (l.rest.amount ≡ 0) × AreNew l.before l.all.items
