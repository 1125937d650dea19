use Rattle.std.proofs.Common.{ℕ, ◌≡◌, ◌<◌, ◌+◌, ◌==◌}
use Rattle.std.specs.Prelude.{count_by}
use Rattle.site_lock.specs.Passes.{PassView}
use Rattle.site_lock.proofs.check.are_all.Given as goal

abbrev pub invariant-loop-before : goal.invariant-loop-before
invariant-loop-before g l = (k : ℕ) → k < l.before → count_by (λ (p : PassView). p.id == k + 1) l.passes ≡ 1
