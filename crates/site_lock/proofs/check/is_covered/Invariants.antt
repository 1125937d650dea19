use Rattle.std.proofs.Common.{ℕ, ◌<◌, get_or}
use Rattle.site_lock.specs.Passes.{PassView}
use Rattle.site_lock.specs.Merge.{Covers}
use Rattle.site_lock.proofs.check.is_covered.Given as goal

abbrev pub invariant-loop-pass : goal.invariant-loop-pass
invariant-loop-pass g l = (k : ℕ) (d : PassView) → k < l.pass-index → Covers l.entry (get_or l.passes k d) → ⊥
