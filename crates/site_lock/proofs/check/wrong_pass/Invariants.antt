use Rattle.std.proofs.Common.{ℕ, ◌<◌, get_or}
use Rattle.site_lock.specs.Passes.{PassView}
use Rattle.site_lock.specs.Merge.{AgreesFrom}
use Rattle.site_lock.proofs.check.wrong_pass.Given as goal

abbrev pub invariant-loop-pass : goal.invariant-loop-pass
invariant-loop-pass g l = (k : ℕ) (d : PassView) → k < l.pass-index → AgreesFrom l.history (get_or l.passes k d).id l.base (get_or l.passes k d).receipts
