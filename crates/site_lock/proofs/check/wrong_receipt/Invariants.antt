use Rattle.std.proofs.Common.{ℕ, length}
use Rattle.site_lock.specs.Merge.{AgreesFrom, FailsFrom}
use Rattle.site_lock.proofs.check.wrong_receipt.Given as goal

abbrev pub invariant-loop-receipt : goal.invariant-loop-receipt
invariant-loop-receipt l =
    (AgreesFrom l.history l.id l.last l.rest → AgreesFrom l.history l.id l.base l.receipts)
    × ((n : ℕ) → FailsFrom l.history l.id l.last l.rest n → FailsFrom l.history l.id l.base l.receipts n)

abbrev pub decreases-loop-receipt : goal.decreases-loop-receipt
decreases-loop-receipt l = length l.rest
