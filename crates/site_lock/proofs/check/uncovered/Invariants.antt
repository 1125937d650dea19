use Rattle.std.proofs.Common.{ℕ, ◌<◌, get_or}
use Rattle.decision_journal.specs.declared.entries.Entry.{Entry}
use Rattle.site_lock.specs.Merge.{Covered}
use Rattle.site_lock.proofs.check.uncovered.Given as goal

abbrev pub invariant-loop-entry : goal.invariant-loop-entry
invariant-loop-entry g l = (k : ℕ) (d : Entry) → k < l.entry-index → Covered l.passes (get_or l.history k d)
