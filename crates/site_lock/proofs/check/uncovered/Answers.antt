use Rattle.std.proofs.Common.{rules, ◌<◌, length}
use Rattle.decision_journal.specs.declared.entries.Entry.{Entry}
use Rattle.site_lock.specs.Merge.{Covered}
use Rattle.site_lock.proofs.Loops.{all_more}
use Rattle.site_lock.proofs.check.uncovered.Goals as goal

pub loop-entry-preserved : goal.loop-entry-preserved
loop-entry-preserved g c =
    let P : Entry → Type 0 = λ e. Covered c.args.passes.now e in
    let lt : c.loop-entry.entry-index < length c.args.history.now = search rules in
    let here : P c.entry-item.result = search rules in
    all_more P c.args.history.now c.loop-entry.entry-index c.entry-item.result lt c.entry-item.is c.loop-entry.invariant here
