use Rattle.std.proofs.Common.{◌≡◌, ℕ, List, IfNone, IfSome, All, Any, subst}
use Rattle.decision_journal.specs.declared.entries.Entry.{Entry}
use Rattle.site_lock.specs.Merge.{Covered}
use Rattle.site_lock.proofs.check.uncovered_since.Goals as goal

pub returns-clause-none : goal.returns-clause-none
returns-clause-none g c =
    let P : List Entry → Type 0 = λ h. IfNone c.uncovered.result (All (Covered c.args.passes.now) h) in
    subst P c.behind.ensures c.uncovered.ensures.none

pub returns-clause-some : goal.returns-clause-some
returns-clause-some g c =
    let P : List Entry → Type 0 =
    λ h. IfSome c.uncovered.result (λ (x : ℕ × ℕ). Any (λ (e : Entry). (e.pass ≡ x.0) × (e.number ≡ x.1) × (Covered c.args.passes.now e → ⊥)) h) in
    subst P c.behind.ensures c.uncovered.ensures.some
