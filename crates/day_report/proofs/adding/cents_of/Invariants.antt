use Rattle.std.proofs.Common.{◌≡◌, ◌*◌, ◌≤◌, take}
use Rattle.std.specs.Prelude.{sum_by}
use Rattle.day_report.specs.declared.adding.Unpaid.{Unpaid}
use Rattle.day_report.proofs.adding.cents_of.Given as goal

abbrev pub invariant-loop-transaction : goal.invariant-loop-transaction
invariant-loop-transaction l =
    (l.cents ≡ sum_by (λ (u : Unpaid). u.amount) (take l.transaction-index l.unpaid)) × (l.cents ≤ 18446744073709551615 * l.transaction-index)
