use Rattle.std.proofs.Common.{◌≡◌, take}
use Rattle.what_if.specs.Sums.{withheld_from}
use Rattle.what_if.proofs.summary.withheld_from.Given as goal

abbrev pub invariant-loop-row : goal.invariant-loop-row
invariant-loop-row l = l.cents ≡ withheld_from l.initial.cents (take l.row-index l.rows)
