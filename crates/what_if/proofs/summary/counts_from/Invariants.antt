use Rattle.std.proofs.Common.{◌≡◌, take}
use Rattle.what_if.specs.Sums.{counts_from}
use Rattle.what_if.proofs.summary.counts_from.Given as goal

abbrev pub invariant-loop-row : goal.invariant-loop-row
invariant-loop-row l = l.counts ≡ counts_from l.part l.initial.counts (take l.row-index l.rows)
