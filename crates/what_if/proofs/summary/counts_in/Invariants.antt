use Rattle.std.proofs.Common.{◌≡◌, map, take}
use Rattle.what_if.specs.Sums.{counts_in}
use Rattle.what_if.proofs.summary.counts_in.Given as goal

abbrev pub invariant-loop-rows : goal.invariant-loop-rows
invariant-loop-rows l = l.counts ≡ counts_in l.part (map (λ rows. rows.rows.now) (take l.rows-index l.all))
