use Rattle.std.proofs.Common.{◌≡◌, map, take}
use Rattle.what_if.specs.Sums.{withheld_in}
use Rattle.what_if.proofs.summary.withheld_in.Given as goal

abbrev pub invariant-loop-rows : goal.invariant-loop-rows
invariant-loop-rows l = l.cents ≡ withheld_in (map (λ rows. rows.rows.now) (take l.rows-index l.all))
