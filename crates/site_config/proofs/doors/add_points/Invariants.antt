use Rattle.std.proofs.Common.{◌≡◌, drop}
use Rattle.site_config.specs.Doors.{with_points}
use Rattle.site_config.proofs.doors.add_points.Given as goal

-- Adding the remaining points of the list to the set `bits` gives the same as adding all its points to the empty set.
abbrev pub invariant-loop-value : goal.invariant-loop-value
invariant-loop-value l = record {
  read : with_points l.list l.place l.points l.bits (drop l.value-index l.values) ≡ with_points l.list 0 l.points 0 l.values;
  counted : l.place ≡ l.value-index;
}
