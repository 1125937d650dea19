use Rattle.std.proofs.Common.{◌≡◌, ◌+◌, ◌≤◌, drop}
use Rattle.site_config.specs.Doors.{count_single}
use Rattle.site_config.proofs.doors.count_of.Given as goal

-- The doors that are counted are those for one till each if `side` is tills, and those for some points only if `side`
-- is dispensers. `count`, plus the number of these doors among the rest of the doors, is their number among all doors.
abbrev pub invariant-loop-door : goal.invariant-loop-door
invariant-loop-door l = record {
  counted : l.count + count_single l.side (drop l.door-index l.doors) ≡ count_single l.side l.doors;
  few : l.count ≤ l.door-index;
}
