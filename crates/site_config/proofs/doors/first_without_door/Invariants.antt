use Rattle.std.proofs.Common.{◌≡◌, ◌≤◌, ◌-◌, None}
use Rattle.site_config.specs.Doors.{first_without_door}
use Rattle.site_config.proofs.doors.first_without_door.Given as goal

-- Each till or point from 1 to `number` has a door that takes its lines (for a point: the dispensers' lines that name
-- it).
abbrev pub invariant-loop-number : goal.invariant-loop-number
invariant-loop-number l = record {
  taken : None ≡ first_without_door l.side l.doors l.number;
  few : l.number ≤ l.most;
}

abbrev pub decreases-loop-number : goal.decreases-loop-number
decreases-loop-number l = l.most - l.number
