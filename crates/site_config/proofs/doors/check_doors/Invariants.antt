use Rattle.std.proofs.Common.{◌≡◌, drop}
use Rattle.site_config.specs.Doors.{doors_fit}
use Rattle.site_config.proofs.doors.check_doors.Given as goal

-- Checking the rest of the doors gives the same as checking all of them.
abbrev pub invariant-loop-door : goal.invariant-loop-door
invariant-loop-door l = doors_fit l.tills l.points (drop l.door-index l.doors) ≡ doors_fit l.tills l.points l.doors
