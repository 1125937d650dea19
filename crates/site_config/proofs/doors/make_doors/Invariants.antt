use Rattle.std.proofs.Common.{◌≡◌, drop, map}
use Rattle.site_config.specs.Document.{with_front}
use Rattle.site_config.specs.Doors.{each_door, door_of, door_seen}
use Rattle.site_config.proofs.doors.make_doors.Given as goal

-- Making the rest of the doors and appending them to those made so far gives the same as making all doors.
abbrev pub invariant-loop-door : goal.invariant-loop-door
invariant-loop-door l =
    with_front (map door_seen l.made.items) (each_door (door_of l.counts) (drop l.door-index l.doors)) ≡ each_door (door_of l.counts) l.doors
