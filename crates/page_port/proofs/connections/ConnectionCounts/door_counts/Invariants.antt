use Rattle.std.proofs.Common.{◌≡◌, map, take}
use Rattle.page_port.specs.Counting.{name_of_counts, name_of_door}
use Rattle.page_port.proofs.connections.ConnectionCounts.door_counts.Given as goal

abbrev pub invariant-loop-door : goal.invariant-loop-door
invariant-loop-door l = map name_of_counts l.door_counts.items ≡ map name_of_door (take l.door-index l.self.doors.items)
