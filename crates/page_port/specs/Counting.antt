-- Definitions: which doors and which roles are listed with their counts. What is counted is shared by threads, so no
-- contract says how much it is.
use Rattle.std.specs.Prelude.{ℕ, List, [], ◌∷◌, ◌++◌, nat_lt, string_bytes, if◌then◌else◌}
use Rattle.till_request.specs.declared.act.Role.{Role}
use Rattle.till_request.specs.declared.act.Role.TheVariants as roles
use Rattle.pages.specs.declared.station.DoorCounts.{DoorCounts}
use Rattle.page_port.specs.declared.connections.NamedDoor.{NamedDoor}
use Rattle.page_port.specs.declared.connections.ConnectionCounts.{ConnectionCounts}

-- what a door is called: its address, and whom it is for
abbrev pub DoorName : Type 0
DoorName = List ℕ × List ℕ

abbrev pub name_of_door : NamedDoor → DoorName
name_of_door door = (string_bytes door.address, string_bytes door.who)

abbrev pub name_of_counts : DoorCounts → DoorName
name_of_counts counts = (counts.address.now, counts.who.now)

-- a role with this many workers is listed if it has one, since its doors have each at least one
abbrev pub listed : ℕ → Role → List Role
listed workers role = if nat_lt 0 workers then role ∷ [] else []

-- the roles that have a door: tills, dispensers and the owner, in this order
abbrev pub roles_with_doors : ConnectionCounts → List Role
roles_with_doors counts =
    listed counts.tills.workers roles.Till ++ (listed counts.dispensers.workers roles.Dispenser ++ listed counts.owner.workers roles.Owner)
