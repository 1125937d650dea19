-- Promises: a door takes a line exactly if its sessions accept the line. What a door takes is given by its role in the
-- configuration, and what its sessions accept by the role of these sessions. The lines are those of tills, and those of
-- dispensers that name a point from 1 to 32.
use Rattle.std.specs.Prelude.{◌≡◌, ◌≤◌, ◌&&◌, ℕ, Ok}
use Rattle.fuelling_point.specs.declared.kinds.DispenserEvent.{DispenserEvent}
use Rattle.till_request.specs.declared.act.Act.TheVariants as acts
use Rattle.till_request.specs.declared.act.Request.{Request}
use Rattle.till_request.specs.declared.act.Role.{Role}
use Rattle.till_request.specs.declared.act.Role.TheVariants as roles
use Rattle.till_request.specs.declared.act.Stray.{Stray}
use Rattle.till_request.specs.Grammar.{allows, is_within_role}
use Rattle.site_config.specs.declared.flaw.Place.{Place}
use Rattle.site_config.specs.declared.flaw.Side.TheVariants as sides
use Rattle.site_config.specs.declared.raw.RawRole.{RawRole}
use Rattle.site_config.specs.Doors.{role_of, takes, telling}

-- `raw` is a door's role in the configuration, and `role` is the role of its sessions. The door takes a till's lines
-- exactly if `role` allows tills' lines and isn't limited to another till. For each point from 1 to 32, the door takes
-- the dispensers' lines that name this point exactly if `role` allows dispensers' lines and isn't limited to a set of
-- points that lacks this one.
pub record TakesOwnLines (raw : RawRole) (role : Role) : Type 0 where
  pub of_tills : (number : ℕ) (request : Request)
      → takes sides.Tills number raw ≡ (allows role roles.Till && is_within_role role (acts.Till number request))
  pub of_points : (point : ℕ) (event : DispenserEvent) → 1 ≤ point → point ≤ 32
      → takes sides.Dispensers point raw ≡ (allows role roles.Dispenser && is_within_role role (acts.Dispenser point event))

abbrev pub DoorsTakeOwnLines : Type 0
DoorsTakeOwnLines =
    (tills points : ℕ) (stray : Stray) (place : Place) (raw : RawRole) (role : Role) → role_of tills points place raw ≡ Ok role
    → TakesOwnLines raw (telling stray role)
