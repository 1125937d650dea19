use Rattle.std.proofs.Common.{◌≡◌, drop}
use Rattle.std.specs.List.{list_any}
use Rattle.site_config.specs.declared.raw.RawDoor.{RawDoor}
use Rattle.site_config.specs.Doors.{takes}
use Rattle.site_config.proofs.doors.is_taken.Given as goal

-- Some door from the index `door-index` on takes the lines exactly if some door of `doors` takes them. The lines are
-- those of till `number`, if `side` is tills, or the dispensers' lines that name point `number`, if `side` is
-- dispensers.
abbrev pub invariant-loop-door : goal.invariant-loop-door
invariant-loop-door l =
    list_any (λ (d : RawDoor). takes l.side l.number d.role) (drop l.door-index l.doors)
    ≡ list_any (λ (d : RawDoor). takes l.side l.number d.role) l.doors
