use Rattle.std.proofs.Common.{◌≡◌, drop}
use Rattle.site_config.specs.Doors.{page_clash}
use Rattle.site_config.proofs.doors.page_clash.Given as goal

-- The flaw of the first door that has the page's port `port` (None if no door has it) is the same for the rest of the
-- doors as for all of them.
abbrev pub invariant-loop-door : goal.invariant-loop-door
invariant-loop-door l = page_clash l.port (drop l.door-index l.doors) ≡ page_clash l.port l.doors
