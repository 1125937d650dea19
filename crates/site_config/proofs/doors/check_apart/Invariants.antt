use Rattle.std.proofs.Common.{◌≡◌, length}
use Rattle.site_config.specs.Doors.{clash_among}
use Rattle.site_config.proofs.doors.check_apart.Given as goal

-- The flaw of the first two doors that have the same address, or are for the same single till (None if there are no
-- such doors), is the same for the rest of the doors as for all of them.
abbrev pub invariant-loop-rest : goal.invariant-loop-rest
invariant-loop-rest l = clash_among l.rest ≡ clash_among l.doors

abbrev pub decreases-loop-rest : goal.decreases-loop-rest
decreases-loop-rest l = length l.rest
