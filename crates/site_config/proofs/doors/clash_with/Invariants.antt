use Rattle.std.proofs.Common.{◌≡◌, drop}
use Rattle.site_config.specs.Doors.{clash_with}
use Rattle.site_config.proofs.doors.clash_with.Given as goal

-- The flaw of the first other door that has the same address as `door`, or is for the same single till (None if there
-- is no such door), is the same for the rest of the other doors as for all of them.
abbrev pub invariant-loop-other : goal.invariant-loop-other
invariant-loop-other l = clash_with l.door (drop l.other-index l.others) ≡ clash_with l.door l.others
