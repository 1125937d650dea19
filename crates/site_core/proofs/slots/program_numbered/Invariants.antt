use Rattle.std.proofs.Common.{◌≡◌, drop}
use Rattle.site_core.specs.Slots.{program_among}
use Rattle.site_core.proofs.slots.program_numbered.Given as goal

abbrev pub invariant-loop-version : goal.invariant-loop-version
invariant-loop-version l = program_among (drop l.version-index l.versions) l.number ≡ program_among l.versions l.number
