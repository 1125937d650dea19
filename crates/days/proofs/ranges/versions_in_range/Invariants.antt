use Rattle.std.proofs.Common.{All, take}
use Rattle.days.specs.Ranges.{VersionFits}
use Rattle.days.proofs.ranges.versions_in_range.Given as goal

abbrev pub invariant-loop-rule : goal.invariant-loop-rule
invariant-loop-rule l = All VersionFits (take l.rule-index l.rules)
