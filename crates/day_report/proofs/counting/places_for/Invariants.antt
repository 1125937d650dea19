use Rattle.std.proofs.Common.{◌≡◌, take}
use Rattle.day_report.specs.Totals.{places_for}
use Rattle.day_report.proofs.counting.places_for.Given as goal

abbrev pub invariant-loop-version : goal.invariant-loop-version
invariant-loop-version l = (l.places ≡ places_for (take l.version-index l.versions))
