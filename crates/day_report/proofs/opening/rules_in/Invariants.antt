use Rattle.std.proofs.Common.{◌≡◌, take}
use Rattle.day_report.specs.Carried.{carried_from}
use Rattle.day_report.proofs.opening.rules_in.Given as goal

abbrev pub invariant-loop-slot : goal.invariant-loop-slot
invariant-loop-slot l = l.found.items ≡ carried_from 0 (take l.slot l.rules)
