use Rattle.std.proofs.Common.{◌≡◌, take}
use Rattle.day_report.specs.Totals.{unpaid_of}
use Rattle.day_report.proofs.adding.unpaid_of.Given as goal

abbrev pub invariant-loop-place : goal.invariant-loop-place
invariant-loop-place l = l.found.items ≡ unpaid_of (take l.place l.points)
