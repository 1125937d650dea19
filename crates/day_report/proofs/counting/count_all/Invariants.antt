use Rattle.std.proofs.Common.{◌≡◌, take}
use Rattle.std.specs.Prelude.{fold}
use Rattle.day_report.specs.Totals.{table_with}
use Rattle.day_report.proofs.counting.count_all.Given as goal

abbrev pub invariant-loop-decision : goal.invariant-loop-decision
invariant-loop-decision l = l.table ≡ fold table_with l.fn.table (take l.decision-index l.decisions)
