use Rattle.day_report.proofs.Axes.{Remains}
use Rattle.day_report.proofs.steps.axis_of.Given as goal

abbrev pub invariant-loop-mark : goal.invariant-loop-mark
invariant-loop-mark l = Remains l.marks l.mark-index l.first l.last
