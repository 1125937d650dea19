use Rattle.day_report.proofs.Cuts.{Cuts}
use Rattle.day_report.proofs.steps.step_ends.Given as goal

abbrev pub invariant-loop-place : goal.invariant-loop-place
invariant-loop-place l = Cuts l.axis l.steps l.marks l.place l.step_ends.items
