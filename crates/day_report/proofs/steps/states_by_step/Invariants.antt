use Rattle.day_report.specs.Picture.{opening_states}
use Rattle.day_report.proofs.Showing.{Stands}
use Rattle.day_report.proofs.steps.states_by_step.Given as goal

abbrev pub invariant-loop-cut : goal.invariant-loop-cut
invariant-loop-cut l = Stands (opening_states l.config) l.marks l.cut-items l.cut-index l.done l.now l.states.items
