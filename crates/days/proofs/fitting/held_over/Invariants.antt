use Rattle.std.proofs.Common.{take}
use Rattle.days.specs.Fitting.{HaveTills}
use Rattle.days.proofs.fitting.held_over.Given as goal

abbrev pub invariant-loop-at : goal.invariant-loop-at
invariant-loop-at l = HaveTills l.tills (take l.at l.points)
