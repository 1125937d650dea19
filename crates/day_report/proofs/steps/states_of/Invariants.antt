use Rattle.std.proofs.Common.{◌≡◌, map, take}
use Rattle.fuelling_point.specs.Table.{PointState}
use Rattle.day_report.proofs.steps.states_of.Given as goal

abbrev pub invariant-loop-point : goal.invariant-loop-point
invariant-loop-point l = l.states.items ≡ map (λ (p : PointState). p.state) (take l.point-index l.points)
