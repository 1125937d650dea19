use Rattle.std.proofs.Common.{All, take}
use Rattle.days.specs.Ranges.{PointFits}
use Rattle.days.proofs.ranges.points_in_range.Given as goal

abbrev pub invariant-loop-point : goal.invariant-loop-point
invariant-loop-point l = All PointFits (take l.point-index l.points)
