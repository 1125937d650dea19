use Rattle.std.proofs.Common.{arith}
use Rattle.days.specs.Text.{point_lines}
use Rattle.days.proofs.Written.{adds_next}
use Rattle.days.proofs.writing.put_points.Goals as goal

pub loop-at-preserved : goal.loop-at-preserved
loop-at-preserved c =
    adds_next point_lines 1 c.args.points.now _ _ _ _ _ _ _ c.loop-at-test.true (omega arith) c.index-points-at.is c.loop-at.invariant
    c.in_ok-put_point.ensures
