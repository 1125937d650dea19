use Rattle.std.proofs.Common.{All, subst}
use Rattle.std.proofs.lemmas.List.{take_all}
use Rattle.std.proofs.lemmas.List.Elements.{All-more}
use Rattle.days.specs.Ranges.{PointFits}
use Rattle.days.proofs.ranges.points_in_range.Goals as goal

pub loop-point-preserved : goal.loop-point-preserved
loop-point-preserved c =
    All-more PointFits c.args.points.now c.loop-point.point-index c.point-item.result c.loop-point-test.true c.loop-point.invariant
    (subst PointFits c.point-item.is c.point_in_range.ensures)

pub returns : goal.returns
returns c = subst (All PointFits) (take_all c.loop-point.point-index c.args.points.now c.loop-point-test.false) c.loop-point.invariant
