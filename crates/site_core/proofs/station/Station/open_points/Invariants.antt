use Rattle.std.proofs.Common.{◌≡◌, ◌≤◌, take}
use Rattle.std.specs.Prelude.{count_by, nat_le}
use Rattle.fuelling_point.specs.Table.{PointState}
use Rattle.fuelling_point.specs.States.{state_number}
use Rattle.site_core.proofs.station.Station.open_points.Given as goal

abbrev pub invariant-loop-point : goal.invariant-loop-point
invariant-loop-point l =
    (l.count ≡ count_by (λ (p : PointState). nat_le 3 (state_number p.state)) (take l.point-index l.point-items)) × (l.count ≤ l.point-index)
