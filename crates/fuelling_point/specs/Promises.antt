-- Promises: what a call on a point returns, and how it changes the point.
use Rattle.std.specs.Prelude.{◌≡◌, Result, Ok, Err}
use Rattle.fuelling_point.specs.declared.kinds.PointFault.{PointFault}
use Rattle.fuelling_point.specs.Table.{PointState, StepResult}

-- A call that carries out an event or a command did what the table of a fuelling point (`Table.antt`) says. If the
-- table gives a new point and a value, the call returned the value, and the point is the new one. If the table gives a
-- fault, the call returned the fault and changed nothing.
abbrev pub FollowsTable : {T : Type 0} → StepResult T → PointState → Result T PointFault → PointState → Type 0
FollowsTable (Ok (next, given)) old result new = (result ≡ Ok given) × (new ≡ next)
FollowsTable (Err fault) old result new = (result ≡ Err fault) × (new ≡ old)
