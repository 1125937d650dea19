use Rattle.std.proofs.Common.{◌≡◌, drop, fold}
use Rattle.explaining.specs.Described.{points_from, with_point}
use Rattle.explaining.proofs.request.points_from.Given as goal

abbrev pub invariant-loop-setting : goal.invariant-loop-setting
invariant-loop-setting l = fold with_point l.points (drop l.setting-index l.settings) ≡ points_from l.fn.before l.settings
