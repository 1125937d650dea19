use Rattle.std.proofs.Common.{◌≡◌, drop, fold}
use Rattle.explaining.specs.Described.{view_count, with_count}
use Rattle.explaining.proofs.request.view_count.Given as goal

abbrev pub invariant-loop-setting : goal.invariant-loop-setting
invariant-loop-setting l = fold with_count l.count (drop l.setting-index l.settings) ≡ view_count l.fn.point l.settings
